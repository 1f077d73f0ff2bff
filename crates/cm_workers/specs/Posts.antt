-- Posts: what a block has for the rounds, a parcel of each sort. Ours.
use Rattle.std.specs.Prelude.{ℕ}
use Rattle.cm_blocks.specs.Parcels.{Parcel}
use Rattle.cm_subcube.specs.declared.round.Kind.{Kind}
use Rattle.cm_subcube.specs.declared.round.Kind.TheVariants as kind
use Rattle.cm_subcube.specs.Parcels.{blank_parcel}
use Rattle.cm_workers.specs.declared.post.Post.{Post}

-- the parcel of a post that goes in a round of a kind
abbrev pub lane_in : Kind → Post → Parcel
lane_in kind.North post = post.edge
lane_in kind.South post = post.edge
lane_in (kind.Dim d) post = post.mail

-- nothing in it
abbrev pub blank_post : ℕ → ℕ → Post
blank_post n k = record { mail = blank_parcel n k (kind.Dim 0); edge = blank_parcel n k kind.North }

-- a parcel that goes in a round of a kind, and nothing else
abbrev pub post_of : ℕ → ℕ → Kind → Parcel → Post
post_of n k kind.North parcel = record { mail = blank_parcel n k (kind.Dim 0); edge = parcel }
post_of n k kind.South parcel = record { mail = blank_parcel n k (kind.Dim 0); edge = parcel }
post_of n k (kind.Dim d) parcel = record { mail = parcel; edge = blank_parcel n k kind.North }
