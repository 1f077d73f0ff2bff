-- Parcels as they are kept. Ours.
use Rattle.std.specs.Prelude.{◌≡◌, ◌≢◌, ◌⊎◌, ℕ, ◌+◌, ◌-◌, ◌<◌, ◌≤◌, false, true, Option, None, length}
use Rattle.cm_bits.specs.declared.plane.Dir.{Dir}
use Rattle.cm_bits.specs.declared.plane.Dir.TheVariants as dir
use Rattle.cm_model.specs.declared.act.Act.{Act}
use Rattle.cm_model.specs.declared.act.Act.TheVariants as act
use Rattle.cm_model.specs.declared.act.Nano.{Nano}
use Rattle.cm_model.specs.declared.message.Message.{Message}
use Rattle.cm_model.specs.Processor.{NEWS}
use Rattle.cm_model.specs.Each.{tabulate}
use Rattle.cm_model.specs.Place.{columns}
use Rattle.cm_model.specs.Array.{nth_or_nil}
use Rattle.cm_model.specs.Wiring.{is_cut}
use Rattle.cm_blocks.specs.Parts.{Part, block_size}
use Rattle.cm_blocks.specs.Parcels.{Parcel, Blank, Mail, Edge, mail_in}
use Rattle.cm_news.specs.Bands.{edge_bits}
use Rattle.cm_subcube.specs.declared.parcel.Load.{Load}
use Rattle.cm_subcube.specs.declared.parcel.Load.TheVariants as load
use Rattle.cm_subcube.specs.declared.round.Kind.{Kind}
use Rattle.cm_subcube.specs.declared.round.Kind.TheVariants as kind
use Rattle.cm_subcube.specs.declared.round.Round.{Round}

-- what a parcel has
abbrev pub parcel_of : Load → Parcel
parcel_of (load.Mail lane) = Mail lane.items
parcel_of (load.Edge row) = Edge (edge_bits row.items)

-- a parcel of a kind, with no message and no bit in it
abbrev pub blank_parcel : ℕ → ℕ → Kind → Parcel
blank_parcel n k kind.North = Edge (tabulate 0 (columns n) (λ column. false))
blank_parcel n k kind.South = Edge (tabulate 0 (columns n) (λ column. false))
blank_parcel n k (kind.Dim d) = Mail (tabulate 0 (block_size n k) (λ place. None))

-- a dimension at which 2 ^ k blocks of a cube of n dimensions exchange
pub record IsOuter (n k d : ℕ) : Type 0 where
  pub from : n - k ≤ d
  pub below : d < n

-- an instruction at which more blocks than one exchange over NEWS in a direction
pub record IsSent (k : ℕ) (to : Dir) (nano : Nano) : Type 0 where
  pub blocks : k ≢ 0
  pub news : nano.write ≡ NEWS
  pub dir : nano.dir ≡ to

-- an act that is one
abbrev pub IsOver : ℕ → Dir → Act → Type 0
IsOver k to (act.Nano nano) = IsSent k to nano
IsOver k to act.Sense = ⊥
IsOver k to act.Cycle = ⊥

-- an act and a kind at which 2 ^ k blocks exchange
abbrev pub IsExchangeBy : ℕ → ℕ → Act → Kind → Type 0
IsExchangeBy n k one kind.North = IsOver k dir.North one
IsExchangeBy n k one kind.South = IsOver k dir.South one
IsExchangeBy n k one (kind.Dim d) = IsOuter n k d

-- a round at which they do
abbrev pub IsExchange : ℕ → ℕ → Round → Type 0
IsExchange n k round = IsExchangeBy n k round.act round.kind

-- in dimension d each chip whose wire is not cut has room for one message more
abbrev pub HaveSpaceOver : ℕ → ℕ → Part → Type 0
HaveSpaceOver d room s =
    (c : ℕ) → c < s.count → is_cut s.routing (s.first + c) d ≡ false → length (nth_or_nil s.buffers c) < room

-- and for a chip whose wire is cut none stands in a lane
abbrev pub SparesCutsOver : ℕ → Part → (ℕ → Option Message) → Type 0
SparesCutsOver d s lane = (c : ℕ) → c < s.count → is_cut s.routing (s.first + c) d ≡ true → lane c ≡ None

-- in a round over a dimension each router whose wire is not cut has room for one message more
abbrev pub HaveSpaceFor : Kind → ℕ → Part → Type 0
HaveSpaceFor kind.North room s = Unit {0}
HaveSpaceFor kind.South room s = Unit {0}
HaveSpaceFor (kind.Dim d) room s = HaveSpaceOver d room s

-- and in a parcel nothing stands for one whose wire is cut
abbrev pub SparesCuts : Kind → Part → Parcel → Type 0
SparesCuts kind.North s parcel = Unit {0}
SparesCuts kind.South s parcel = Unit {0}
SparesCuts (kind.Dim d) s parcel = SparesCutsOver d s (mail_in parcel)

-- each message of a lane has room at its chip
abbrev pub HaveRoomOver : ℕ → Part → (ℕ → Option Message) → Type 0
HaveRoomOver room s lane = (c : ℕ) → c < s.count → (lane c ≡ None) ⊎ (length (nth_or_nil s.buffers c) < room)

-- each message of a parcel has
abbrev pub HasRoomFor : Kind → ℕ → Part → Parcel → Type 0
HasRoomFor kind.North room s parcel = Unit {0}
HasRoomFor kind.South room s parcel = Unit {0}
HasRoomFor (kind.Dim d) room s parcel = HaveRoomOver room s (mail_in parcel)

-- a parcel with a bit for each column of the grid
abbrev pub HasColumns : ℕ → Parcel → Type 0
HasColumns n Blank = ⊥
HasColumns n (Mail lane) = ⊥
HasColumns n (Edge row) = length row ≡ columns n

-- one with a place for each chip of a block
abbrev pub HasLanes : ℕ → ℕ → Parcel → Type 0
HasLanes n k Blank = ⊥
HasLanes n k (Mail lane) = length lane ≡ block_size n k
HasLanes n k (Edge row) = ⊥

-- a parcel of a kind, whatever is in it
abbrev pub IsOfKind : ℕ → ℕ → Kind → Parcel → Type 0
IsOfKind n k kind.North parcel = HasColumns n parcel
IsOfKind n k kind.South parcel = HasColumns n parcel
IsOfKind n k (kind.Dim d) parcel = HasLanes n k parcel

-- a kind of round at which 2 ^ k blocks of a cube of n dimensions may exchange
abbrev pub CanBeOver : ℕ → ℕ → Kind → Type 0
CanBeOver n k kind.North = Unit {0}
CanBeOver n k kind.South = Unit {0}
CanBeOver n k (kind.Dim d) = IsOuter n k d
