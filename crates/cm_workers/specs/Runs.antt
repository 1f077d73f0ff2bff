-- How blocks stand in a run at the beginning of each turn. Ours.
use Rattle.std.specs.Prelude.{◌≡◌, ℕ, zero, suc, ◌+◌, ◌*◌, ◌<◌, ◌^◌, List, Option, Some, None}
use Rattle.std.specs.Prelude.{length, get_or, slice_get}
use Rattle.cm_model.specs.declared.act.Act.{Act}
use Rattle.cm_model.specs.Machine.{Machine}
use Rattle.cm_model.specs.Steps.{Phase}
use Rattle.cm_blocks.specs.Counts.{deliveries, events_in}
use Rattle.cm_blocks.specs.Parts.{Part, block}
use Rattle.cm_blocks.specs.Parcels.{due, sender}
use Rattle.cm_blocks.specs.Rounds.{rounds, before_round, steps_after_round}
use Rattle.cm_blocks.specs.Steps.{less}
use Rattle.cm_array.specs.Acts.{cycles_in}
use Rattle.cm_router.specs.Logs.{HaveLogRoom}
use Rattle.cm_subcube.specs.Blocks.{BlockView}
use Rattle.cm_subcube.specs.Parcels.{HaveSpaceFor}
use Rattle.cm_subcube.specs.Rounds.{kind_of}
use Rattle.cm_workers.specs.declared.post.Post.{Post}
use Rattle.cm_workers.specs.Posts.{blank_post, post_of}

-- a part without what it sends in a round, if there is a round
abbrev pub without_sent : ℕ → Option Phase → Part → Part
without_sent room None s = s
without_sent room (Some phase) s = less room phase.step s

-- the post with what has come for block b in a round: a blank post, if there is no round
abbrev pub come_in : ℕ → ℕ → ℕ → Option Phase → ℕ → Machine → Post
come_in n k room None b machine = blank_post n k
come_in n k room (Some phase) b machine =
    post_of n k (kind_of phase.step) (due n room phase.step (block n k (sender n k phase.step b) machine))

-- a part has room for what comes in a round, if there is a round
abbrev pub HaveSpaceAt : ℕ → Option Phase → Part → Type 0
HaveSpaceAt room None s = Unit {0}
HaveSpaceAt room (Some phase) s = HaveSpaceFor (kind_of phase.step) room s

-- the part of block b when turn t begins: as it was cut out, and then as it is before the round at which
-- the turn begins, without what it sent
abbrev pub part_at_turn : ℕ → ℕ → ℕ → Machine → List Act → ℕ → ℕ → Part
part_at_turn n k room machine acts zero b = block n k b machine
part_at_turn n k room machine acts (suc r) b =
    without_sent room (slice_get (rounds n k acts) r) (block n k b (before_round n room k machine acts r))

-- the post of block b when turn t begins: blank at the first turn, and later with what its sender sent
abbrev pub post_at : ℕ → ℕ → ℕ → Machine → List Act → ℕ → ℕ → Post
post_at n k room machine acts zero b = blank_post n k
post_at n k room machine acts (suc r) b =
    come_in n k room (slice_get (rounds n k acts) r) b (before_round n room k machine acts r)

-- a part has room for what it takes in when a turn begins; before the first turn nothing has come
abbrev pub HasSpaceAtTurn : ℕ → ℕ → ℕ → List Act → ℕ → Part → Type 0
HasSpaceAtTurn n k room acts zero s = Unit {0}
HasSpaceAtTurn n k room acts (suc r) s = HaveSpaceAt room (slice_get (rounds n k acts) r) s

-- the most events of a chip that are still to come when a turn begins
abbrev pub events_left : ℕ → ℕ → ℕ → List Act → ℕ → ℕ
events_left n k room acts zero = cycles_in acts * (4 + room)
events_left n k room acts (suc r) = events_in room (steps_after_round n k acts r)

-- how many petit cycles are still to end when a turn begins
abbrev pub cycles_left : ℕ → ℕ → List Act → ℕ → ℕ
cycles_left n k acts zero = cycles_in acts * 1
cycles_left n k acts (suc r) = deliveries (steps_after_round n k acts r)

-- block b and its post when turn t of a run begins
pub record StandsAt (n k room : ℕ) (machine : Machine) (acts : List Act) (t b : ℕ) (kept : BlockView)
    (post : Post) : Type 0 where
  pub blocks : kept.k ≡ k
  pub dims : kept.kept.dims ≡ n
  pub room_is : kept.kept.room ≡ room
  pub part : kept.kept.part ≡ part_at_turn n k room machine acts t b
  pub come : post ≡ post_at n k room machine acts t b
  pub space : HasSpaceAtTurn n k room acts t kept.kept.part
  pub log_room : HaveLogRoom (events_left n k room acts t) kept.kept.log_rooms
  pub clock : kept.kept.part.clock + cycles_left n k acts t < 2 ^ 63

-- all blocks and their posts when turn t of a run begins
pub record StandAt (n k room : ℕ) (machine : Machine) (acts : List Act) (t : ℕ) (blocks : List BlockView)
    (posts : List Post) : Type 0 where
  pub block_count : length blocks ≡ 2 ^ k
  pub post_count : length posts ≡ 2 ^ k
  pub each : (b : ℕ) (x : BlockView) (y : Post) → b < 2 ^ k
      → StandsAt n k room machine acts t b (get_or blocks b x) (get_or posts b y)

-- blocks of some machine stand at a turn of a run
pub record HaveBegun (n k : ℕ) (acts : List Act) (t : ℕ) (blocks : List BlockView) (posts : List Post) : Type 0 where
  pub room : ℕ
  pub machine : Machine
  pub at : StandAt n k room machine acts t blocks posts
