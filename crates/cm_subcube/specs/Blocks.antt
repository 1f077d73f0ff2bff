-- Blocks as they are kept: bands of a machine that was cut into a power of two of them. Ours.
use Rattle.std.specs.Prelude.{◌≡◌, ℕ, ◌+◌, ◌-◌, ◌*◌, ◌/◌, ◌<◌, ◌≤◌, ◌^◌, List, IsTrue}
use Rattle.cm_model.specs.Steps.{Step}
use Rattle.cm_blocks.specs.Counts.{deliveries, events_in}
use Rattle.cm_blocks.specs.Parts.{block_size}
use Rattle.cm_blocks.specs.Steps.{part_after_all}
use Rattle.cm_router.specs.Logs.{HaveLogRoom, LoseAtMost}
use Rattle.cm_array.specs.Cuts.{PartView}

-- what contracts see of a block: into 2 ^ k of them the machine was cut, and what the block keeps of it
pub record BlockView : Type 0 where
  pub k : ℕ
  pub kept : PartView

-- a band of whole rows of chips, one of 2 ^ k
pub record IsBlock (k : ℕ) (kept : PartView) : Type 0 where
  pub within : k ≤ kept.dims - kept.dims / 2
  pub count : kept.part.count ≡ block_size kept.dims k
  pub band : (b : ℕ) × ((kept.part.first ≡ b * block_size kept.dims k) × (b < 2 ^ k))

-- a block of a machine with these dimensions and this room, whose logs take so many events each, and that can be read
pub record IsFresh (n cap k events : ℕ) (block : BlockView) : Type 0 where
  pub blocks : block.k ≡ k
  pub dims : block.kept.dims ≡ n
  pub room : block.kept.room ≡ cap
  pub log_room : HaveLogRoom events block.kept.log_rooms
  pub gathered : IsTrue block.kept.gathered

-- ---- going alone

-- the logs of a block take the events of some steps, and its counter those of them that count
pub record CanGo (steps : List Step) (block : BlockView) : Type 0 where
  pub log_room : HaveLogRoom (events_in block.kept.room steps) block.kept.log_rooms
  pub clock : block.kept.part.clock + deliveries steps < 2 ^ 63

-- a block has gone through some steps by itself
pub record HasGone (steps : List Step) (old new : BlockView) : Type 0 where
  pub part : new.kept.part ≡ part_after_all old.kept.dims old.kept.room steps old.kept.part
  pub dims : new.kept.dims ≡ old.kept.dims
  pub room : new.kept.room ≡ old.kept.room
  pub blocks : new.k ≡ old.k
  pub log_room : LoseAtMost (events_in old.kept.room steps) old.kept.log_rooms new.kept.log_rooms
