-- The blocks of a machine that workers run: what stays of one, what may be read, and how all are after a run. Ours.
use Rattle.std.specs.Prelude.{◌≡◌, ℕ, ◌<◌, ◌^◌, List, length, get_or}
use Rattle.cm_model.specs.declared.act.Act.{Act}
use Rattle.cm_model.specs.Machine.{Machine}
use Rattle.cm_blocks.specs.Parts.{block}
use Rattle.cm_blocks.specs.Rounds.{rounds, before_round}
use Rattle.cm_subcube.specs.Blocks.{BlockView}

-- a block of the same sizes
pub record IsSame (old new : BlockView) : Type 0 where
  pub dims : new.kept.dims ≡ old.kept.dims
  pub room : new.kept.room ≡ old.kept.room
  pub blocks : new.k ≡ old.k

-- a block as it was, except that it may be read now
pub record IsShown (old new : BlockView) : Type 0 where
  pub blocks : new.k ≡ old.k
  pub kept : new.kept ≡ record old.kept { gathered = new.kept.gathered }

-- all blocks as they were, except that they may be read now
pub record AreShown (old new : List BlockView) : Type 0 where
  pub len : length new ≡ length old
  pub each : (i : ℕ) (b : BlockView) → i < length old → IsShown (get_or old i b) (get_or new i b)

-- the blocks after a run
pub record AreAfter (n k room : ℕ) (machine : Machine) (acts : List Act) (blocks : List BlockView) : Type 0 where
  pub count : length blocks ≡ 2 ^ k
  pub each : (b : ℕ) (x : BlockView) → b < 2 ^ k
      → (get_or blocks b x).kept.part ≡ block n k b (before_round n room k machine acts (length (rounds n k acts)))
