-- How much a session reads of its source. Ours.
use Rattle.std.specs.Prelude.{ℕ, ◌≤◌, Option, List, length}
use Rattle.std.specs.Io.KnownBytes.{Consumes}

-- the most bytes that one read asks for
abbrev pub PIECE_LIMIT : ℕ
PIECE_LIMIT = 4096

-- known bytes begin with at most so many, and lose them
pub record ConsumesAtMost (most : ℕ) (source rest : Option (List ℕ)) : Type 0 where
  pub bytes : List ℕ
  pub few : length bytes ≤ most
  pub consumed : Consumes source rest bytes
