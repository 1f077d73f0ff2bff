-- What a source has given. Ours.
use Rattle.std.specs.Prelude.{ℕ, ◌+◌, ◌<◌, ◌≤◌, Option, List, length}
use Rattle.std.specs.Io.KnownBytes.{Consumes}
pub use Rattle.cm_session.specs.Reading.{ConsumesAtMost}

-- the most bytes that one read asks for
abbrev pub READ_LIMIT : ℕ
READ_LIMIT = 16384

-- known bytes begin with more than so many, by one read at most, and lose them
pub record ConsumesBeyond (most : ℕ) (out_before left : Option (List ℕ)) : Type 0 where
  pub bytes : List ℕ
  pub many : most < length bytes
  pub few : length bytes ≤ most + READ_LIMIT
  pub consumed : Consumes out_before left bytes
