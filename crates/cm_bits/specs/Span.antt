-- What a contract sees of a memory field: ours.
use Rattle.std.specs.Prelude.{ℕ, ◌+◌, ◌≤◌}

-- the address of the lowest bit, and how many bits
pub record Span : Type 0 where
  pub at : ℕ
  pub len : ℕ

-- 1 to 64 bits, all of them below bit 4096
pub record IsField (span : Span) : Type 0 where
  pub some : 1 ≤ span.len
  pub narrow : span.len ≤ 64
  pub within : span.at + span.len ≤ 4096
