-- Standard input and standard output, before and after. Ours.
use Rattle.std.specs.Prelude.{◌≡◌, ℕ, Bool, false, Option, List}

-- what came in by standard input and went out by standard output
pub record Streams : Type 0 where
  pub lines : Option (List ℕ)
  pub rest : Option (List ℕ)
  pub out_before : Option (List ℕ)
  pub out_after : Option (List ℕ)
  pub read_failed : Bool
  pub write_failed : Bool

-- the same of their parts
abbrev pub streams : Option (List ℕ) → Option (List ℕ) → Option (List ℕ) → Option (List ℕ) → Bool → Bool → Streams
streams lines rest out_before out_after read_failed write_failed = record {
  lines = lines;
  rest = rest;
  out_before = out_before;
  out_after = out_after;
  read_failed = read_failed;
  write_failed = write_failed;
}

-- nothing was read of standard input
abbrev pub IsUnread : Streams → Type 0
IsUnread streams = (streams.rest ≡ streams.lines) × (streams.read_failed ≡ false)

-- and nothing written
abbrev pub IsUntouched : Streams → Type 0
IsUntouched streams = IsUnread streams × (streams.out_after ≡ streams.out_before) × (streams.write_failed ≡ false)
