-- What a clause reads of the ends of bytes, over std's words on known bytes: ours.
use Rattle.std.specs.Prelude.{ℕ, Bool, List, length, nat_eq, nat_lt, ◌&&◌}
use Rattle.cm_bits.specs.declared.ends.Std.{Std}

-- a write was given a byte or more and took none
abbrev pub is_refused : ℕ → List ℕ → Bool
is_refused count buf = nat_eq count 0 && nat_lt 0 (length buf)

-- the reader or writer of std inside
abbrev pub std_inner : {T : Type 0} → Std T → T
std_inner s = s.inner

-- a call of it has failed
abbrev pub std_has_failed : {T : Type 0} → Std T → Bool
std_has_failed s = s.failed
