use Rattle.std.proofs.Common.{◌≡◌, ℕ, ◌+◌, ◌<◌, false, get_or}
use Rattle.cm_element.proofs.run.memory.are_in_use.Given as goal

-- those that were looked at, if none lacked a row
abbrev pub invariant-loop-i : goal.invariant-loop-i
invariant-loop-i l = record { own : l.lacks ≡ false → (j : ℕ) → j < l.i → 0 < get_or l.slots (l.at + j) 0 }
