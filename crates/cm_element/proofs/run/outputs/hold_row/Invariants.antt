use Rattle.std.proofs.Common.{ℕ, ◌<◌, ◌+◌, get_or}
use Rattle.std.specs.Bool.{beq}
use Rattle.cm_bits.specs.Bit.{bit}
use Rattle.cm_model.specs.Chip.{IsPlane}
use Rattle.cm_element.proofs.run.outputs.hold_row.Given as goal

-- the planes so far
abbrev pub invariant-loop-c : goal.invariant-loop-c
invariant-loop-c l = (k : ℕ) → k < l.c
    → IsPlane (get_or l.found k 0) (λ p. beq (bit (get_or l.flags (l.at.cond + k) 0) p) l.sense)
