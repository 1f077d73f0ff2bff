use Rattle.cm_image_fields.proofs.Taking.{IsPassing}
use Rattle.cm_image_fields.proofs.passing.behind_memory.Given as goal

-- the loop from here on gives what it gave at the start
abbrev pub invariant-loop-i : goal.invariant-loop-i
invariant-loop-i l = IsPassing l.count l.i l.least l.rest l.initial.rest
