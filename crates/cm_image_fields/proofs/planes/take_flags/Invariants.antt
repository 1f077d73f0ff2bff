use Rattle.cm_image_fields.proofs.Taking.{IsFilling}
use Rattle.cm_image_fields.proofs.planes.take_flags.Given as goal

-- the loop from here on gives what it gave at the start
abbrev pub invariant-loop-f : goal.invariant-loop-f
invariant-loop-f l = IsFilling l.f l.flags l.rest l.initial.rest
