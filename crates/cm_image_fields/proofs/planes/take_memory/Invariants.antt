use Rattle.cm_image_fields.proofs.Taking.{IsListing}
use Rattle.cm_image_fields.proofs.planes.take_memory.Given as goal

-- the loop from here on gives what it gave at the start
abbrev pub invariant-loop-i : goal.invariant-loop-i
invariant-loop-i g l = IsListing l.chip l.count l.i l.least l.builder l.rest l.initial.builder l.initial.rest
