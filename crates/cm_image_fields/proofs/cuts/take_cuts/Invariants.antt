use Rattle.cm_image_fields.proofs.Cutting.{IsCutting}
use Rattle.cm_image_fields.proofs.cuts.take_cuts.Given as goal

-- the loop from here on gives what it gave at the start
abbrev pub invariant-loop-i : goal.invariant-loop-i
invariant-loop-i g l = IsCutting g.S.Sizes.n l.count l.i l.least l.builder l.rest l.initial.builder l.initial.rest
