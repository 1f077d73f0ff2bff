use Rattle.cm_image_load.proofs.Standing.{IsStanding}
use Rattle.cm_image_load.proofs.messages.take_messages.Given as goal

-- the loop from here on gives what it gave at the start
abbrev pub invariant-loop-i : goal.invariant-loop-i
invariant-loop-i g l = IsStanding g.S.Sizes.n l.chip l.clock l.count l.i l.builder l.rest l.initial.builder l.initial.rest
