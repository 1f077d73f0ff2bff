use Rattle.std.proofs.Common.{take}
use Rattle.cm_array.specs.Finding.{TellNone}
use Rattle.cm_array.proofs.finding.delivered_in.Given as goal

abbrev pub invariant-loop-event : goal.invariant-loop-event
invariant-loop-event l = TellNone l.tag (take l.event-index l.log)
