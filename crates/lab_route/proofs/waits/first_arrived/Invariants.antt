use Rattle.std.proofs.Common.{◌≡◌, drop}
use Rattle.std.specs.List.{find}
use Rattle.lab_route.specs.Waits.{has_arrived_for}
use Rattle.lab_route.proofs.waits.first_arrived.Given as goal

-- it is among those that are left
abbrev pub invariant-loop-other : goal.invariant-loop-other
invariant-loop-other l = find (has_arrived_for l.message.proc) l.messages
    ≡ find (has_arrived_for l.message.proc) (drop l.other-index l.messages)
