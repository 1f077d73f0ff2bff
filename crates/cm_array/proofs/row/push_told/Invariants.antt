use Rattle.std.proofs.Common.{◌≡◌, ◌++◌, take}
use Rattle.cm_router.specs.Rows.{events_of_chip}
use Rattle.cm_array.proofs.row.push_told.Given as goal

abbrev pub invariant-loop-event : goal.invariant-loop-event
invariant-loop-event l = l.to.items ≡ l.initial.to.items ++ events_of_chip l.chip (take l.event-index l.row)
