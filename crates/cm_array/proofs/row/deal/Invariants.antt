use Rattle.std.proofs.Common.{◌≡◌, take}
use Rattle.cm_petit.specs.Routers.{events_of}
use Rattle.cm_array.specs.Rows.{dealt}
use Rattle.cm_array.proofs.row.deal.Given as goal

abbrev pub invariant-loop-i : goal.invariant-loop-i
invariant-loop-i l = events_of l.logs ≡ dealt l.first (events_of l.fn.logs) (take l.i l.row)
