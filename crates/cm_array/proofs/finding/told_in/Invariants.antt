use Rattle.std.proofs.Common.{◌≡◌, ◌<◌, None, take}
use Rattle.std.specs.List.{All}
use Rattle.cm_model.specs.Found.{delivery_place}
use Rattle.cm_router.specs.Rows.{logging_chip}
use Rattle.cm_array.proofs.finding.told_in.Given as goal

abbrev pub invariant-loop-event : goal.invariant-loop-event
invariant-loop-event l =
    All (λ event. logging_chip event < l.chips → delivery_place l.tag event ≡ None) (take l.event-index l.row)
