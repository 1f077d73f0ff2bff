use Rattle.std.proofs.Common.{◌≡◌, drop}
use Rattle.std.specs.Prelude.{slice_get}
use Rattle.std.specs.List.{filter_map}
use Rattle.cm_model.specs.Found.{delivery_place}
use Rattle.lab_route.proofs.whereabouts.delivery_among.Given as goal

abbrev pub invariant-loop-event : goal.invariant-loop-event
invariant-loop-event l = slice_get (filter_map (delivery_place l.tag) l.events) 0
    ≡ slice_get (filter_map (delivery_place l.tag) (drop l.event-index l.events)) 0
