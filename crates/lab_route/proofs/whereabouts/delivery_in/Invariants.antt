use Rattle.std.proofs.Common.{◌≡◌, ◌-◌, ◌^◌}
use Rattle.std.specs.Prelude.{slice_get}
use Rattle.std.specs.List.{filter_map, flat_map, range_with_len}
use Rattle.cm_model.specs.Found.{delivery_place}
use Rattle.lab_study.specs.Counts.{events_behind}
use Rattle.lab_route.specs.Whereabouts.{delivery_in}
use Rattle.lab_route.proofs.whereabouts.delivery_in.Given as goal

-- those of the chips that are left
abbrev pub invariant-loop-chip : goal.invariant-loop-chip
invariant-loop-chip l = delivery_in l.machine.n l.tag l.before l.machine.machine
    ≡ slice_get (flat_map (λ c. filter_map (delivery_place l.tag) (events_behind l.before l.machine.machine c))
    (range_with_len l.chip (2 ^ l.machine.n - l.chip))) 0
