use Rattle.std.proofs.Common.{◌≡◌, ◌-◌, ◌^◌}
use Rattle.std.specs.Prelude.{slice_get}
use Rattle.std.specs.List.{flat_map, range_with_len}
use Rattle.cm_model.specs.Array.{nth_or_nil}
use Rattle.lab_route.specs.Whereabouts.{stands_among, stand_in}
use Rattle.lab_route.proofs.whereabouts.stand_in.Given as goal

-- those of the chips that are left
abbrev pub invariant-loop-chip : goal.invariant-loop-chip
invariant-loop-chip l = stand_in l.machine.n l.tag l.machine.machine
    ≡ slice_get (flat_map (λ c. stands_among l.tag c (nth_or_nil l.machine.machine.buffers c))
    (range_with_len l.chip (2 ^ l.machine.n - l.chip))) 0
