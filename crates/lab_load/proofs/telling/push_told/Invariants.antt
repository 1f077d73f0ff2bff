use Rattle.std.proofs.Common.{◌≡◌, ◌++◌, take}
use Rattle.std.specs.List.{flat_map}
use Rattle.lab_load.specs.Telling.{latency_logged}
use Rattle.lab_load.proofs.telling.push_told.Given as goal

-- those of so many events
abbrev pub invariant-loop-event : goal.invariant-loop-event
invariant-loop-event l = l.latencies.items ≡ l.initial.latencies.items
    ++ flat_map (latency_logged l.t) (take l.event-index l.events)
