use Rattle.std.proofs.Common.{◌≡◌, ◌++◌, take}
use Rattle.std.specs.List.{flat_map}
use Rattle.lab_load.specs.Telling.{latency_logged}
use Rattle.lab_load.proofs.telling.push_latencies.Given as goal

-- those of so many logs
abbrev pub invariant-loop-log : goal.invariant-loop-log
invariant-loop-log l = l.latencies.items ≡ l.initial.latencies.items
    ++ flat_map (λ log. flat_map (latency_logged l.t) log.items) (take l.log-index l.logs)
