use Rattle.std.proofs.Common.{◌≡◌, length, take}
use Rattle.cm_model.specs.Each.{tabulate}
use Rattle.lab_load.specs.Latencies.{took}
use Rattle.lab_load.proofs.latencies.count_all.Given as goal

-- so many are counted
abbrev pub invariant-loop-latency : goal.invariant-loop-latency
invariant-loop-latency l = l.counts ≡ tabulate 0 (length l.fn.counts) (took (take l.latency-index l.latencies))
