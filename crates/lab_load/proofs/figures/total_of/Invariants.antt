use Rattle.std.proofs.Common.{◌≡◌, ◌≤◌, ◌*◌, take, sum_by}
use Rattle.lab_load.proofs.figures.total_of.Given as goal

-- that of so many
abbrev pub invariant-loop-latency : goal.invariant-loop-latency
invariant-loop-latency l = record {
  so_far : l.total ≡ sum_by (λ x. x) (take l.latency-index l.latencies);
  within : l.total ≤ l.latency-index * 4294967296;
}
