use Rattle.std.proofs.Common.{◌≡◌, ◌+◌, ◌++◌}
use Rattle.std.specs.List.{flat_map, range_with_len}
use Rattle.lab_load.specs.Latencies.{latency_header, latency_line}
use Rattle.lab_load.proofs.latencies.latency_table.Given as goal

-- the lines of so many petit cycles
abbrev pub invariant-loop-index : goal.invariant-loop-index
invariant-loop-index l = l.text.items
    ≡ latency_header l.loads ++ flat_map (λ i. latency_line l.loads (i + 1)) (range_with_len 0 l.index)
