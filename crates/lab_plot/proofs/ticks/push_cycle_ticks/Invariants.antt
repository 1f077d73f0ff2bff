use Rattle.std.proofs.Common.{◌≡◌, ◌++◌}
use Rattle.std.specs.List.{flat_map, range_with_len}
use Rattle.lab_plot.specs.Ticks.{cycle_tick}
use Rattle.lab_plot.proofs.ticks.push_cycle_ticks.Given as goal

-- so many ticks
abbrev pub invariant-loop-k : goal.invariant-loop-k
invariant-loop-k l = l.text.items ≡ l.initial.text.items ++ flat_map (cycle_tick l.axis) (range_with_len 0 l.k)
