use Rattle.std.proofs.Common.{◌≡◌, ◌++◌}
use Rattle.std.specs.List.{flat_map, range_with_len}
use Rattle.lab_plot.specs.Ticks.{up_tick}
use Rattle.lab_plot.proofs.ticks.push_up_ticks.Given as goal

-- so many ticks
abbrev pub invariant-loop-k : goal.invariant-loop-k
invariant-loop-k l = l.text.items ≡ l.initial.text.items ++ flat_map (up_tick l.axis) (range_with_len 0 l.k)
