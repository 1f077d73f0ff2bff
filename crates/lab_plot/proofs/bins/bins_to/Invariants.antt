use Rattle.std.proofs.Common.{◌≡◌}
use Rattle.std.specs.List.{flat_map, range_with_len}
use Rattle.lab_plot.specs.Bins.{bin}
use Rattle.lab_plot.proofs.bins.bins_to.Given as goal

-- so many bins
abbrev pub invariant-loop-k : goal.invariant-loop-k
invariant-loop-k l = l.bins.items ≡ flat_map (bin l.points l.most l.width) (range_with_len 0 l.k)
