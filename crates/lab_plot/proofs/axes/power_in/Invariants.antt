use Rattle.std.proofs.Common.{◌≡◌, ◌<◌}
use Rattle.lab_plot.specs.Axes.{power_in}
use Rattle.lab_plot.proofs.axes.power_in.Given as goal

-- with so many zeros at the most
abbrev pub invariant-loop-zeros : goal.invariant-loop-zeros
invariant-loop-zeros l = record { value : l.power ≡ power_in l.range l._zeros; some : 0 < l.power }
