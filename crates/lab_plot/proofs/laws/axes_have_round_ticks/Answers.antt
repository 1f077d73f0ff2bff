use Rattle.std.proofs.Common.{refl}
use Rattle.lab_plot.specs.Axes.{axis_of, power_in}
use Rattle.lab_plot.proofs.laws.axes_have_round_ticks.Goals as goal

pub returns : goal.returns
unfolding axis_of power_in
returns c = record { hundreds = refl; whole_numbers = refl; nothing = refl; one_cycle = refl; five_cycles = refl }
