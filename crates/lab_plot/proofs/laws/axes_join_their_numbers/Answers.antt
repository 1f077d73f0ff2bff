use Rattle.lab_plot.proofs.Standing.{joined}
use Rattle.lab_plot.proofs.laws.axes_join_their_numbers.Goals as goal

pub returns : goal.returns
returns c = joined
