use Rattle.lab_plot.proofs.Twelve.{twelve}
use Rattle.lab_plot.proofs.laws.axes_have_twelve_ticks.Goals as goal

pub returns : goal.returns
returns c = twelve
