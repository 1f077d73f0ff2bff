use Rattle.lab_plot.proofs.Standing.{standing}
use Rattle.lab_plot.proofs.laws.points_stand_on_their_panels.Goals as goal

pub returns : goal.returns
returns c = standing
