use Rattle.std.proofs.Common.{length}
use Rattle.lab_args.proofs.reading.+read_plotting_of.Given as goal

abbrev pub decreases-read_plotting_of : goal.decreases-read_plotting_of
decreases-read_plotting_of l = length l.words.now
