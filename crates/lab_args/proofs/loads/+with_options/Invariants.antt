use Rattle.std.proofs.Common.{length}
use Rattle.lab_args.proofs.loads.+with_options.Given as goal

abbrev pub decreases-with_options : goal.decreases-with_options
decreases-with_options l = length l.options.now
