use Rattle.std.proofs.Common.{length}
use Rattle.lab_args.proofs.blanks.+with_ends.Given as goal

abbrev pub decreases-with_ends : goal.decreases-with_ends
decreases-with_ends l = length l.words.now
