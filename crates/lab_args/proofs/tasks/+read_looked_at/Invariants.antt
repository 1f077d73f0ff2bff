use Rattle.std.proofs.Common.{length}
use Rattle.lab_args.proofs.tasks.+read_looked_at.Given as goal

abbrev pub decreases-read_looked_at : goal.decreases-read_looked_at
decreases-read_looked_at l = length l.words.now
