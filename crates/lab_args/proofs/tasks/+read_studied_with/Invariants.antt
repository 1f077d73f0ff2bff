use Rattle.std.proofs.Common.{length}
use Rattle.lab_args.proofs.tasks.+read_studied_with.Given as goal

abbrev pub decreases-read_studied_with : goal.decreases-read_studied_with
decreases-read_studied_with l = length l.words.now
