use Rattle.std.proofs.Common.{length}
use Rattle.lab_args.proofs.tasks.+read_routed_with.Given as goal

abbrev pub decreases-read_routed_with : goal.decreases-read_routed_with
decreases-read_routed_with l = length l.words.now
