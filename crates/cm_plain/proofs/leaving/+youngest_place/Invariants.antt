use Rattle.std.proofs.Common.{length}
use Rattle.cm_plain.proofs.leaving.+youngest_place.Given as goal

abbrev pub decreases-youngest_place : goal.decreases-youngest_place
decreases-youngest_place l = length l.here.now
