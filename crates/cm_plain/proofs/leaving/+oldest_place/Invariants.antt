use Rattle.std.proofs.Common.{length}
use Rattle.cm_plain.proofs.leaving.+oldest_place.Given as goal

abbrev pub decreases-oldest_place : goal.decreases-oldest_place
decreases-oldest_place l = length l.here.now
