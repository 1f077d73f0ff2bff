use Rattle.std.proofs.Common.{◌^◌}
use Rattle.cm_image_dump.proofs.Counting.{AreSoFar}
use Rattle.cm_image_dump.proofs.counts.listed_planes.Given as goal

abbrev pub invariant-loop-at : goal.invariant-loop-at
invariant-loop-at g l = AreSoFar (2 ^ g.S.Sizes.n) l.machine.machine.chips l.at l.counts.items
