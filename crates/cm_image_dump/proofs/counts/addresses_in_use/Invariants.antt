use Rattle.std.proofs.Common.{◌^◌}
use Rattle.cm_image_dump.specs.Planes.{AreInUse}
use Rattle.cm_image_dump.proofs.counts.addresses_in_use.Given as goal

abbrev pub invariant-loop-at : goal.invariant-loop-at
invariant-loop-at g l = AreInUse (2 ^ g.S.Sizes.n) l.machine.machine.chips l.at l.used.items
