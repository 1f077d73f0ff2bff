use Rattle.std.proofs.Common.{◌≡◌, take}
use Rattle.cm_router.proofs.cuts.Cuts.copy_from.Given as goal

abbrev pub invariant-loop-edge : goal.invariant-loop-edge
invariant-loop-edge l = l.self ≡ record l.fn.self { wires = take l.edge-index l.edges }
