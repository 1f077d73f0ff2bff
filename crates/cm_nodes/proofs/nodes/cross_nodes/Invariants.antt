use Rattle.cm_router.specs.Routes.{routing_of}
use Rattle.cm_nodes.proofs.Dimensions.{AreCrossed}
use Rattle.cm_nodes.proofs.nodes.cross_nodes.Given as goal

abbrev pub invariant-loop-c : goal.invariant-loop-c
invariant-loop-c l = AreCrossed (routing_of l.routing) l.dim l.fn.nodes l.nodes l.c
