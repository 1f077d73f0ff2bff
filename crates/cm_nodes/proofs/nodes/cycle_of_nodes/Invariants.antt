use Rattle.std.proofs.Common.{◌≡◌}
use Rattle.cm_router.specs.Routes.{routing_of}
use Rattle.cm_router.specs.Buffer.{buffers_of}
use Rattle.cm_petit.specs.Routers.{machine_from_logs}
use Rattle.cm_nodes.specs.Nodes.{AreNodes}
use Rattle.cm_petit.proofs.Cycling.{under_way}
use Rattle.cm_nodes.proofs.nodes.cycle_of_nodes.Given as goal

abbrev pub invariant-loop-dim : goal.invariant-loop-dim
invariant-loop-dim l = record {
  crossed : machine_from_logs (routing_of l.routing) l.run (buffers_of l.nodes) l.logs l.clock
      ≡ under_way l.sizes.dims l.sizes.room
      (machine_from_logs (routing_of l.routing) l.fn.run (buffers_of l.fn.nodes) l.fn.logs l.clock) l.dim;
  nodes : AreNodes l.sizes.dims l.sizes.room l.run l.nodes l.logs;
}
