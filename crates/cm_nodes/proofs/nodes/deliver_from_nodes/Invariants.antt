use Rattle.std.proofs.Common.{◌≡◌, ◌^◌}
use Rattle.std.specs.List.{All}
use Rattle.cm_router.specs.Buffer.{buffers_of}
use Rattle.cm_petit.proofs.Making.{AreMade, delivering}
use Rattle.cm_nodes.proofs.nodes.deliver_from_nodes.Given as goal

abbrev pub invariant-loop-c : goal.invariant-loop-c
invariant-loop-c l = record {
  delivered : AreMade delivering l.fn.sizes.room 0 (2 ^ l.fn.sizes.dims)
      (record { chips = l.fn.run; buffers = buffers_of l.fn.nodes; logs = l.fn.logs })
      (record { chips = l.run; buffers = buffers_of l.nodes; logs = l.logs }) l.c;
  rooms : All (λ node. node.room ≡ l.fn.sizes.room) l.nodes;
}
