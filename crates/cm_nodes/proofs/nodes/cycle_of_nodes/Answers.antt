use Rattle.std.proofs.Common.{◌≡◌, arith, refl}
use Rattle.cm_router.specs.Routes.{routing_of}
use Rattle.cm_petit.proofs.Cycling.{injected_whole, delivered_whole, crossed_more, cycle_is}
use Rattle.cm_nodes.proofs.nodes.cycle_of_nodes.Goals as goal

pub loop-dim-init : goal.loop-dim-init
loop-dim-init c = record {
  crossed = injected_whole _ _ _ refl refl (c.inject_into_nodes.ensures.value (routing_of c.args.routing.now));
  nodes = c.inject_into_nodes.ensures.nodes;
}

pub loop-dim-preserved : goal.loop-dim-preserved
loop-dim-preserved c = record {
  crossed = crossed_more c.args.sizes.dims c.args.sizes.room _ c.loop-dim.dim c.loop-dim.invariant.crossed
      c.cross_nodes.ensures.value;
  nodes = grind arith;
}

pub returns-clause-value : goal.returns-clause-value
returns-clause-value c =
    let all : c.loop-dim.dim ≡ c.args.sizes.dims = omega arith in
    cycle_is c.args.sizes.dims c.args.sizes.room _ refl (rw all at c.loop-dim.invariant.crossed)
    (delivered_whole _ _ _ refl refl (c.deliver_from_nodes.ensures.value (routing_of c.args.routing.now) c.args.clock))
