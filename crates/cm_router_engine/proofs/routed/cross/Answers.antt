use Rattle.std.proofs.Common.{◌∙◌}
use Rattle.cm_router.specs.Routes.{routing_of}
use Rattle.cm_router_engine.proofs.Leaving.{all_crossed}
use Rattle.cm_router_engine.proofs.Rising.{all_crossed_by_number}
use Rattle.cm_router_engine.proofs.routed.cross.Goals as goal

pub returns-then-is_plain_over : goal.returns-then-is_plain_over
returns-then-is_plain_over c = record {
  value = c.cross.ensures.value
      ∙ all_crossed c.args.row.now (routing_of c.args.routing.now) c.args.sizes.room c.args.dim c.args.first
      c.args.slots.now (c.is_plain_over.ensures.plain c.if-is_plain_over.true) c.args.span;
}

pub returns-then-goes_by_age : goal.returns-then-goes_by_age
returns-then-goes_by_age c = record {
  value = c.cross_by_number.ensures.value
      ∙ all_crossed_by_number c.args.row.now (c.requires.in_order c.if-in_order.true) (routing_of c.args.routing.now)
      c.args.sizes.room c.args.dim c.args.first c.args.span c.args.slots.now c.requires.kept
      (c.goes_by_age.ensures.oldest c.if-goes_by_age.true);
}
