use Rattle.std.proofs.Common.{◌∙◌}
use Rattle.cm_router.specs.Routes.{routing_of}
use Rattle.cm_router_engine.proofs.Leaving.{all_staying, all_leaving}
use Rattle.cm_router_engine.proofs.routed.leave.Goals as goal

pub returns-then-is_plain_over : goal.returns-then-is_plain_over
returns-then-is_plain_over c =
    let plain = c.is_plain_over.ensures.plain c.if-is_plain_over.true in
    record {
      value = c.leave.ensures.value ∙ all_staying c.args.row.now (routing_of c.args.routing.now) c.args.sizes.room c.args.dim
          c.args.first c.args.slots.now plain;
      going = c.leave.ensures.going ∙ all_leaving c.args.row.now (routing_of c.args.routing.now) c.args.sizes.room c.args.dim
          c.args.first c.args.slots.now plain;
    }
