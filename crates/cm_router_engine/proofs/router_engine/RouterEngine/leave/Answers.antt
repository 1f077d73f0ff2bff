use Rattle.std.proofs.Common.{◌≤◌, ◌∙◌, ap, map, arith}
use Rattle.std.specs.Option.{option_map}
use Rattle.std.specs.Vec.{with_items}
use Rattle.cm_router.specs.Routes.{routing_of}
use Rattle.cm_router_engine.specs.Standing.{InFlight, message_of_ticket}
use Rattle.cm_router_engine.proofs.Carrying.{as_many}
use Rattle.cm_router_engine.proofs.Leaving.{whole_left, whole_left_long, whole_left_kept, whole_gone, whole_gone_kept}
use Rattle.cm_router_engine.proofs.Leaving.{whole_left_within, whole_left_space}
use Rattle.cm_router_engine.proofs.router_engine.RouterEngine.leave.Goals as goal

pub leave-requires-clause-within : goal.leave-requires-clause-within
leave-requires-clause-within c =
    (as_many (λ n. n ≤ c.args.sizes.room) c.self.inside.row.items c.self.inside.slots).1
    (rw (← c.self.view_is) at c.requires.within)

pub collect-requires-clause-kept : goal.collect-requires-clause-kept
collect-requires-clause-kept c =
    let are = ap (λ (crossing : InFlight). crossing.buffers) c.self.view_is in
    rw (c.deref-2.ensures.value, ← c.deref.ensures.value) (whole_gone_kept c.deref.result.now c.self.inside.row.items c.deref.ensures.value
    (routing_of c.args.routing.now) c.args.sizes.room c.args.dim c.args.first c.self.inside.slots
    c.leave.new.slots c.args.self.now.buffers are c.leave.ensures.value c.leave.new.leavers c.leave.ensures.going
    c.self.invariant.kept)

pub invariant_of-self : goal.invariant_of-self
invariant_of-self c =
    let was = c.self.invariant in
    let are = ap (λ (crossing : InFlight). crossing.buffers) c.self.view_is in
    let long = whole_left_long c.deref.result.now c.self.inside.row.items c.deref.ensures.value
    (routing_of c.args.routing.now) c.args.sizes.room c.args.dim c.args.first c.self.inside.slots
    c.leave.new.slots c.args.self.now.buffers are c.leave.ensures.value in
    record {
      few = omega (arith, was.few, long);
      enough = omega (arith, was.enough, long);
      most = was.most;
      capacity = was.capacity;
      spare_capacity = was.spare_capacity;
      filled = was.filled;
      rows = omega (arith, (with_items c.self.inside.leavers c.leave.new.leavers).ok.0, c.self.inside.leavers.ok.0, was.rows, long);
      kept = whole_left_kept c.deref.result.now c.self.inside.row.items c.deref.ensures.value
          (routing_of c.args.routing.now) c.args.sizes.room c.args.dim c.args.first c.self.inside.slots
          c.leave.new.slots c.args.self.now.buffers are c.leave.ensures.value was.kept;
      together = λ t. absurd cc;
      rising = was.rising;
    }

pub returns : goal.returns
returns c =
    let are = ap (λ (crossing : InFlight). crossing.buffers) c.self.view_is in
    record {
      value = whole_left c.deref.result.now c.self.inside.row.items c.deref.ensures.value
          (routing_of c.args.routing.now) c.args.sizes.room c.args.dim c.args.first c.self.inside.slots
          c.leave.new.slots c.args.self.now.buffers are c.leave.ensures.value;
      going = c.collect.ensures.value
          ∙ ((λ i. map (λ t. option_map (message_of_ticket (c.deref-2.ensures.value i)) t) c.leave.new.leavers)
          ∙ whole_gone c.deref.result.now c.self.inside.row.items c.deref.ensures.value
          (routing_of c.args.routing.now) c.args.sizes.room c.args.dim c.args.first c.self.inside.slots
          c.leave.new.slots c.args.self.now.buffers are c.leave.ensures.value c.leave.new.leavers c.leave.ensures.going);
      within = whole_left_within c.deref.result.now c.self.inside.row.items c.deref.ensures.value
          (routing_of c.args.routing.now) c.args.sizes.room c.args.dim c.args.first c.self.inside.slots
          c.leave.new.slots c.args.self.now.buffers are c.leave.ensures.value c.requires.within
          (omega (arith, c.args.sizes.bounds.some_room));
      space = whole_left_space c.deref.result.now c.self.inside.row.items c.deref.ensures.value
          (routing_of c.args.routing.now) c.args.sizes.room c.args.dim c.args.first c.self.inside.slots
          c.leave.new.slots c.args.self.now.buffers are c.leave.ensures.value c.requires.within
          (omega (arith, c.args.sizes.bounds.some_room));
    }
