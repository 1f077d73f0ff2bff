use Rattle.std.proofs.Common.{◌<◌, ◌≤◌, ◌∙◌, length, sym, ap, arith, ⊎_elim}
use Rattle.std.specs.Vec.{with_items}
use Rattle.std.proofs.lemmas.Bool.{cases_lt}
use Rattle.std.proofs.lemmas.List.{length-map}
use Rattle.std.proofs.lemmas.Nat.{pow_below}
use Rattle.cm_router.specs.Routes.{routing_of}
use Rattle.cm_router_engine.specs.Standing.{InFlight, standing}
use Rattle.cm_router_engine.proofs.Carrying.{as_many}
use Rattle.cm_router_engine.proofs.Leaving.{whole_crossed, whole_crossed_long, whole_crossed_kept, whole_crossed_within}
use Rattle.cm_router_engine.proofs.router_engine.RouterEngine.cross_in_order.Goals as goal

-- chips within a cube span no more dimensions than it has
pub cross-requires-clause-span : goal.cross-requires-clause-span
cross-requires-clause-span c =
    let n = c.args.sizes.dims in
    ⊎_elim (λ (l : n < c.args.span). absurd (omega (arith, c.requires.band, pow_below n c.args.span l)))
    (λ (l : c.args.span ≤ n). l) (cases_lt n c.args.span)

pub cross-requires-clause-within : goal.cross-requires-clause-within
cross-requires-clause-within c =
    (as_many (λ n. n ≤ c.args.sizes.room) c.self.inside.row.items c.self.inside.slots).1
    (rw (← c.self.view_is) at c.requires.within)

pub invariant_of-self : goal.invariant_of-self
invariant_of-self c =
    let was = c.self.invariant in
    let are = ap (λ (crossing : InFlight). crossing.buffers) c.self.view_is in
    let long = whole_crossed_long c.deref.result.now c.self.inside.row.items c.deref.ensures.value
    (routing_of c.args.routing.now) c.args.sizes.room c.args.dim c.args.span c.args.first c.self.inside.slots
    c.cross.new.slots c.args.self.now.buffers are c.cross.ensures.value in
    let before = sym (length-map c.self.inside.slots (standing c.self.inside.row.items)) ∙ (ap length are ∙ c.requires.count) in
    record {
      few = omega (arith, was.few, long, before);
      enough = omega (arith, was.enough, long, before);
      most = was.most;
      capacity = was.capacity;
      spare_capacity = was.spare_capacity;
      filled = was.filled;
      rows = omega (arith, (with_items c.self.inside.leavers c.cross.new.leavers).ok.0, c.self.inside.leavers.ok.0, was.rows, long, before);
      kept = whole_crossed_kept c.deref.result.now c.self.inside.row.items c.deref.ensures.value
          (routing_of c.args.routing.now) c.args.sizes.room c.args.dim c.args.span c.args.first c.self.inside.slots
          c.cross.new.slots c.args.self.now.buffers are c.cross.ensures.value was.kept;
      together = λ t. absurd cc;
      rising = was.rising;
    }

pub returns : goal.returns
returns c =
    let are = ap (λ (crossing : InFlight). crossing.buffers) c.self.view_is in
    record {
      value = whole_crossed c.deref.result.now c.self.inside.row.items c.deref.ensures.value
          (routing_of c.args.routing.now) c.args.sizes.room c.args.dim c.args.span c.args.first c.self.inside.slots
          c.cross.new.slots c.args.self.now.buffers are c.cross.ensures.value;
      count = length-map c.cross.new.slots (standing c.self.inside.row.items)
          ∙ whole_crossed_long c.deref.result.now c.self.inside.row.items c.deref.ensures.value
          (routing_of c.args.routing.now) c.args.sizes.room c.args.dim c.args.span c.args.first c.self.inside.slots
          c.cross.new.slots c.args.self.now.buffers are c.cross.ensures.value;
      within = whole_crossed_within c.deref.result.now c.self.inside.row.items c.deref.ensures.value
          (routing_of c.args.routing.now) c.args.sizes.room c.args.dim c.args.span c.args.first c.self.inside.slots
          c.cross.new.slots c.args.self.now.buffers are c.cross.ensures.value c.requires.within
          (omega (arith, c.args.sizes.bounds.some_room));
    }
