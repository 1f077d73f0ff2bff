use Rattle.std.proofs.Common.{◌≡◌, length, map, ap, ◌∙◌, arith}
use Rattle.std.proofs.lemmas.List.{length-map}
use Rattle.cm_router_engine.specs.Standing.{InFlight}
use Rattle.cm_router_engine.specs.Ranking.{moved_ticket, HaveMoved}
use Rattle.cm_router_engine.proofs.Rising.{none_rising, all_kept_moved, all_standing_moved}
use Rattle.cm_router_engine.proofs.router_engine.RouterEngine.rank_anew.Goals as goal

pub invariant_of-self : goal.invariant_of-self
invariant_of-self c =
    let was = c.self.invariant in
    let queues = c.self.inside.slots in
    let moved = c.deref-then-rearrange.result.now in
    let have : HaveMoved c.self.inside.row.items c.rearrange.new.spare.items moved =
    rw (c.deref-then-rearrange.ensures.value, ← c.deref-2.ensures.value) (c.rearrange.ensures.value c.if-rearrange.true) in
    let long : length c.renumber.new.slots ≡ length queues =
    ap length c.renumber.ensures.value ∙ length-map queues (map (moved_ticket moved)) in
    record {
      few = omega (arith, was.few, long);
      enough = omega (arith, was.enough, long);
      most = was.most;
      capacity = rw c.swap.ensures.x_after (omega (arith, c.rearrange.ensures.capacity, was.spare_capacity));
      spare_capacity = rw c.swap.ensures.y_after was.capacity;
      filled = rw c.swap.ensures.x_after (omega (arith, c.rearrange.ensures.len, c.deref-2.ensures.len, was.filled));
      rows = omega (arith, was.rows, long);
      kept = rw (c.swap.ensures.x_after, c.renumber.ensures.value) (all_kept_moved have queues was.kept);
      together = λ t. absurd cc;
      rising = none_rising c.swap.new.x.items;
    }

pub returns-then-rearrange : goal.returns-then-rearrange
returns-then-rearrange c =
    let queues = c.self.inside.slots in
    let moved = c.deref-then-rearrange.result.now in
    let have : HaveMoved c.self.inside.row.items c.rearrange.new.spare.items moved =
    rw (c.deref-then-rearrange.ensures.value, ← c.deref-2.ensures.value) (c.rearrange.ensures.value c.if-rearrange.true) in
    record {
      value = rw (c.swap.ensures.x_after, c.renumber.ensures.value) (all_standing_moved have queues c.self.invariant.kept)
          ∙ ap (λ (crossing : InFlight). crossing.buffers) c.self.view_is;
    }
