use Rattle.std.proofs.Common.{length, ap, refl, ◌∙◌, arith}
use Rattle.cm_slots.proofs.Views.{across_inside, tiles_kept, queues_after, within_view, within_everywhere, items-lent}
use Rattle.cm_slots.proofs.Views.{crossed_past}
use Rattle.cm_slots.proofs.Moves.{crossed_one, one_within, queues_over-none}
use Rattle.cm_slots.proofs.Queues.{settled_stand, none_noted}
use Rattle.cm_slots.proofs.ticket_queues.TicketQueues.cross_in.Goals as goal

pub settle-requires : goal.settle-requires
settle-requires c = record { queues = (c.self.inside.chips, c.self.invariant) }

pub cross-requires : goal.cross-requires
cross-requires c =
    let settled = settled_stand (c.settle.ensures.value c.self.inside.chips c.self.invariant) c.self.view_is in
    let are = settled.kept.are in
    rw c.deref_mut.ensures.value (record {
      dimension = omega (arith, c.requires.dim, c.requires.dimension);
      across = across_inside are settled.view c.requires.count c.requires.dim;
      whole = are.whole;
      within = within_everywhere are settled.view c.args.sizes.room c.requires.within;
    })

pub invariant_of-self : goal.invariant_of-self
invariant_of-self c =
    let settled = settled_stand (c.settle.ensures.value c.self.inside.chips c.self.invariant) c.self.view_is in
    let new = c.cross.new.tiles in
    let long = c.cross.auto.tiles ∙ ap length c.deref_mut.ensures.value in
    none_noted c.settle.ensures.none (record {
      are = rw (items-lent c.settle.new.tiles new long)
          (tiles_kept settled.kept.are settled.view new long refl c.cross.ensures.whole
          (crossed_past settled.kept.are settled.view new long c.requires.count c.requires.dim c.args.order
          c.args.sizes.room (rw c.deref_mut.ensures.value at c.cross.ensures.value) c.args.sizes.bounds.some_room));
      space = settled.kept.space;
      rows_space = settled.kept.rows_space;
    })

pub returns-then-sizes-eq1-clause-value : goal.returns-then-sizes-eq1-clause-value
returns-then-sizes-eq1-clause-value c =
    c.note.ensures.value ∙ rw c.if-sizes-eq1.true (crossed_one c.args.self.now c.requires.count c.requires.dim
    (rw c.if-sizes-eq1.true at c.requires.within) c.args.order)

pub returns-then-sizes-eq1-clause-within : goal.returns-then-sizes-eq1-clause-within
returns-then-sizes-eq1-clause-within c =
    rw (c.note.ensures.value, c.if-sizes-eq1.true)
    (one_within c.args.self.now c.requires.count c.requires.dim (rw c.if-sizes-eq1.true at c.requires.within))

pub returns-else-sizes-eq1 : goal.returns-else-sizes-eq1
returns-else-sizes-eq1 c =
    let settled = settled_stand (c.settle.ensures.value c.self.inside.chips c.self.invariant) c.self.view_is in
    let new = c.cross.new.tiles in
    let long = c.cross.auto.tiles ∙ ap length c.deref_mut.ensures.value in
    rw (c.settle.ensures.none, queues_over-none, items-lent c.settle.new.tiles new long) (record {
      value = queues_after settled.kept.are settled.view new long c.requires.count c.requires.dim c.args.order
          c.args.sizes.room (rw c.deref_mut.ensures.value at c.cross.ensures.value) c.args.sizes.bounds.some_room;
      within = within_view c.self.inside.chips new c.args.sizes.room c.cross.ensures.within;
    })
