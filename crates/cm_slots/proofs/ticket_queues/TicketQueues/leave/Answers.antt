use Rattle.std.proofs.Common.{◌-◌, ◌/◌, [], None, length, ap, ◌∙◌, refl, arith}
use Rattle.cm_slots.specs.Queues.{stayers_of}
use Rattle.cm_slots.specs.Tickets.{has_to_go, ticket_going}
use Rattle.cm_slots.specs.Runs.{tickets_of, ticket_leaving_chip}
use Rattle.cm_slots.proofs.Views.{as_many, tiles_kept, mapped, within_view, within_everywhere}
use Rattle.cm_slots.proofs.Views.{items-lent, place_of_leaver-nobody}
use Rattle.std.proofs.lemmas.List.{get_or_past}
use Rattle.cm_slots.proofs.Changing.{nobody_past}
use Rattle.cm_slots.proofs.Moves.{queues_over-none}
use Rattle.cm_slots.proofs.Queues.{settled_stand, none_noted}
use Rattle.cm_slots.proofs.ticket_queues.TicketQueues.leave.Goals as goal

pub settle-requires : goal.settle-requires
settle-requires c = record { queues = (c.self.inside.chips, c.self.invariant) }

pub take_out-requires : goal.take_out-requires
take_out-requires c =
    let settled = settled_stand (c.settle.ensures.value c.self.inside.chips c.self.invariant) c.self.view_is in
    rw (c.deref_mut.ensures.value, c.deref_mut-2.ensures.value) (record {
      dimension = c.requires.dim;
      rows = settled.kept.are.rows;
      whole = settled.kept.are.whole;
      within = within_everywhere settled.kept.are settled.view c.args.sizes.room c.requires.within;
    })

pub write_down-requires : goal.write_down-requires
write_down-requires c =
    let settled = settled_stand (c.settle.ensures.value c.self.inside.chips c.self.invariant) c.self.view_is in
    let are = settled.kept.are in
    let rows = c.take_out.auto.leaving ∙ ap length c.deref_mut-2.ensures.value in
    let lent = c.deref.ensures.value ∙ items-lent c.settle.new.leaving c.take_out.new.leaving rows in
    let long = ap length lent in
    record {
      enough = λ some.
          let count = are.count (omega (arith, some, long, rows, are.rows)) in
          omega (arith, long, rows, are.rows, count, c.requires.count, as_many are settled.view);
      leavers = rw lent c.take_out.ensures.leavers;
    }

pub invariant_of-self : goal.invariant_of-self
invariant_of-self c =
    let settled = settled_stand (c.settle.ensures.value c.self.inside.chips c.self.invariant) c.self.view_is in
    let new = c.take_out.new in
    let long = c.take_out.auto.tiles ∙ ap length c.deref_mut.ensures.value in
    let rows = c.take_out.auto.leaving ∙ ap length c.deref_mut-2.ensures.value in
    none_noted c.settle.ensures.none (record {
      are = rw (items-lent c.settle.new.tiles new.tiles long, items-lent c.settle.new.leaving new.leaving rows)
          (tiles_kept settled.kept.are settled.view new.tiles long rows c.take_out.ensures.whole
          (λ k past h. (rw c.deref_mut.ensures.value at c.take_out.ensures.value) k h
          ∙ rw (
            settled.kept.are.past k past h,
            place_of_leaver-nobody (has_to_go c.args.dim) c.args.sizes.room c.args.sizes.bounds.some_room,
          ) refl));
      space = settled.kept.space;
      rows_space = settled.kept.rows_space;
    })

pub returns : goal.returns
returns c =
    let settled = settled_stand (c.settle.ensures.value c.self.inside.chips c.self.invariant) c.self.view_is in
    let are = settled.kept.are in
    let new = c.take_out.new in
    let long = c.take_out.auto.tiles ∙ ap length c.deref_mut.ensures.value in
    let rows = c.take_out.auto.leaving ∙ ap length c.deref_mut-2.ensures.value in
    let nobody = place_of_leaver-nobody (has_to_go c.args.dim) c.args.sizes.room c.args.sizes.bounds.some_room in
    let written = c.deref.ensures.value ∙ items-lent c.settle.new.leaving new.leaving rows in
    rw (c.settle.ensures.none, queues_over-none, items-lent c.settle.new.tiles new.tiles long) (record {
      value = mapped are settled.view [] (tickets_of new.tiles)
          (λ ts. stayers_of (has_to_go c.args.dim) c.args.sizes.room ts)
          (rw c.deref_mut.ensures.value at c.take_out.ensures.value)
          (λ k past. nobody_past new.tiles k (omega (arith, past, long)) ∙ rw nobody refl);
      going = c.write_down.ensures.value ∙ rw (written, c.requires.count, as_many are settled.view)
          (mapped are settled.view None (ticket_leaving_chip new.leaving)
          (λ ts. ticket_going c.args.sizes.room c.args.dim ts)
          (rw c.deref_mut.ensures.value at c.take_out.ensures.going)
          (λ k past. rw (get_or_past new.leaving (k / 64) None (omega (arith, past, rows, are.rows)), nobody) refl));
      space = λ k d h.
          let low = within_view c.self.inside.chips new.tiles (c.args.sizes.room - 1) c.take_out.ensures.space k d h in
          omega (arith, c.args.sizes.bounds.some_room);
    })
