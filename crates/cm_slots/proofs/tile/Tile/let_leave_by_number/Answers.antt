use Rattle.std.proofs.Common.{ℕ, ◌<◌, refl, slice_index}
use Rattle.cm_slots.specs.declared.order.Order.TheVariants.{Number}
use Rattle.cm_slots.specs.Slots.{slot_across, slot_behind}
use Rattle.cm_slots.specs.Tiles.{numbers_standing_at, HasTicketLeft}
use Rattle.cm_slots.proofs.Standing.{has_gone_by_number, few_stay}
use Rattle.cm_slots.proofs.tile.Tile.let_leave_by_number.Goals as goal

pub returns-clause-value : goal.returns-clause-value
returns-clause-value c =
    let reach = c.reach-rows in
    let gone : (i : ℕ) → i < 64 → HasTicketLeft Number c.args.sizes.room c.args.dim (numbers_standing_at c.args.self.now i)
    (slot_across c.args.dim (slice_index c.leave_from.new.first i)) (slot_behind c.leave_from.new.rest i) = λ i h.
    let few = reach.ensures.few i h (c.requires.within i h) in
    has_gone_by_number c.args.dim c.args.sizes.room reach.result _ _ (c.requires.whole.queues i h)
    reach.ensures.some reach.ensures.most c.args.sizes.bounds.most_room (few.0) (few.1) _ _ _ _
    (c.places-places.ensures.value i h) (c.leave_from.ensures.value i h) refl in
    record {
      shape = c.leave_from.ensures.shape;
      gone = gone;
      few = λ i h.
          let few = reach.ensures.few i h (c.requires.within i h) in
          few_stay c.args.dim c.args.sizes.room reach.result _ _ (c.requires.whole.queues i h)
          reach.ensures.some reach.ensures.most c.args.sizes.bounds.most_room (few.0) (few.1) Number (gone i h).few;
    }
