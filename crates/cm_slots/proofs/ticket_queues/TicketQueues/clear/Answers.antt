use Rattle.std.proofs.Common.{length, ◌/◌, refl}
use Rattle.cm_slots.specs.Runs.{AreEmptyTiles}
use Rattle.cm_slots.proofs.Views.{empty_quiet, empty_whole, empty_queues, tiles_kept, items-lent}
use Rattle.cm_slots.proofs.Changing.{quiet_tickets}
use Rattle.cm_slots.proofs.Queues.{none_noted, over_none_noted, chip_count}
use Rattle.cm_slots.proofs.ticket_queues.TicketQueues.clear.Goals as goal

pub invariant_of-self : goal.invariant_of-self
invariant_of-self c =
    let kept = c.self.invariant.kept in
    let new = c.empty_all.new.tiles in
    let empty : AreEmptyTiles (length c.self.inside.tiles.items) new =
    rw c.deref_mut.ensures.value at c.empty_all.ensures.value in
    none_noted refl (record {
      are = rw (items-lent c.self.inside.tiles new empty.long) (tiles_kept kept.are refl new empty.long refl
          (empty_whole empty) (λ k past h. quiet_tickets k new (empty_quiet empty (k / 64) h)));
      space = kept.space;
      rows_space = kept.rows_space;
    })

pub returns : goal.returns
returns c =
    let new = c.empty_all.new.tiles in
    let empty : AreEmptyTiles (length c.self.inside.tiles.items) new =
    rw c.deref_mut.ensures.value at c.empty_all.ensures.value in
    record {
      value = over_none_noted _ refl
          (rw (items-lent c.self.inside.tiles new empty.long, chip_count c.self.invariant c.self.view_is)
          (empty_queues c.self.inside.chips (length c.self.inside.tiles.items) new empty));
    }
