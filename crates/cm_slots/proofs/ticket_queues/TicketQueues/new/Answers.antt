use Rattle.std.proofs.Common.{refl, ap, length, arith}
use Rattle.cm_slots.proofs.Views.{no_queues, no_tiles}
use Rattle.cm_slots.proofs.Queues.{none_noted, over_none_noted}
use Rattle.cm_slots.proofs.ticket_queues.TicketQueues.new.Goals as goal

pub invariant_of-result : goal.invariant_of-result
invariant_of-result c =
    let tiles = c.in_ok-tiles in
    let leaving = c.in_ok-leaving in
    none_noted refl (record {
      are = no_tiles c.args.chips tiles.tiles.items leaving.leaving.items c.requires.few (ap length tiles.ensures.items)
          (ap length leaving.ensures.items);
      space = omega (arith, tiles.ensures.capacity);
      rows_space = omega (arith, leaving.ensures.capacity);
    })

pub returns : goal.returns
returns c = record {
  value = over_none_noted _ refl
      (no_queues c.args.chips c.in_ok-tiles.tiles.items (ap length c.in_ok-tiles.ensures.items));
}
