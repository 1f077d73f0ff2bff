use Rattle.std.proofs.Common.{◌∙◌}
use Rattle.cm_slots.specs.Tiles.{slots_of, numbers_standing_at}
use Rattle.cm_slots.proofs.Changing.{taken_in, ticket_of_slot}
use Rattle.cm_slots.proofs.tile.Tile.ticket.Goals as goal

pub ticket_in-requires : goal.ticket_in-requires
ticket_in-requires c = record {
  taken = rw c.slot.ensures.value (taken_in (slots_of c.args.self.now c.args.place)
      (numbers_standing_at c.args.self.now c.args.place) (c.requires.whole.queues c.args.place c.requires.place)
      c.args.slot);
}

pub returns-clause-value : goal.returns-clause-value
returns-clause-value c = c.ticket_in.ensures.value ∙ rw c.slot.ensures.value
    (ticket_of_slot (slots_of c.args.self.now c.args.place) (numbers_standing_at c.args.self.now c.args.place)
    (c.requires.whole.queues c.args.place c.requires.place) c.args.slot)
