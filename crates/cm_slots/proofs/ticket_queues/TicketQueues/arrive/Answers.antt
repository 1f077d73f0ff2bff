use Rattle.std.proofs.Common.{arith}
use Rattle.cm_slots.proofs.Queues.{settled_stand, made_stand, made_there, none_noted, over_none_noted}
use Rattle.cm_slots.proofs.Queues.{whole_here, length_here, after_arrival}
use Rattle.cm_slots.proofs.ticket_queues.TicketQueues.arrive.Goals as goal

pub settle-requires : goal.settle-requires
settle-requires c = record { queues = (c.self.inside.chips, c.self.invariant) }

pub make_tiles-requires : goal.make_tiles-requires
make_tiles-requires c = record { kept = (c.settle.ensures.value c.self.inside.chips c.self.invariant).kept }

pub index_mut-requires : goal.index_mut-requires
index_mut-requires c =
    let settled = settled_stand (c.settle.ensures.value c.self.inside.chips c.self.invariant) c.self.view_is in
    let made = made_stand settled c.make_tiles.ensures.kept c.make_tiles.ensures.value in
    omega (
      arith,
      c.make_tiles.new.tiles.ok.0,
      made_there made c.make_tiles.ensures.count c.args.chip c.requires.chip,
    )

pub arrive-requires-clause-whole : goal.arrive-requires-clause-whole
arrive-requires-clause-whole c =
    let settled = settled_stand (c.settle.ensures.value c.self.inside.chips c.self.invariant) c.self.view_is in
    let made = made_stand settled c.make_tiles.ensures.kept c.make_tiles.ensures.value in
    let there = made_there made c.make_tiles.ensures.count c.args.chip c.requires.chip in
    whole_here made c.requires.chip there c.index_mut.result.now c.index_mut.ensures.value

pub arrive-requires-clause-space : goal.arrive-requires-clause-space
arrive-requires-clause-space c =
    let settled = settled_stand (c.settle.ensures.value c.self.inside.chips c.self.invariant) c.self.view_is in
    let made = made_stand settled c.make_tiles.ensures.kept c.make_tiles.ensures.value in
    let there = made_there made c.make_tiles.ensures.count c.args.chip c.requires.chip in
    let many = length_here made c.requires.chip there c.index_mut.result.now c.index_mut.ensures.value in
    omega (arith, c.requires.room)

pub invariant_of-self : goal.invariant_of-self
invariant_of-self c =
    let settled = settled_stand (c.settle.ensures.value c.self.inside.chips c.self.invariant) c.self.view_is in
    let made = made_stand settled c.make_tiles.ensures.kept c.make_tiles.ensures.value in
    let there = made_there made c.make_tiles.ensures.count c.args.chip c.requires.chip in
    none_noted c.settle.ensures.none (record {
      are = (after_arrival made c.requires.chip there c.index_mut.result.now c.index_mut.ensures.value
          c.arrive.new.self c.slot_with.result c.args.ticket c.slot_with.ensures.back c.arrive.ensures.value).0;
      space = made.kept.space;
      rows_space = made.kept.rows_space;
    })

pub returns : goal.returns
returns c =
    let settled = settled_stand (c.settle.ensures.value c.self.inside.chips c.self.invariant) c.self.view_is in
    let made = made_stand settled c.make_tiles.ensures.kept c.make_tiles.ensures.value in
    let there = made_there made c.make_tiles.ensures.count c.args.chip c.requires.chip in
    record {
      value = over_none_noted _ c.settle.ensures.none
          (after_arrival made c.requires.chip there c.index_mut.result.now c.index_mut.ensures.value
          c.arrive.new.self c.slot_with.result c.args.ticket c.slot_with.ensures.back c.arrive.ensures.value).1;
    }
