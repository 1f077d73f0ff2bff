use Rattle.std.proofs.Common.{arith}
use Rattle.cm_slots.proofs.Views.{stands_there}
use Rattle.cm_slots.proofs.Queues.{settled_stand, none_noted, over_none_noted, whole_here, length_here}
use Rattle.cm_slots.proofs.Queues.{after_replacement}
use Rattle.cm_slots.proofs.ticket_queues.TicketQueues.replace.Goals as goal

pub settle-requires : goal.settle-requires
settle-requires c = record { queues = (c.self.inside.chips, c.self.invariant) }

pub index_mut-requires : goal.index_mut-requires
index_mut-requires c =
    let settled = settled_stand (c.settle.ensures.value c.self.inside.chips c.self.invariant) c.self.view_is in
    omega (
      arith,
      c.settle.new.tiles.ok.0,
      stands_there settled.kept.are settled.view c.args.chip c.args.place c.requires.chip c.requires.place,
    )

pub replace-requires-clause-whole : goal.replace-requires-clause-whole
replace-requires-clause-whole c =
    let settled = settled_stand (c.settle.ensures.value c.self.inside.chips c.self.invariant) c.self.view_is in
    let there = stands_there settled.kept.are settled.view c.args.chip c.args.place c.requires.chip c.requires.place in
    whole_here settled c.requires.chip there c.index_mut.result.now c.index_mut.ensures.value

pub replace-requires-clause-there : goal.replace-requires-clause-there
replace-requires-clause-there c =
    let settled = settled_stand (c.settle.ensures.value c.self.inside.chips c.self.invariant) c.self.view_is in
    let there = stands_there settled.kept.are settled.view c.args.chip c.args.place c.requires.chip c.requires.place in
    let many = length_here settled c.requires.chip there c.index_mut.result.now c.index_mut.ensures.value in
    omega (arith, c.requires.place)

pub invariant_of-self : goal.invariant_of-self
invariant_of-self c =
    let settled = settled_stand (c.settle.ensures.value c.self.inside.chips c.self.invariant) c.self.view_is in
    let there = stands_there settled.kept.are settled.view c.args.chip c.args.place c.requires.chip c.requires.place in
    none_noted c.settle.ensures.none (record {
      are = (after_replacement settled c.requires.chip there c.index_mut.result.now c.index_mut.ensures.value
          c.replace.new.self c.slot_with.result c.args.ticket c.slot_with.ensures.back c.args.place
          c.replace.ensures.value).0;
      space = settled.kept.space;
      rows_space = settled.kept.rows_space;
    })

pub returns : goal.returns
returns c =
    let settled = settled_stand (c.settle.ensures.value c.self.inside.chips c.self.invariant) c.self.view_is in
    let there = stands_there settled.kept.are settled.view c.args.chip c.args.place c.requires.chip c.requires.place in
    record {
      value = over_none_noted _ c.settle.ensures.none
          (after_replacement settled c.requires.chip there c.index_mut.result.now c.index_mut.ensures.value
          c.replace.new.self c.slot_with.result c.args.ticket c.slot_with.ensures.back c.args.place
          c.replace.ensures.value).1;
    }
