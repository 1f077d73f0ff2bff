use Rattle.std.proofs.Common.{◌∙◌, arith}
use Rattle.std.proofs.lemmas.List.{get_or_past}
use Rattle.cm_slots.specs.Tiles.{slots_of}
use Rattle.cm_slots.proofs.Changing.{counted}
use Rattle.cm_slots.proofs.tile.Tile.len.Goals as goal

pub returns-else-slot-ne0-clause-value : goal.returns-else-slot-ne0-clause-value
returns-else-slot-ne0-clause-value c = counted c.loop-len.len (slots_of c.args.self.now c.args.place) _
    (c.requires.whole.queues c.args.place c.requires.place) c.loop-len.invariant.some
    (omega (arith, c.slot.ensures.value))

pub returns-after-loop-len-clause-value : goal.returns-after-loop-len-clause-value
returns-after-loop-len-clause-value c =
    let are = c.requires.whole.queues c.args.place c.requires.place in
    counted c.loop-len.len (slots_of c.args.self.now c.args.place) _ are c.loop-len.invariant.some
    (are.each c.loop-len.len ∙ get_or_past _ c.loop-len.len 0 (omega (arith, are.fits)))
