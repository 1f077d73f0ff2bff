use Rattle.std.proofs.Common.{◌≡◌, sym, ◌∙◌, arith}
use Rattle.std.proofs.lemmas.List.{get_or_past}
use Rattle.cm_slots.proofs.Changing.{taken_out}
use Rattle.cm_slots.proofs.tile.Tile.remove.Goals as goal

pub returns-then-next-eq0 : goal.returns-then-next-eq0
returns-then-next-eq0 c =
    let later = c.loop-later.later in
    let was = c.loop-later.invariant in
    record {
      value = taken_out c.args.place c.args.slot later c.args.self.now c.loop-later.self c.put.new.self
          c.requires.place c.requires.whole c.requires.there (omega (arith, c.loop-later.auto.later))
          (sym (was.closing.ahead later (omega arith)) ∙ sym c.slot-next.ensures.value ∙ c.if-next-eq0.true)
          (rw c.if-next-eq0.true at c.put.ensures.value) was.closing was.others;
    }

pub returns : goal.returns
returns c =
    let are = c.requires.whole.queues c.args.place c.requires.place in
    let last : c.loop-later.later ≡ 15 =
    omega (arith, are.fits, c.requires.there, c.loop-later-test.false, c.loop-later.auto.later-end) in
    record {
      value = taken_out c.args.place c.args.slot 15 c.args.self.now c.loop-later.self c.put-2.new.self
          c.requires.place c.requires.whole c.requires.there (omega (arith, are.fits, c.requires.there))
          (are.each 15 ∙ get_or_past _ 15 0 are.fits) c.put-2.ensures.value
          (rw last at c.loop-later.invariant.closing) c.loop-later.invariant.others;
    }
