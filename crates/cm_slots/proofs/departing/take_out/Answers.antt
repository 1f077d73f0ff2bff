use Rattle.std.proofs.Common.{◌<◌, None, length, set, arith}
use Rattle.std.proofs.lemmas.List.{get_or-set_same, get_or-set_other}
use Rattle.cm_slots.specs.Runs.{leavers_at, HasDeparted}
use Rattle.cm_slots.proofs.Runs.{one_more_done, leavers_are, whole_departed}
use Rattle.cm_slots.proofs.departing.take_out.Goals as goal

pub loop-t-preserved : goal.loop-t-preserved
loop-t-preserved c =
    let t = c.loop-t.t in
    let inside : t < length c.args.tiles.now = omega (arith, c.loop-t-test.true, c.loop-t.invariant.long) in
    let leaving = set c.loop-t.leaving t c.depart.new.leavers in
    one_more_done (λ s old new. HasDeparted c.args.sizes.room c.args.dim old new (leavers_at c.loop-t.leaving s))
    (λ s old new. HasDeparted c.args.sizes.room c.args.dim old new (leavers_at leaving s)) c.args.tiles.now c.loop-t.tiles t
    c.depart.new.self inside
    (λ s old new h has. rw (get_or-set_other c.loop-t.leaving t s c.depart.new.leavers None (omega arith)) has)
    (rw (get_or-set_same c.loop-t.leaving t c.depart.new.leavers None
    (omega (arith, c.loop-t.auto.leaving, c.requires.rows))) c.depart.ensures.value)
    c.loop-t.invariant

pub returns-clause-leavers : goal.returns-clause-leavers
returns-clause-leavers c =
    leavers_are c.args.sizes.room c.args.dim c.args.tiles.now c.loop-t.tiles c.loop-t.leaving c.loop-t.invariant.long
    (omega (arith, c.loop-t.auto.leaving, c.requires.rows))
    (λ t h. c.loop-t.invariant.done t (omega (arith, h, c.loop-t-test.false, c.loop-t.invariant.long)))

pub returns-clause-whole : goal.returns-clause-whole
returns-clause-whole c =
    whole_departed c.args.sizes.room c.args.dim c.args.tiles.now c.loop-t.tiles c.loop-t.leaving c.loop-t.invariant.long
    (omega (arith, c.loop-t.auto.leaving, c.requires.rows))
    (λ t h. c.loop-t.invariant.done t (omega (arith, h, c.loop-t-test.false, c.loop-t.invariant.long)))
