use Rattle.std.proofs.Common.{refl, arith}
use Rattle.cm_debug.proofs.Taking.{line_more, nothing_taken, part_taken, piece_taken, rest_stopped, rest_taken}
use Rattle.cm_debug.proofs.Taking.{stopped_between, stopped_in_line, unended}
use Rattle.cm_debug.proofs.console.Console.hear.Goals as goal

pub loop-done-init : goal.loop-done-init
loop-done-init g c = record {
  working = c.requires.writer;
  within = omega arith;
  taken = nothing_taken g.S.Sizes.n g.S.Sizes.cap _;
}

pub returns-in-Ok-clause-takes : goal.returns-in-Ok-clause-takes
returns-in-Ok-clause-takes g c =
    rest_taken c.args.piece.now _ c.loop-done.done refl c.loop-done.invariant.taken
    (part_taken g.S.Sizes.n g.S.Sizes.cap _ _ c.extend_from_slice.new.self.items
    (unended _ _ c.if-len-rest.true c.line_len-len.ensures.unended) c.in-Ok.ensures.items)

pub returns-in-Err-clause-takes : goal.returns-in-Err-clause-takes
returns-in-Err-clause-takes g c =
    rest_stopped c.args.piece.now _ c.loop-done.done refl c.loop-done.invariant.taken
    (stopped_between _ _ _ c.give_up.ensures.value refl c.give_up.ensures.thread refl)

pub returns-in-Err-end_line-clause-takes : goal.returns-in-Err-end_line-clause-takes
returns-in-Err-end_line-clause-takes g c =
    stopped_in_line c.args.piece.now _ c.loop-done.done c.line_len-len.result refl
    (omega (arith, c.line_len-len.ensures.within, c.if-len-rest.false))
    (c.line_len-len.ensures.ends (omega (arith, c.line_len-len.ensures.within, c.if-len-rest.false)))
    c.loop-done.invariant.taken c.in-Err-end_line.ensures.takes

pub loop-done-preserved : goal.loop-done-preserved
loop-done-preserved g c =
    let inv = c.loop-done.invariant in
    let taken = line_more c.args.piece.now _ c.loop-done.done c.line_len-len.result refl
    (omega (arith, c.line_len-len.ensures.within, c.if-len-rest.false))
    (c.line_len-len.ensures.ends (omega (arith, c.line_len-len.ensures.within, c.if-len-rest.false)))
    inv.taken c.in-Ok-end_line.ensures.takes in
    record {
      working = c.in-Ok-end_line.ensures.failed;
      within = grind (arith, c.line_len-len.ensures.within, c.if-len-rest.false, c.loop-done-test.true);
      taken = taken;
    }

pub returns-clause-takes : goal.returns-clause-takes
returns-clause-takes g c =
    piece_taken c.args.piece.now c.loop-done.done (omega arith) c.loop-done.invariant.taken
