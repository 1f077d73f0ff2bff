use Rattle.std.proofs.Common.{◌∙◌, refl, ap, arith}
use Rattle.cm_exchange.specs.Lanes.{Exchange}
use Rattle.cm_weave_text.specs.Hearing.{exchange_in, processed, with_line_ended}
use Rattle.cm_weave_text.proofs.Pieces.{exchange_kept, own_run, same_run, heard_rest, heard_line}
use Rattle.cm_weave_text.proofs.hearing.hear.Goals as goal

pub loop-done-init : goal.loop-done-init
unfolding processed
loop-done-init g c = record { run = own_run c.args.world.now; within = omega arith; heard = refl }

pub returns-then-len-rest-clause-ok : goal.returns-then-len-rest-clause-ok
returns-then-len-rest-clause-ok g c =
    heard_rest (exchange_in g.S.Sizes.n g.S.Sizes.cap c.args.world.now) _ c.loop-done.world.world c.loop-done.line.items
    c.loop-done.answers.items c.args.piece.now _ _ c.extend_from_slice.new.self.items c.loop-done.done
    c.line_len-len.result refl refl c.if-len-rest.true c.line_len-len.ensures.unended
    c.in_ok-extend_from_slice.ensures.items c.loop-done.invariant.heard

pub loop-done-preserved : goal.loop-done-preserved
loop-done-preserved g c =
    let inv = c.loop-done.invariant in
    let less = c.line_len-len.ensures.within in
    let other = c.if-len-rest.false in
    record {
      run = same_run c.args.world.now c.loop-done.world c.end_line.new.world inv.run c.end_line.ensures.run;
      within = grind (arith, less, other, c.loop-done-test.true);
      heard = heard_line (exchange_in g.S.Sizes.n g.S.Sizes.cap c.args.world.now) _ _ c.loop-done.world.world
          c.loop-done.line.items c.loop-done.answers.items c.args.piece.now _ _ c.extend_from_slice.new.self.items
          c.loop-done.done c.line_len-len.result refl refl (omega (arith, less, other))
          (c.line_len-len.ensures.ends (omega (arith, less, other))) c.line_len-len.ensures.unended
          c.in_ok-extend_from_slice.ensures.items inv.heard
          (c.in_ok-end_line.ensures.ok
          ∙ ap (λ (exchange : Exchange). with_line_ended exchange (record {
            world = c.loop-done.world.world;
            line = c.extend_from_slice.new.self.items;
            answers = c.loop-done.answers.items;
          }))
          (exchange_kept g.S.Sizes.n g.S.Sizes.cap c.args.world.now c.loop-done.world inv.run));
    }
