use Rattle.std.proofs.Common.{◌≡◌, ◌<◌, ◌↔◌, true, Some, IsNone, true≢false, sym, ◌∙◌, subst, arith}
use Rattle.cm_exchange.specs.Lanes.{Exchange}
use Rattle.cm_exchange.specs.Worlds.{IsFinished}
use Rattle.cm_exchange.specs.Steps.{is_possible, next_step, world_after}
use Rattle.cm_weave_text.specs.Alone.{step_count}
use Rattle.cm_weave_text.specs.Hearing.{exchange_in}
use Rattle.cm_weave_text.proofs.Pieces.{exchange_kept, own_run, same_run}
use Rattle.cm_weave_text.proofs.Playing.{plays_first, plays_on, plays_cut, has_played_out, few_steps, few_in_run, run_is}
use Rattle.cm_weave_text.proofs.alone.play_on.Goals as goal

pub loop-step-init : goal.loop-step-init
loop-step-init g c =
    let way = c.k.ensures.way in
    record {
      run = own_run c.args.world.now;
      writing = c.requires.writer;
      playing = plays_first (exchange_in g.S.Sizes.n g.S.Sizes.cap c.args.world.now) c.args.world.now.world _
          c.args.text.now.items way.reached.steps way.reached.is c.requires.none
          (few_in_run g.S.Sizes.n g.S.Sizes.cap c.args.world.now way);
    }

pub returns-in-Err-clause-err : goal.returns-in-Err-clause-err
returns-in-Err-clause-err g c =
    let inv = c.loop-step.invariant in
    let same = exchange_kept g.S.Sizes.n g.S.Sizes.cap c.args.world.now c.loop-step.world inv.run in
    plays_cut (exchange_in g.S.Sizes.n g.S.Sizes.cap c.args.world.now)
    (run_is g.S.Sizes.n g.S.Sizes.cap c.args.world.now c.k.ensures.way) c.args.world.now.world c.loop-step.world.world _ _
    c.loop-step.text.items c.loop-step.steps c.loop-step.sent inv.playing c.in-Some.step
    (λ finished. true≢false (c.in-Some.ensures.finished.1
    (subst (λ (e : Exchange). IsFinished e c.loop-step.world.world) (sym same) finished)))
    (subst (λ (e : Exchange). next_step e c.loop-step.world.world ≡ Some c.in-Some.step) same
    (sym c.next.ensures.value ∙ c.in-Some.is)) _ c.in-Err.fault c.in-Err.ensures.err

pub loop-step-smaller : goal.loop-step-smaller
loop-step-smaller g c =
    let inv = c.loop-step.invariant in
    let same = exchange_kept g.S.Sizes.n g.S.Sizes.cap c.args.world.now c.loop-step.world inv.run in
    let less : c.loop-step.steps < step_count (exchange_in g.S.Sizes.n g.S.Sizes.cap c.args.world.now) =
    few_steps (exchange_in g.S.Sizes.n g.S.Sizes.cap c.args.world.now)
    (run_is g.S.Sizes.n g.S.Sizes.cap c.args.world.now c.k.ensures.way) c.args.world.now.world c.loop-step.world.world _ _
    c.loop-step.text.items c.loop-step.steps c.loop-step.sent inv.playing c.in-Some.step
    (λ finished. true≢false (c.in-Some.ensures.finished.1
    (subst (λ (e : Exchange). IsFinished e c.loop-step.world.world) (sym same) finished)))
    (subst (λ (e : Exchange). next_step e c.loop-step.world.world ≡ Some c.in-Some.step) same
    (sym c.next.ensures.value ∙ c.in-Some.is)) in
    omega (arith, less)

pub loop-step-preserved : goal.loop-step-preserved
loop-step-preserved g c =
    let inv = c.loop-step.invariant in
    let same = exchange_kept g.S.Sizes.n g.S.Sizes.cap c.args.world.now c.loop-step.world inv.run in
    record {
      run = same_run c.args.world.now c.loop-step.world c.tell_step.new.world inv.run c.tell_step.ensures.run;
      writing = c.in-Ok.ensures.write;
      playing = plays_on (exchange_in g.S.Sizes.n g.S.Sizes.cap c.args.world.now)
          (run_is g.S.Sizes.n g.S.Sizes.cap c.args.world.now c.k.ensures.way) c.args.world.now.world c.loop-step.world.world _ _
          c.loop-step.text.items c.loop-step.steps c.loop-step.sent inv.playing c.in-Some.step
          (λ finished. true≢false (c.in-Some.ensures.finished.1
          (subst (λ (e : Exchange). IsFinished e c.loop-step.world.world) (sym same) finished)))
          (subst (λ (e : Exchange). next_step e c.loop-step.world.world ≡ Some c.in-Some.step) same
          (sym c.next.ensures.value ∙ c.in-Some.is)) c.tell_step.new.world.world _ c.tell_step.new.text.items
          c.in-Ok.now
          (subst (λ (e : Exchange). is_possible e c.loop-step.world.world c.in-Some.step ≡ true) same
          c.in-Some.ensures.possible.possible)
          (subst (λ (e : Exchange). c.tell_step.new.world.world ≡ world_after e c.loop-step.world.world c.in-Some.step)
          same c.in-Ok.ensures.world) c.in-Ok.ensures.few c.in-Ok.ensures.ok;
    }

pub returns-clause-ok : goal.returns-clause-ok
returns-clause-ok g c =
    let inv = c.loop-step.invariant in
    let same = exchange_kept g.S.Sizes.n g.S.Sizes.cap c.args.world.now c.loop-step.world inv.run in
    has_played_out (exchange_in g.S.Sizes.n g.S.Sizes.cap c.args.world.now)
    (run_is g.S.Sizes.n g.S.Sizes.cap c.args.world.now c.k.ensures.way) c.args.world.now.world c.loop-step.world.world _ _
    c.loop-step.text.items c.loop-step.steps c.loop-step.sent inv.playing c.next.result
    (subst (λ (e : Exchange). c.next.result ≡ next_step e c.loop-step.world.world) same c.next.ensures.value)
    (subst (λ (e : Exchange). IsNone c.next.result ↔ IsFinished e c.loop-step.world.world) same c.next.ensures.finished)
    c.in_default.not-Some
