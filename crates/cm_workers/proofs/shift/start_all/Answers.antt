use Rattle.std.proofs.Common.{rules, List, subst, sym}
use Rattle.cm_subcube.specs.Blocks.{BlockView}
use Rattle.cm_workers.specs.declared.post.Post.{Post}
use Rattle.cm_gates.specs.Dealing.{hand}
use Rattle.std.specs.Prelude.{slice_get}
use Rattle.cm_workers.specs.Turns.{round_before}
use Rattle.cm_workers.specs.Gates.{IsWorkersTurn}
use Rattle.cm_workers.specs.Shifts.{IsPromised}
use Rattle.cm_workers.proofs.Shifting.{push_promised, first_taken, rest_left}
use Rattle.cm_workers.proofs.shift.start_all.Goals as goal

pub start-requires-clause-own : goal.start-requires-clause-own
start-requires-clause-own g c =
    let inv = c.loop-w.invariant in let w = c.loop-w.w in let number = c.args.number in
    let before = round_before c.args.run.rounds.now number in let next = slice_get c.args.run.rounds.now number in
    let blocks = c.args.hands.blocks.items in let posts = c.args.hands.posts.items in
    let e = c.remove.result in let f = c.remove-in-loop-w.result in
    let here = first_taken blocks c.loop-w.hands.blocks.items w e inv.blocks (search rules) c.remove.ensures.value in
    let there = first_taken posts c.loop-w.hands.posts.items w f inv.posts
    (search rules) c.remove-in-loop-w.ensures.value in
    subst (λ (bs : List BlockView). IsWorkersTurn c.args.run.acts.now before next number w bs f.items) (sym (here e))
    (subst (λ (ps : List Post). IsWorkersTurn c.args.run.acts.now before next number w (hand blocks e w) ps) (sym (there f))
    (c.requires.own w e f (search rules)))

pub loop-w-preserved : goal.loop-w-preserved
loop-w-preserved g c =
    let inv = c.loop-w.invariant in
    let acts = c.args.run.acts.now in let rounds = c.args.run.rounds.now in let number = c.args.number in
    let blocks = c.args.hands.blocks.items in let posts = c.args.hands.posts.items in
    let here = first_taken blocks c.loop-w.hands.blocks.items c.loop-w.w c.remove.result inv.blocks (search rules)
    c.remove.ensures.value in
    let there = first_taken posts c.loop-w.hands.posts.items c.loop-w.w c.remove-in-loop-w.result inv.posts
    (search rules) c.remove-in-loop-w.ensures.value in
    record {
      started = search rules;
      room = search rules;
      blocks = rest_left blocks c.loop-w.hands.blocks.items c.remove.new.self.items c.loop-w.w inv.blocks
          c.remove.ensures.by_index.2;
      posts = rest_left posts c.loop-w.hands.posts.items c.remove-in-loop-w.new.self.items c.loop-w.w inv.posts
          c.remove-in-loop-w.ensures.by_index.2;
      promised = push_promised (λ bs ps one. IsPromised acts rounds number bs ps one.promise)
          c.loop-w.handles.items c.push_reserved.new.self.items
          blocks posts c.in_ok-start.field-0 c.loop-w.w inv.started c.push_reserved.ensures.items inv.promised
          (λ e f. subst (λ (bs : List BlockView). IsPromised acts rounds number bs (hand posts f c.loop-w.w)
          c.in_ok-start.field-0.promise) (here e)
          (subst (λ (ps : List Post). IsPromised acts rounds number c.remove.result.items ps
          c.in_ok-start.field-0.promise) (there f) c.in_ok-start.ensures.ok));
    }
