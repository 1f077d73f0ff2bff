use Rattle.std.proofs.Common.{rules, ◌∷◌, [], ◌∙◌, sym, subst, length, get_or, ◌<◌}
use Rattle.std.proofs.lemmas.List.{length-append, map-id}
use Rattle.std.proofs.lemmas.Iterator.Adapters.{YieldsList-from_vec}
use Rattle.std.proofs.lemmas.Iterator.Consumers.{YieldsList-end}
use Rattle.cm_gates.specs.Dealing.{hand}
use Rattle.cm_workers.specs.Shifts.{IsPromiseKept}
use Rattle.cm_workers.proofs.Shifting.{push_kept}
use Rattle.cm_workers.proofs.shift.join_all.Goals as goal

pub loop-handle-preserved : goal.loop-handle-preserved
loop-handle-preserved g c =
    let inv = c.loop-handle.invariant in
    let more = length-append c.loop-handle.yielded (c.in-Some.handle ∷ []) in record {
      blocks = search rules;
      posts = search rules;
      block_room = search rules;
      post_room = search rules;
      kept = push_kept (λ one blocks posts. IsPromiseKept one.promise blocks posts)
          c.loop-handle.yielded c.loop-handle.blocks.items c.loop-handle.posts.items
          c.in-Some.handle c.join-crew.result.blocks c.join-crew.result.posts c.push_reserved.new.self.items
          c.push_reserved-in-loop-handle.new.self.items
          inv.blocks inv.posts c.push_reserved.ensures.items c.push_reserved-in-loop-handle.ensures.items
          inv.kept c.join-crew.ensures;
    }

pub returns-clause-kept : goal.returns-clause-kept
returns-clause-kept g c =
    let gives = c.into_iter-handle-iterator.ensures.into_iter_gives in
    let end = YieldsList-end (YieldsList-from_vec {s = c.into_iter-handle-iterator.result} c.args.handles.items gives.0
    (gives.1 ∙ c.args.handles.ok.0)) c.loop-handle.yielded
    c.loop-handle.handle-iterator
    c.loop-handle.yielded_by c.next.result c.next.new.self c.in-None.is c.next.ensures.steps in
    let all = sym (map-id c.loop-handle.yielded) ∙ end.0 in
    λ w d e f below. subst (λ hs. IsPromiseKept (get_or hs w d).promise (hand c.loop-handle.blocks.items e w)
    (hand c.loop-handle.posts.items f w)) all
    (c.loop-handle.invariant.kept w d e f (subst (λ hs. w < length hs) (sym all) below))
