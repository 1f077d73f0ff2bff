use Rattle.std.proofs.Common.{length, sym, subst, ap, ◌∙◌, List, get_or, arith}
use Rattle.cm_workers.specs.declared.post.Post.{Post}
use Rattle.cm_gates.specs.Handing.{AreHandedOver}
use Rattle.cm_workers.proofs.PlaceByPlace.{written_back}
use Rattle.cm_workers.proofs.Standing.{can_over, round_over, turn_over}
use Rattle.cm_workers.proofs.running.to_round.Goals as goal

pub shift-requires-clause-ready : goal.shift-requires-clause-ready
shift-requires-clause-ready g c =
    can_over c.args.sizes.dims c.args.sizes.k c.args.number c.args.run.acts.now c.args.run.rounds.now
    c.args.all.blocks.items c.args.all.posts.items
    c.requires.within c.requires.rounds (let l = c.requires.number in omega (arith, l)) c.requires.begun

pub hand_over-requires-clause-kind : goal.hand_over-requires-clause-kind
hand_over-requires-clause-kind g c =
    round_over c.args.sizes.dims c.args.sizes.k c.requires.begun.room c.args.number c.requires.begun.machine
    c.args.run.acts.now c.args.run.rounds.now
    c.index-run-number.result c.requires.within c.requires.rounds c.requires.number

pub returns : goal.returns
returns g c = record {
  value = λ room machine stands.
      let back = written_back c.in_ok-now.now.posts.len c.hand_over.new.things c.in_ok-now.now.posts.items
      (c.hand_over.ensures.value.len ∙ ap length c.deref_mut.ensures.value ∙ sym c.in_ok-now.now.posts.ok.0) in
      turn_over c.args.sizes.dims c.args.sizes.k room c.args.number machine c.args.run.acts.now c.args.run.rounds.now
      c.index-run-number.result
      c.args.all.blocks.items c.in_ok-now.now.blocks.items c.args.all.posts.items c.in_ok-now.now.posts.items _
      c.requires.within c.requires.rounds c.requires.number stands c.in_ok-now.ensures.value
      (subst (λ (ps : List Post). AreHandedOver c.args.sizes.dims c.args.sizes.k (get_or c.args.run.rounds.now c.args.number
      c.index-run-number.result).kind c.in_ok-now.now.posts.items ps) (sym back)
      (subst (λ (ps : List Post). AreHandedOver c.args.sizes.dims c.args.sizes.k
      (get_or c.args.run.rounds.now c.args.number c.index-run-number.result).kind ps c.hand_over.new.things)
      c.deref_mut.ensures.value c.hand_over.ensures.value));
}
