use Rattle.std.proofs.Common.{◌≡◌, ℕ, length, subst, arith}
use Rattle.std.specs.Prelude.{slice_get}
use Rattle.cm_workers.specs.declared.turn.Crew.{Crew}
use Rattle.cm_workers.specs.Each.{AreEach}
use Rattle.cm_workers.specs.Turns.{round_before, HasGone}
use Rattle.cm_gates.specs.Blocks.{AreAfter}
use Rattle.cm_workers.specs.Runs.{StandAt}
use Rattle.cm_workers.proofs.Shifting.{if_came}
use Rattle.cm_workers.proofs.Standing.{can_over, last_over}
use Rattle.cm_workers.proofs.running.run_blocks.Goals as goal

pub shift-requires-clause-ready : goal.shift-requires-clause-ready
shift-requires-clause-ready g c =
    let n = c.args.sizes.dims in let k = c.args.sizes.k in let acts = c.args.run.acts.now in
    let begun = c.requires.begun in
    let last : c.loop-number.number ≡ length c.args.run.rounds.now =
    omega (arith, c.loop-number-test.false, c.loop-number.auto.number-end) in
    can_over n k (length c.args.run.rounds.now) acts c.args.run.rounds.now c.loop-number.all.blocks.items
    c.loop-number.all.posts.items
    c.requires.within c.requires.rounds (omega arith)
    (record {
      room = begun.room;
      machine = begun.machine;
      at = subst (λ (t : ℕ). StandAt n k begun.room begun.machine acts t c.loop-number.all.blocks.items
          c.loop-number.all.posts.items) last
          (c.loop-number.invariant begun.room begun.machine begun.at);
    })

pub shift-requires-clause-begun : goal.shift-requires-clause-begun
shift-requires-clause-begun g c =
    let n = c.args.sizes.dims in let k = c.args.sizes.k in let acts = c.args.run.acts.now in
    let begun = c.requires.begun in
    let last : c.loop-number.number ≡ length c.args.run.rounds.now =
    omega (arith, c.loop-number-test.false, c.loop-number.auto.number-end) in
    record {
      room = begun.room;
      machine = begun.machine;
      at = subst (λ (t : ℕ). StandAt n k begun.room begun.machine acts t c.loop-number.all.blocks.items
          c.loop-number.all.posts.items) last
          (c.loop-number.invariant begun.room begun.machine begun.at);
    }

pub returns : goal.returns
returns g c = record {
  value = λ room machine stands.
      let n = c.args.sizes.dims in let k = c.args.sizes.k in let acts = c.args.run.acts.now in
      let rounds = c.args.run.rounds.now in
      let blocks = c.loop-number.all.blocks.items in let posts = c.loop-number.all.posts.items in
      let last : c.loop-number.number ≡ length rounds =
      omega (arith, c.loop-number-test.false, c.loop-number.auto.number-end) in
      let at = subst (λ (t : ℕ). StandAt n k room machine acts t blocks posts) last
      (c.loop-number.invariant room machine stands) in
      let Gone : Crew → Type 0 = λ now. AreEach (HasGone acts (round_before rounds (length rounds))
      (slice_get rounds (length rounds))) blocks posts now.blocks.items now.posts.items in
      if_came c.shift.result Gone Gone Gone (λ now. AreAfter n k room machine acts now.blocks.items)
      (λ now gone same too. last_over n k room machine acts rounds blocks now.blocks.items posts now.posts.items
      c.requires.within c.requires.rounds at gone)
      c.shift.ensures.value c.shift.ensures.value c.shift.ensures.value;
}
