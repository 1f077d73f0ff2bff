use Rattle.std.proofs.Common.{◌≡◌, ℕ, ◌+◌, drop, length, refl, subst, sym, ap, ◌∙◌, arith}
use Rattle.std.proofs.lemmas.List.{drop_all}
use Rattle.lab_study.specs.Repeats.{repeats_from, repeats_table}
use Rattle.lab_study.specs.Study.{study_preceded_by, act_lacks_room}
use Rattle.lab_study.specs.Watching.{WasTold}
use Rattle.lab_study.proofs.Watched.{one_more_told}
use Rattle.lab_study.proofs.Going.{next_act}
use Rattle.lab_study.proofs.Repeated.{one_act_followed, no_act_followed, none_followed}
use Rattle.lab_study.proofs.repeating.repeats.Goals as goal

pub loop-done-init : goal.loop-done-init
unfolding repeats_table
loop-done-init g c = record {
  table = λ j. study_preceded_by (sym c.in_ok-text.ensures.value j)
      (repeats_from c.args.machine.now.n c.args.machine.now.cap (sym c.none-calm.ensures.value j)
      c.args.machine.now.machine c.args.acts.now);
  within = omega arith;
  watched = refl;
}

pub returns-then-lacks_room-clause-refused : goal.returns-then-lacks_room-clause-refused
returns-then-lacks_room-clause-refused g c = λ other.
    let acts = c.args.acts.now in
    let i = c.loop-done.done in
    let act = c.index-acts-done.result in
    let lab = c.loop-done.machine in
    c.loop-done.invariant.table
    ∙ ap (λ left. study_preceded_by c.loop-done.text.items
    (repeats_from lab.n lab.cap c.loop-done.calm lab.machine left))
    (next_act acts i act c.loop-done-test.true c.index-acts-done.is)
    ∙ no_act_followed lab.n lab.cap c.loop-done.calm lab.machine act (drop (i + 1) acts) c.loop-done.text.items
    (ap (λ clock. act_lacks_room clock act) (sym c.clock.ensures.value) ∙ sym c.lacks_room.ensures.value
    ∙ c.if-lacks_room.true)

pub loop-done-preserved : goal.loop-done-preserved
loop-done-preserved g c =
    let acts = c.args.acts.now in
    let i = c.loop-done.done in
    let act = c.index-acts-done.result in
    let lab = c.loop-done.machine in
    record {
      table = c.loop-done.invariant.table
          ∙ ap (λ left. study_preceded_by c.loop-done.text.items
          (repeats_from lab.n lab.cap c.loop-done.calm lab.machine left))
          (next_act acts i act c.loop-done-test.true c.index-acts-done.is)
          ∙ one_act_followed lab c.follow.new.machine c.loop-done.calm act (drop (i + 1) acts) c.loop-done.text.items
          (ap (λ clock. act_lacks_room clock act) (sym c.clock.ensures.value) ∙ sym c.lacks_room.ensures.value
          ∙ c.if-lacks_room.false)
          c.in_ok-follow.ensures.machine
          ∙ (λ j. study_preceded_by (sym c.in_ok-follow.ensures.text j)
          (repeats_from c.follow.new.machine.n c.follow.new.machine.cap (sym c.in_ok-follow.ensures.calm j)
          c.follow.new.machine.machine (drop (i + 1) acts)));
      within = omega (arith, c.loop-done-test.true);
      watched = one_more_told g.W.Watch.sees (length acts) c.args.watch.now i c.loop-done.watch _ _ _ (omega arith)
          refl c.loop-done.invariant.watched c.see.ensures.sees;
    }

pub returns-clause-value : goal.returns-clause-value
returns-clause-value g c =
    let acts = c.args.acts.now in
    let i = c.loop-done.done in
    let lab = c.loop-done.machine in
    c.loop-done.invariant.table
    ∙ none_followed lab.n lab.cap c.loop-done.calm lab.machine (drop i acts) c.loop-done.text.items
    (drop_all i acts c.loop-done-test.false)

pub returns-clause-told : goal.returns-clause-told
returns-clause-told g c =
    let all = length c.args.acts.now in
    let done : c.loop-done.done ≡ all = omega (arith, c.loop-done.invariant.within, c.loop-done-test.false) in
    subst (λ (k : ℕ). WasTold g.W.Watch.sees all c.args.watch.now k c.loop-done.watch) done c.loop-done.invariant.watched
