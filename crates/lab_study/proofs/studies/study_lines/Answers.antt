use Rattle.std.proofs.Common.{◌≡◌, ℕ, ◌+◌, Ok, drop, length, refl, subst, sym, ap, ◌∙◌, arith}
use Rattle.std.proofs.lemmas.List.{drop_all}
use Rattle.lab_study.specs.Study.{studied, study_preceded_by, act_lacks_room, acts_table, lines_table}
use Rattle.lab_study.specs.Watching.{WasTold}
use Rattle.lab_study.proofs.Watched.{one_more_told}
use Rattle.lab_study.proofs.Going.{next_act, one_act_more, no_act_more, no_acts}
use Rattle.lab_study.proofs.studies.study_lines.Goals as goal

pub loop-done-init : goal.loop-done-init
unfolding lines_table
loop-done-init g c = record {
  table = λ j. study_preceded_by (sym c.in_ok-text.ensures.value j)
      (acts_table c.args.machine.now.n c.args.machine.now.cap c.args.table (sym c.in_ok-known.ensures.value j)
      c.args.acts.now);
  within = omega arith;
  watched = refl;
}

pub returns-then-lacks_room-clause-refused : goal.returns-then-lacks_room-clause-refused
returns-then-lacks_room-clause-refused g c = λ other.
    let acts = c.args.acts.now in
    let i = c.loop-done.done in
    let act = c.index-acts-done.result in
    let lab = c.loop-done.machine in
    let before = studied lab.machine c.loop-done.known in
    c.loop-done.invariant.table
    ∙ ap (λ left. study_preceded_by c.loop-done.text.items (acts_table lab.n lab.cap c.args.table before left))
    (next_act acts i act c.loop-done-test.true c.index-acts-done.is)
    ∙ no_act_more lab.n lab.cap c.args.table before act (drop (i + 1) acts) c.loop-done.text.items
    (ap (λ clock. act_lacks_room clock act) (sym c.clock.ensures.value) ∙ sym c.lacks_room.ensures.value
    ∙ c.if-lacks_room.true)

pub loop-done-preserved : goal.loop-done-preserved
loop-done-preserved g c =
    let acts = c.args.acts.now in
    let i = c.loop-done.done in
    let act = c.index-acts-done.result in
    let lab = c.loop-done.machine in
    let before = studied lab.machine c.loop-done.known in
    record {
      table = c.loop-done.invariant.table
          ∙ ap (λ left. study_preceded_by c.loop-done.text.items (acts_table lab.n lab.cap c.args.table before left))
          (next_act acts i act c.loop-done-test.true c.index-acts-done.is)
          ∙ one_act_more lab.n lab.cap c.args.table before act (drop (i + 1) acts) c.loop-done.text.items
          (ap (λ clock. act_lacks_room clock act) (sym c.clock.ensures.value) ∙ sym c.lacks_room.ensures.value
          ∙ c.if-lacks_room.false)
          ∙ (λ j. study_preceded_by (sym c.in_ok-follow.ensures.text j)
          (acts_table (sym c.in_ok-follow.ensures.machine j).n (sym c.in_ok-follow.ensures.machine j).cap c.args.table
          (sym c.in_ok-follow.ensures.studied j) (drop (i + 1) acts)));
      within = omega (arith, c.loop-done-test.true);
      watched = one_more_told g.W.Watch.sees (length acts) c.args.watch.now i c.loop-done.watch _ _ _ (omega arith)
          refl c.loop-done.invariant.watched c.see.ensures.sees;
    }

pub returns-clause-value : goal.returns-clause-value
returns-clause-value g c =
    let acts = c.args.acts.now in
    let i = c.loop-done.done in
    let lab = c.loop-done.machine in
    c.loop-done.invariant.table
    ∙ no_acts lab.n lab.cap c.args.table (studied lab.machine c.loop-done.known) (drop i acts) c.loop-done.text.items
    (drop_all i acts c.loop-done-test.false)
    ∙ ap (λ text. Ok text) (sym c.in_ok-tell_end.ensures.ok)

pub returns-clause-told : goal.returns-clause-told
returns-clause-told g c =
    let all = length c.args.acts.now in
    let done : c.loop-done.done ≡ all = omega (arith, c.loop-done.invariant.within, c.loop-done-test.false) in
    subst (λ (k : ℕ). WasTold g.W.Watch.sees all c.args.watch.now k c.loop-done.watch) done c.loop-done.invariant.watched
