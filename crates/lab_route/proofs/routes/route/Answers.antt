use Rattle.std.proofs.Common.{◌<◌, ◌≤◌, ◌+◌, ◌-◌, ◌^◌, ℕ, suc, Bool, List, Ok, Err, drop, length, refl, subst}
use Rattle.std.proofs.Common.{sym, ap, ◌∙◌, arith}
use Rattle.std.proofs.Common.{lt-ltb, le-ltb, if◌then◌else◌}
use Rattle.std.proofs.lemmas.List.{drop_all}
use Rattle.lab_route.specs.declared.routes.RouteFault.TheVariants.{Chip}
use Rattle.lab_study.specs.Study.{act_lacks_room}
use Rattle.lab_route.specs.Routes.{route_preceded_by, route_from, route_of}
use Rattle.cm_model.specs.declared.act.Act.{Act}
use Rattle.lab_study.specs.Watching.{WasTold}
use Rattle.lab_study.proofs.Going.{next_act}
use Rattle.lab_study.proofs.Watched.{one_more_told}
use Rattle.lab_route.specs.Followed.{acts_followed}
use Rattle.lab_route.proofs.Followed.{one_act_followed, past_act_followed, none_followed, one_further, told_of_all}
use Rattle.lab_route.proofs.Following.{if_ok, if_err, ok_anyway}
use Rattle.lab_route.proofs.Routing.{route_preceded_by-nothing, one_act_told, no_act_told, past_act_told, end_told}
use Rattle.lab_route.proofs.routes.route.Goals as goal

pub returns-then-tag-chips-clause-refused : goal.returns-then-tag-chips-clause-refused
unfolding route_of
returns-then-tag-chips-clause-refused g c = λ other.
    let lab = c.args.machine.now in
    let tag = c.args.tag in
    let past : 2 ^ lab.n ≤ tag.chip = omega (arith, c.if-tag-chips.true, c.chips-chips.ensures.value) in
    ap (λ (b : Bool). if b then route_from lab.n lab.cap c.args.excerpt tag lab.machine c.args.acts.now
    else Err (Chip (2 ^ lab.n - 1))) (le-ltb tag.chip (2 ^ lab.n) past)
    ∙ ap (λ (k : ℕ). Err (Chip (k - 1))) (sym c.chips-chips.ensures.value)

pub loop-done-init : goal.loop-done-init
unfolding route_of
loop-done-init g c =
    let lab = c.args.machine.now in
    let tag = c.args.tag in
    let route = route_from lab.n lab.cap c.args.excerpt tag lab.machine c.args.acts.now in
    let there : tag.chip < 2 ^ lab.n = omega (arith, c.if-tag-chips.false, c.chips-chips.ensures.value) in
    record {
      route = ap (λ (b : Bool). if b then route else Err (Chip (2 ^ lab.n - 1))) (lt-ltb tag.chip (2 ^ lab.n) there)
          ∙ sym (route_preceded_by-nothing route) ∙ ap (λ text. route_preceded_by text route) (sym c.new-text.ensures.items);
      followed = omega arith;
      watched = refl;
    }

pub returns-then-clock-excerpt-clause-value : goal.returns-then-clock-excerpt-clause-value
returns-then-clock-excerpt-clause-value g c =
    let acts = c.args.acts.now in
    let done = c.loop-done.done in
    let act = c.index-acts-done.result in
    let rest = drop (done + 1) acts in
    let lab = c.loop-done.machine in
    let text = c.loop-done.text.items in
    let told = c.loop-done.invariant.route
    ∙ ap (λ left. route_preceded_by text (route_from lab.n lab.cap c.args.excerpt c.args.tag lab.machine left))
    (next_act acts done act c.loop-done-test.true c.index-acts-done.is) in
    let past = lt-ltb c.args.excerpt.to lab.machine.clock (omega (
      arith,
      c.if-clock-excerpt.true,
      c.clock.ensures.value,
    )) in
    let is = told ∙ past_act_told lab c.args.excerpt c.args.tag act rest text past in
    if_ok c.ended.result (λ now so. is ∙ so) c.ended.ensures.ok

pub returns-then-clock-excerpt-clause-refused : goal.returns-then-clock-excerpt-clause-refused
returns-then-clock-excerpt-clause-refused g c =
    let acts = c.args.acts.now in
    let done = c.loop-done.done in
    let act = c.index-acts-done.result in
    let rest = drop (done + 1) acts in
    let lab = c.loop-done.machine in
    let text = c.loop-done.text.items in
    let told = c.loop-done.invariant.route
    ∙ ap (λ left. route_preceded_by text (route_from lab.n lab.cap c.args.excerpt c.args.tag lab.machine left))
    (next_act acts done act c.loop-done-test.true c.index-acts-done.is) in
    let past = lt-ltb c.args.excerpt.to lab.machine.clock (omega (
      arith,
      c.if-clock-excerpt.true,
      c.clock.ensures.value,
    )) in
    let is = told ∙ past_act_told lab c.args.excerpt c.args.tag act rest text past in
    if_err c.ended.result (λ fault so other. is ∙ so other) c.ended.ensures.refused

pub returns-then-lacks_room-clause-refused : goal.returns-then-lacks_room-clause-refused
returns-then-lacks_room-clause-refused g c =
    let acts = c.args.acts.now in
    let done = c.loop-done.done in
    let act = c.index-acts-done.result in
    let rest = drop (done + 1) acts in
    let lab = c.loop-done.machine in
    let text = c.loop-done.text.items in
    let told = c.loop-done.invariant.route
    ∙ ap (λ left. route_preceded_by text (route_from lab.n lab.cap c.args.excerpt c.args.tag lab.machine left))
    (next_act acts done act c.loop-done-test.true c.index-acts-done.is) in
    let early = le-ltb c.args.excerpt.to lab.machine.clock (omega (
      arith,
      c.if-clock-excerpt.false,
      c.clock.ensures.value,
    )) in
    let full = ap (λ clock. act_lacks_room clock act) (sym c.clock-in-loop-done.ensures.value)
    ∙ sym c.lacks_room.ensures.value ∙ c.if-lacks_room.true in
    λ other. told ∙ no_act_told lab c.args.excerpt c.args.tag act rest text early full

pub returns-then-over-clause-value : goal.returns-then-over-clause-value
returns-then-over-clause-value g c =
    let acts = c.args.acts.now in
    let done = c.loop-done.done in
    let act = c.index-acts-done.result in
    let rest = drop (done + 1) acts in
    let lab = c.loop-done.machine in
    let text = c.loop-done.text.items in
    let told = c.loop-done.invariant.route
    ∙ ap (λ left. route_preceded_by text (route_from lab.n lab.cap c.args.excerpt c.args.tag lab.machine left))
    (next_act acts done act c.loop-done-test.true c.index-acts-done.is) in
    let early = le-ltb c.args.excerpt.to lab.machine.clock (omega (
      arith,
      c.if-clock-excerpt.false,
      c.clock.ensures.value,
    )) in
    let full = ap (λ clock. act_lacks_room clock act) (sym c.clock-in-loop-done.ensures.value)
    ∙ sym c.lacks_room.ensures.value ∙ c.if-lacks_room.false in
    let was = told
    ∙ one_act_told lab c.follow.new.machine c.args.excerpt c.args.tag act rest text early full
    c.in_ok-over.ensures.machine in
    let after = c.follow.new.machine in
    let left = route_from after.n after.cap c.args.excerpt c.args.tag after.machine rest in
    let now = c.follow.new.text.items in
    was ∙ c.in_ok-over.ensures.text left
    ∙ ap (λ (b : Bool). if b then Ok now else route_preceded_by now left) c.if-over.true

pub loop-done-preserved : goal.loop-done-preserved
loop-done-preserved g c =
    let acts = c.args.acts.now in
    let done = c.loop-done.done in
    let act = c.index-acts-done.result in
    let rest = drop (done + 1) acts in
    let lab = c.loop-done.machine in
    let text = c.loop-done.text.items in
    let told = c.loop-done.invariant.route
    ∙ ap (λ left. route_preceded_by text (route_from lab.n lab.cap c.args.excerpt c.args.tag lab.machine left))
    (next_act acts done act c.loop-done-test.true c.index-acts-done.is) in
    let early = le-ltb c.args.excerpt.to lab.machine.clock (omega (
      arith,
      c.if-clock-excerpt.false,
      c.clock.ensures.value,
    )) in
    let full = ap (λ clock. act_lacks_room clock act) (sym c.clock-in-loop-done.ensures.value)
    ∙ sym c.lacks_room.ensures.value ∙ c.if-lacks_room.false in
    let was = told
    ∙ one_act_told lab c.follow.new.machine c.args.excerpt c.args.tag act rest text early full
    c.in_ok-over.ensures.machine in
    let after = c.follow.new.machine in
    let left = route_from after.n after.cap c.args.excerpt c.args.tag after.machine rest in
    let now = c.follow.new.text.items in
    let all = length acts in
    let next = next_act acts done act c.loop-done-test.true c.index-acts-done.is in
    let counted = one_act_followed lab after c.args.excerpt c.args.tag act rest _ early c.in_ok-over.ensures.machine
    c.in_ok-over.ensures.over in
    let more = acts_followed after.n after.cap c.args.excerpt c.args.tag after.machine rest in
    let step = ap (λ (left : List Act). acts_followed lab.n lab.cap c.args.excerpt c.args.tag lab.machine left) next
    ∙ counted ∙ ap (λ (b : Bool). if b then 1 else suc more) c.if-over.false in
    record {
      route = was ∙ c.in_ok-over.ensures.text left
          ∙ ap (λ (b : Bool). if b then Ok now else route_preceded_by now left) c.if-over.false;
      followed = c.loop-done.invariant.followed ∙ ap (λ (k : ℕ). done + k) step ∙ one_further done more;
      watched = one_more_told g.W.Watch.sees all c.args.watch.now done c.loop-done.watch _ _ _ (omega arith) refl
          c.loop-done.invariant.watched c.see.ensures.sees;
    }

pub returns-clause-value : goal.returns-clause-value
returns-clause-value g c =
    let lab = c.loop-done.machine in
    let left = drop c.loop-done.done c.args.acts.now in
    let none = drop_all c.loop-done.done c.args.acts.now c.loop-done-test.false in
    let is = c.loop-done.invariant.route ∙ end_told lab c.args.excerpt c.args.tag left c.loop-done.text.items none in
    if_ok c.ended-2.result (λ now so. is ∙ so) c.ended-2.ensures.ok

pub returns-clause-refused : goal.returns-clause-refused
returns-clause-refused g c =
    let lab = c.loop-done.machine in
    let left = drop c.loop-done.done c.args.acts.now in
    let none = drop_all c.loop-done.done c.args.acts.now c.loop-done-test.false in
    let is = c.loop-done.invariant.route ∙ end_told lab c.args.excerpt c.args.tag left c.loop-done.text.items none in
    if_err c.ended-2.result (λ fault so other. is ∙ so other) c.ended-2.ensures.refused

pub returns-then-clock-excerpt-clause-told : goal.returns-then-clock-excerpt-clause-told
returns-then-clock-excerpt-clause-told g c =
    let acts = c.args.acts.now in
    let done = c.loop-done.done in
    let act = c.index-acts-done.result in
    let rest = drop (done + 1) acts in
    let lab = c.loop-done.machine in
    let past = lt-ltb c.args.excerpt.to lab.machine.clock (omega (
      arith,
      c.if-clock-excerpt.true,
      c.clock.ensures.value,
    )) in
    let none = ap (λ (left : List Act). acts_followed lab.n lab.cap c.args.excerpt c.args.tag lab.machine left)
    (next_act acts done act c.loop-done-test.true c.index-acts-done.is)
    ∙ past_act_followed lab c.args.excerpt c.args.tag act rest past in
    ok_anyway c.ended.result (told_of_all g.W.Watch.sees (length acts) _ done _ _ _ c.loop-done.invariant.followed none
    c.loop-done.invariant.watched)

pub returns-then-over-clause-told : goal.returns-then-over-clause-told
returns-then-over-clause-told g c =
    let acts = c.args.acts.now in
    let done = c.loop-done.done in
    let act = c.index-acts-done.result in
    let rest = drop (done + 1) acts in
    let lab = c.loop-done.machine in
    let after = c.follow.new.machine in
    let early = le-ltb c.args.excerpt.to lab.machine.clock (omega (
      arith,
      c.if-clock-excerpt.false,
      c.clock.ensures.value,
    )) in
    let counted = one_act_followed lab after c.args.excerpt c.args.tag act rest _ early c.in_ok-over.ensures.machine
    c.in_ok-over.ensures.over in
    let more = acts_followed after.n after.cap c.args.excerpt c.args.tag after.machine rest in
    let one = ap (λ (left : List Act). acts_followed lab.n lab.cap c.args.excerpt c.args.tag lab.machine left)
    (next_act acts done act c.loop-done-test.true c.index-acts-done.is)
    ∙ counted ∙ ap (λ (b : Bool). if b then 1 else suc more) c.if-over.true in
    let all = c.loop-done.invariant.followed ∙ ap (λ (k : ℕ). done + k) one in
    subst (λ (k : ℕ). WasTold g.W.Watch.sees (length acts) c.args.watch.now k c.see.new.self) (sym all)
    (one_more_told g.W.Watch.sees (length acts) c.args.watch.now done c.loop-done.watch _ _ _ (omega arith) refl
    c.loop-done.invariant.watched c.see.ensures.sees)

pub returns-clause-told : goal.returns-clause-told
returns-clause-told g c =
    let acts = c.args.acts.now in
    let done = c.loop-done.done in
    let lab = c.loop-done.machine in
    let none = none_followed lab c.args.excerpt c.args.tag (drop done acts) (drop_all done acts c.loop-done-test.false) in
    ok_anyway c.ended-2.result (told_of_all g.W.Watch.sees (length acts) _ done _ _ _ c.loop-done.invariant.followed none
    c.loop-done.invariant.watched)
