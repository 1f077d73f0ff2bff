use Rattle.std.proofs.Common.{◌≡◌, ◌-◌, ◌∙◌, IfOk, IfErr, Ok, Result, subst, sym, ap, inr, take, drop, length}
use Rattle.lab_args.specs.declared.tasks.RouteAsked.{RouteAsked}
use Rattle.lab_args.specs.Words.{texts}
use Rattle.lab_args.specs.Refusals.{Reports, Refusal}
use Rattle.lab_args.specs.Requests.{task_asked, TaskAsked}
use Rattle.lab_args.specs.Tasks.{routed_with}
use Rattle.lab_args.proofs.StudyLemmas.{waits_go_on, route_setting_goes_on, route_comes, few_of_route}
use Rattle.lab_args.proofs.tasks.+read_routed_with.Goals as goal

pub returns-then-eq-clause-value : goal.returns-then-eq-clause-value
returns-then-eq-clause-value t c =
    let rest = take (length c.args.words.now - 1) (drop 1 c.args.words.now) in
    let go = waits_go_on c.args.asked c.args.words.now _ c.in-len2-up.len_at_least (sym c.eq.ensures ∙ c.if-eq.true)
    ∙ ap (λ (asked : RouteAsked). routed_with asked (texts rest)) (sym c.with_waits.ensures) in
    subst (λ (r : Result TaskAsked Refusal). IfOk c.read_routed_with.result (λ task. r ≡ Ok (task_asked task))) (sym go)
    c.read_routed_with.ensures.value

pub returns-then-eq-clause-refused : goal.returns-then-eq-clause-refused
returns-then-eq-clause-refused t c =
    let rest = take (length c.args.words.now - 1) (drop 1 c.args.words.now) in
    let go = waits_go_on c.args.asked c.args.words.now _ c.in-len2-up.len_at_least (sym c.eq.ensures ∙ c.if-eq.true)
    ∙ ap (λ (asked : RouteAsked). routed_with asked (texts rest)) (sym c.with_waits.ensures) in
    subst (λ (r : Result TaskAsked Refusal). IfErr c.read_routed_with.result (Reports r)) (sym go)
    c.read_routed_with.ensures.refused

pub returns-in_ok-changed-in-len2-up-clause-value : goal.returns-in_ok-changed-in-len2-up-clause-value
returns-in_ok-changed-in-len2-up-clause-value t c =
    let go = route_setting_goes_on c.args.asked c.in_ok-changed-in-len2-up.changed c.args.words.now _
    c.in-len2-up.len_at_least (sym c.eq.ensures ∙ c.if-eq.false)
    (sym c.is_route_setting.ensures ∙ c.if-is_route_setting.true) c.in_ok-changed-in-len2-up.ensures.value in
    subst (λ (r : Result TaskAsked Refusal). IfOk c.read_routed_with-then-is_route_setting.result
    (λ task. r ≡ Ok (task_asked task))) (sym go) c.read_routed_with-then-is_route_setting.ensures.value

pub returns-in_ok-changed-in-len2-up-clause-refused : goal.returns-in_ok-changed-in-len2-up-clause-refused
returns-in_ok-changed-in-len2-up-clause-refused t c =
    let go = route_setting_goes_on c.args.asked c.in_ok-changed-in-len2-up.changed c.args.words.now _
    c.in-len2-up.len_at_least (sym c.eq.ensures ∙ c.if-eq.false)
    (sym c.is_route_setting.ensures ∙ c.if-is_route_setting.true) c.in_ok-changed-in-len2-up.ensures.value in
    subst (λ (r : Result TaskAsked Refusal). IfErr c.read_routed_with-then-is_route_setting.result (Reports r)) (sym go)
    c.read_routed_with-then-is_route_setting.ensures.refused

pub returns-else-is_route_setting-clause-value : goal.returns-else-is_route_setting-clause-value
returns-else-is_route_setting-clause-value t c =
    let go = route_comes c.args.asked c.args.words.now _ c.in-len2-up.len_at_least (sym c.eq.ensures ∙ c.if-eq.false)
    (sym c.is_route_setting.ensures ∙ c.if-is_route_setting.false) in
    subst (λ (r : Result TaskAsked Refusal). IfOk c.read_routed.result (λ task. r ≡ Ok (task_asked task))) (sym go)
    c.read_routed.ensures.value

pub returns-else-is_route_setting-clause-refused : goal.returns-else-is_route_setting-clause-refused
returns-else-is_route_setting-clause-refused t c =
    let go = route_comes c.args.asked c.args.words.now _ c.in-len2-up.len_at_least (sym c.eq.ensures ∙ c.if-eq.false)
    (sym c.is_route_setting.ensures ∙ c.if-is_route_setting.false) in
    subst (λ (r : Result TaskAsked Refusal). IfErr c.read_routed.result (Reports r)) (sym go) c.read_routed.ensures.refused

pub returns-in_default-clause-refused : goal.returns-in_default-clause-refused
returns-in_default-clause-refused t c = inr (few_of_route c.args.asked c.args.words.now c.in_default.len_below)
