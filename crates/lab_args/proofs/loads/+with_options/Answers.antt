use Rattle.std.proofs.Common.{◌≡◌, ◌∙◌, IfOk, IfErr, Ok, Result, length, subst, sym, inr, rules}
use Rattle.lab_args.specs.Refusals.{Reports, Refusal}
use Rattle.lab_args.specs.Requests.{loads_asked, LoadsAsked}
use Rattle.lab_args.proofs.OptionLemmas.{choice_goes_on, lone_word, wire_goes_on}
use Rattle.lab_args.proofs.loads.+with_options.Goals as goal

pub returns-then-eq-clause-value : goal.returns-then-eq-clause-value
returns-then-eq-clause-value t c =
    let go = wire_goes_on (loads_asked c.args.loads) (loads_asked c.in_ok-cut-in-len2-up.cut) c.args.options.now _
    c.in-Some.dim.now c.in-Some.after.now c.in-len2-up.len_at_least c.in-Some.ensures.cases.0
    (sym c.eq.ensures ∙ c.if-eq.true) c.in_ok-cut-in-len2-up.ensures.value in
    subst (λ (r : Result LoadsAsked Refusal). IfOk c.with_options.result (λ found. r ≡ Ok (loads_asked found))) (sym go)
    c.with_options.ensures.value

pub returns-then-eq-clause-refused : goal.returns-then-eq-clause-refused
returns-then-eq-clause-refused t c =
    let go = wire_goes_on (loads_asked c.args.loads) (loads_asked c.in_ok-cut-in-len2-up.cut) c.args.options.now _
    c.in-Some.dim.now c.in-Some.after.now c.in-len2-up.len_at_least c.in-Some.ensures.cases.0
    (sym c.eq.ensures ∙ c.if-eq.true) c.in_ok-cut-in-len2-up.ensures.value in
    subst (λ (r : Result LoadsAsked Refusal). IfErr c.with_options.result (Reports r)) (sym go) c.with_options.ensures.refused

pub returns-clause-value : goal.returns-clause-value
returns-clause-value t c =
    let go = choice_goes_on (loads_asked c.args.loads) (loads_asked c.in_ok-changed-in-len2-up.changed)
    c.args.options.now _ c.in-len2-up.len_at_least (sym c.eq.ensures ∙ c.if-eq.false)
    c.in_ok-changed-in-len2-up.ensures.value in
    subst (λ (r : Result LoadsAsked Refusal). IfOk c.with_options-else-eq.result (λ found. r ≡ Ok (loads_asked found)))
    (sym go) c.with_options-else-eq.ensures.value

pub returns-clause-refused : goal.returns-clause-refused
returns-clause-refused t c =
    let go = choice_goes_on (loads_asked c.args.loads) (loads_asked c.in_ok-changed-in-len2-up.changed)
    c.args.options.now _ c.in-len2-up.len_at_least (sym c.eq.ensures ∙ c.if-eq.false)
    c.in_ok-changed-in-len2-up.ensures.value in
    subst (λ (r : Result LoadsAsked Refusal). IfErr c.with_options-else-eq.result (Reports r)) (sym go)
    c.with_options-else-eq.ensures.refused

pub returns-in-len1-clause-refused : goal.returns-in-len1-clause-refused
returns-in-len1-clause-refused t c =
    let one : length c.args.options.now ≡ 1 = search rules in
    inr (lone_word (loads_asked c.args.loads) c.args.options.now one)
