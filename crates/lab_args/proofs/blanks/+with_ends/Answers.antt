use Rattle.std.proofs.Common.{◌≡◌, ◌∙◌, IfOk, IfErr, Ok, Result, subst, sym}
use Rattle.lab_args.specs.Refusals.{Reports, Refusal}
use Rattle.lab_args.specs.Requests.{blank_asked, BlankAsked}
use Rattle.lab_args.proofs.EndLemmas.{cut_goes_on, chosen_goes_on}
use Rattle.lab_args.proofs.blanks.+with_ends.Goals as goal

pub returns-then-eq-clause-value : goal.returns-then-eq-clause-value
returns-then-eq-clause-value t c =
    let go = cut_goes_on (blank_asked c.args.machine) (blank_asked c.in_ok-cut-in-len2-up.cut) c.args.words.now _
    c.in-Some.dim.now c.in-Some.after.now c.in-len2-up.len_at_least c.in-Some.ensures.cases.0
    (sym c.eq.ensures ∙ c.if-eq.true) c.in_ok-cut-in-len2-up.ensures.value in
    subst (λ (r : Result BlankAsked Refusal). IfOk c.with_ends.result (λ found. r ≡ Ok (blank_asked found))) (sym go)
    c.with_ends.ensures.value

pub returns-then-eq-clause-refused : goal.returns-then-eq-clause-refused
returns-then-eq-clause-refused t c =
    let go = cut_goes_on (blank_asked c.args.machine) (blank_asked c.in_ok-cut-in-len2-up.cut) c.args.words.now _
    c.in-Some.dim.now c.in-Some.after.now c.in-len2-up.len_at_least c.in-Some.ensures.cases.0
    (sym c.eq.ensures ∙ c.if-eq.true) c.in_ok-cut-in-len2-up.ensures.value in
    subst (λ (r : Result BlankAsked Refusal). IfErr c.with_ends.result (Reports r)) (sym go) c.with_ends.ensures.refused

pub returns-clause-value : goal.returns-clause-value
returns-clause-value t c =
    let go = chosen_goes_on (blank_asked c.args.machine) (blank_asked c.in_ok-changed-in-len2-up.changed)
    c.args.words.now _ c.in-len2-up.len_at_least (sym c.eq.ensures ∙ c.if-eq.false)
    c.in_ok-changed-in-len2-up.ensures.value in
    subst (λ (r : Result BlankAsked Refusal). IfOk c.with_ends-else-eq.result (λ found. r ≡ Ok (blank_asked found)))
    (sym go) c.with_ends-else-eq.ensures.value

pub returns-clause-refused : goal.returns-clause-refused
returns-clause-refused t c =
    let go = chosen_goes_on (blank_asked c.args.machine) (blank_asked c.in_ok-changed-in-len2-up.changed)
    c.args.words.now _ c.in-len2-up.len_at_least (sym c.eq.ensures ∙ c.if-eq.false)
    c.in_ok-changed-in-len2-up.ensures.value in
    subst (λ (r : Result BlankAsked Refusal). IfErr c.with_ends-else-eq.result (Reports r)) (sym go)
    c.with_ends-else-eq.ensures.refused
