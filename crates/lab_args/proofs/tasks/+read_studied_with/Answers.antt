use Rattle.std.proofs.Common.{◌≡◌, ◌-◌, ◌∙◌, IfOk, IfErr, Ok, Result, ap, drop, length, subst, sym, take, inr}
use Rattle.lab_study.specs.declared.studies.Table.{Table}
use Rattle.lab_args.specs.Tasks.{studied_with}
use Rattle.lab_args.specs.Words.{texts}
use Rattle.lab_args.specs.Refusals.{Reports, Refusal}
use Rattle.lab_args.specs.Requests.{task_asked, TaskAsked}
use Rattle.lab_args.proofs.StudyLemmas.{table_goes_on, room_goes_on, study_comes, few_of_study}
use Rattle.lab_args.proofs.tasks.+read_studied_with.Goals as goal

pub returns-then-is_table_option-clause-value : goal.returns-then-is_table_option-clause-value
returns-then-is_table_option-clause-value t c =
    let go = table_goes_on c.args.room c.args.table c.args.words.now _ c.in-len2-up.len_at_least
    (sym c.is_table_option.ensures ∙ c.if-is_table_option.true)
    ∙ ap (λ (table : Table). studied_with c.args.room table
    (texts (take (length c.args.words.now - 1) (drop 1 c.args.words.now)))) (sym c.table_named.ensures) in
    subst (λ (r : Result TaskAsked Refusal). IfOk c.read_studied_with.result (λ asked. r ≡ Ok (task_asked asked))) (sym go)
    c.read_studied_with.ensures.value

pub returns-then-is_table_option-clause-refused : goal.returns-then-is_table_option-clause-refused
returns-then-is_table_option-clause-refused t c =
    let go = table_goes_on c.args.room c.args.table c.args.words.now _ c.in-len2-up.len_at_least
    (sym c.is_table_option.ensures ∙ c.if-is_table_option.true)
    ∙ ap (λ (table : Table). studied_with c.args.room table
    (texts (take (length c.args.words.now - 1) (drop 1 c.args.words.now)))) (sym c.table_named.ensures) in
    subst (λ (r : Result TaskAsked Refusal). IfErr c.read_studied_with.result (Reports r)) (sym go)
    c.read_studied_with.ensures.refused

pub returns-in_ok-given-in-len2-up-clause-value : goal.returns-in_ok-given-in-len2-up-clause-value
returns-in_ok-given-in-len2-up-clause-value t c =
    let go = room_goes_on c.args.room c.in_ok-given-in-len2-up.given c.args.table c.args.words.now _
    c.in-len2-up.len_at_least (sym c.is_table_option.ensures ∙ c.if-is_table_option.false) (sym c.eq.ensures ∙ c.if-eq.true)
    c.in_ok-given-in-len2-up.ensures.value in
    subst (λ (r : Result TaskAsked Refusal). IfOk c.read_studied_with-then-eq.result (λ asked. r ≡ Ok (task_asked asked)))
    (sym go) c.read_studied_with-then-eq.ensures.value

pub returns-in_ok-given-in-len2-up-clause-refused : goal.returns-in_ok-given-in-len2-up-clause-refused
returns-in_ok-given-in-len2-up-clause-refused t c =
    let go = room_goes_on c.args.room c.in_ok-given-in-len2-up.given c.args.table c.args.words.now _
    c.in-len2-up.len_at_least (sym c.is_table_option.ensures ∙ c.if-is_table_option.false) (sym c.eq.ensures ∙ c.if-eq.true)
    c.in_ok-given-in-len2-up.ensures.value in
    subst (λ (r : Result TaskAsked Refusal). IfErr c.read_studied_with-then-eq.result (Reports r)) (sym go)
    c.read_studied_with-then-eq.ensures.refused

pub returns-else-eq-clause-value : goal.returns-else-eq-clause-value
returns-else-eq-clause-value t c =
    let go = study_comes c.args.room c.args.table c.args.words.now _ c.in-len2-up.len_at_least
    (sym c.is_table_option.ensures ∙ c.if-is_table_option.false) (sym c.eq.ensures ∙ c.if-eq.false) in
    subst (λ (r : Result TaskAsked Refusal). IfOk c.read_studying_in.result (λ asked. r ≡ Ok (task_asked asked))) (sym go)
    c.read_studying_in.ensures.value

pub returns-else-eq-clause-refused : goal.returns-else-eq-clause-refused
returns-else-eq-clause-refused t c =
    let go = study_comes c.args.room c.args.table c.args.words.now _ c.in-len2-up.len_at_least
    (sym c.is_table_option.ensures ∙ c.if-is_table_option.false) (sym c.eq.ensures ∙ c.if-eq.false) in
    subst (λ (r : Result TaskAsked Refusal). IfErr c.read_studying_in.result (Reports r)) (sym go)
    c.read_studying_in.ensures.refused

pub returns-in_default-clause-refused : goal.returns-in_default-clause-refused
returns-in_default-clause-refused t c =
    inr (few_of_study c.args.room c.args.table c.args.words.now c.in_default.len_below)
