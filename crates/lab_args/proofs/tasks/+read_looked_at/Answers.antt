use Rattle.std.proofs.Common.{◌≡◌, ◌-◌, ◌∙◌, IfOk, IfErr, Ok, Result, subst, sym, ap, inr, take, drop, length}
use Rattle.lab_figures.specs.declared.looks.Look.{Look}
use Rattle.lab_args.specs.Words.{texts}
use Rattle.lab_args.specs.Refusals.{Reports, Refusal}
use Rattle.lab_args.specs.Requests.{task_asked, TaskAsked}
use Rattle.lab_args.specs.Tasks.{looked_at}
use Rattle.lab_args.proofs.LookLemmas.{sign_goes_on, setting_goes_on, image_comes, few_of_looked_at}
use Rattle.lab_args.proofs.tasks.+read_looked_at.Goals as goal

pub returns-then-is_sign-clause-value : goal.returns-then-is_sign-clause-value
returns-then-is_sign-clause-value t c =
    let rest = take (length c.args.words.now - 1) (drop 1 c.args.words.now) in
    let go = sign_goes_on c.args.look c.args.words.now _ c.in-len2-up.len_at_least
    (sym c.is_sign.ensures ∙ c.if-is_sign.true)
    ∙ ap (λ (look : Look). looked_at look (texts rest)) (sym c.with_sign.ensures) in
    subst (λ (r : Result TaskAsked Refusal). IfOk c.read_looked_at.result (λ asked. r ≡ Ok (task_asked asked))) (sym go)
    c.read_looked_at.ensures.value

pub returns-then-is_sign-clause-refused : goal.returns-then-is_sign-clause-refused
returns-then-is_sign-clause-refused t c =
    let rest = take (length c.args.words.now - 1) (drop 1 c.args.words.now) in
    let go = sign_goes_on c.args.look c.args.words.now _ c.in-len2-up.len_at_least
    (sym c.is_sign.ensures ∙ c.if-is_sign.true)
    ∙ ap (λ (look : Look). looked_at look (texts rest)) (sym c.with_sign.ensures) in
    subst (λ (r : Result TaskAsked Refusal). IfErr c.read_looked_at.result (Reports r)) (sym go)
    c.read_looked_at.ensures.refused

pub returns-in_ok-changed-in-len2-up-clause-value : goal.returns-in_ok-changed-in-len2-up-clause-value
returns-in_ok-changed-in-len2-up-clause-value t c =
    let go = setting_goes_on c.args.look c.in_ok-changed-in-len2-up.changed c.args.words.now _ c.in-len2-up.len_at_least
    (sym c.is_sign.ensures ∙ c.if-is_sign.false) (sym c.is_setting.ensures ∙ c.if-is_setting.true)
    c.in_ok-changed-in-len2-up.ensures.value in
    subst (λ (r : Result TaskAsked Refusal). IfOk c.read_looked_at-then-is_setting.result (λ asked. r ≡ Ok (task_asked asked))) (sym go)
    c.read_looked_at-then-is_setting.ensures.value

pub returns-in_ok-changed-in-len2-up-clause-refused : goal.returns-in_ok-changed-in-len2-up-clause-refused
returns-in_ok-changed-in-len2-up-clause-refused t c =
    let go = setting_goes_on c.args.look c.in_ok-changed-in-len2-up.changed c.args.words.now _ c.in-len2-up.len_at_least
    (sym c.is_sign.ensures ∙ c.if-is_sign.false) (sym c.is_setting.ensures ∙ c.if-is_setting.true)
    c.in_ok-changed-in-len2-up.ensures.value in
    subst (λ (r : Result TaskAsked Refusal). IfErr c.read_looked_at-then-is_setting.result (Reports r)) (sym go)
    c.read_looked_at-then-is_setting.ensures.refused

pub returns-else-is_setting-clause-value : goal.returns-else-is_setting-clause-value
returns-else-is_setting-clause-value t c =
    let go = image_comes c.args.look c.args.words.now _ c.in-len2-up.len_at_least
    (sym c.is_sign.ensures ∙ c.if-is_sign.false) (sym c.is_setting.ensures ∙ c.if-is_setting.false) in
    subst (λ (r : Result TaskAsked Refusal). IfOk c.read_picture_in.result (λ asked. r ≡ Ok (task_asked asked))) (sym go)
    c.read_picture_in.ensures.value

pub returns-else-is_setting-clause-refused : goal.returns-else-is_setting-clause-refused
returns-else-is_setting-clause-refused t c =
    let go = image_comes c.args.look c.args.words.now _ c.in-len2-up.len_at_least
    (sym c.is_sign.ensures ∙ c.if-is_sign.false) (sym c.is_setting.ensures ∙ c.if-is_setting.false) in
    subst (λ (r : Result TaskAsked Refusal). IfErr c.read_picture_in.result (Reports r)) (sym go)
    c.read_picture_in.ensures.refused

pub returns-in_default-clause-refused : goal.returns-in_default-clause-refused
returns-in_default-clause-refused t c = inr (few_of_looked_at c.args.look c.args.words.now c.in_default.len_below)
