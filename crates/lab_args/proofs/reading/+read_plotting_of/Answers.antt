use Rattle.std.proofs.Common.{◌≡◌, IfOk, IfErr, Ok, Result, subst, sym}
use Rattle.lab_args.specs.Refusals.{Reports, Refusal}
use Rattle.lab_args.specs.Requests.{requested, Request}
use Rattle.lab_args.proofs.StudyLemmas.{bound_goes_on}
use Rattle.lab_args.proofs.reading.+read_plotting_of.Goals as goal

pub returns-in_ok-changed-in-len2-up-clause-value : goal.returns-in_ok-changed-in-len2-up-clause-value
returns-in_ok-changed-in-len2-up-clause-value t c =
    let go = bound_goes_on c.args.cycles c.in_ok-changed-in-len2-up.changed c.args.words.now _ c.in-len2-up.len_at_least
    c.in_ok-changed-in-len2-up.ensures.value in
    subst (λ (r : Result Request Refusal). IfOk c.read_plotting_of.result (λ command. r ≡ Ok (requested command))) (sym go)
    c.read_plotting_of.ensures.value

pub returns-in_ok-changed-in-len2-up-clause-refused : goal.returns-in_ok-changed-in-len2-up-clause-refused
returns-in_ok-changed-in-len2-up-clause-refused t c =
    let go = bound_goes_on c.args.cycles c.in_ok-changed-in-len2-up.changed c.args.words.now _ c.in-len2-up.len_at_least
    c.in_ok-changed-in-len2-up.ensures.value in
    subst (λ (r : Result Request Refusal). IfErr c.read_plotting_of.result (Reports r)) (sym go)
    c.read_plotting_of.ensures.refused
