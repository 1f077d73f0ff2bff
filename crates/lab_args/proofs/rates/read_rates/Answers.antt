use Rattle.std.proofs.Common.{◌≡◌, ◌∙◌, IfErr, IfOk, List, Ok, Result, rules, subst, sym, ℕ}
use Rattle.lab_args.specs.Refusals.{Refusal, Reports}
use Rattle.lab_args.specs.Rates.{rates}
use Rattle.lab_args.proofs.RateLemmas.{fault_known, one_known, uncut_rate}
use Rattle.lab_args.proofs.rates.read_rates.Goals as goal

pub returns-in_err-rates-clause-refused : goal.returns-in_err-rates-clause-refused
returns-in_err-rates-clause-refused c =
    let fault = fault_known c.loop-part.rates.items c.loop-part.rest.now c.in-Some.part.now c.in-Some.after.now
    c.in_err-rates.field-0.0 c.in-Some.ensures c.in_err-rates.ensures.refused in
    let all : Reports (rates c.args.word.now) c.in_err-rates.field-0.0 =
    subst (λ (r : Result (List ℕ) Refusal). Reports r c.in_err-rates.field-0.0) c.loop-part.invariant.others fault in
    search (rules, all)

pub loop-part-preserved : goal.loop-part-preserved
loop-part-preserved c =
    record {
      text = search rules;
      others =
          one_known c.loop-part.rates.items c.in_ok-rates.rates.items c.loop-part.rest.now c.in-Some.part.now
          c.in-Some.after.now c.in-Some.ensures c.in_ok-rates.ensures.value ∙ c.loop-part.invariant.others;
    }

pub returns-clause-value : goal.returns-clause-value
returns-clause-value c =
    let last = sym (uncut_rate c.loop-part.rates.items c.loop-part.rest.now c.in_default.ensures)
    ∙ c.loop-part.invariant.others in
    subst (λ (r : Result (List ℕ) Refusal). IfOk c.with_rate-2.result (λ found. r ≡ Ok found.items)) last
    c.with_rate-2.ensures.value

pub returns-clause-refused : goal.returns-clause-refused
returns-clause-refused c =
    let last = sym (uncut_rate c.loop-part.rates.items c.loop-part.rest.now c.in_default.ensures)
    ∙ c.loop-part.invariant.others in
    subst (λ (r : Result (List ℕ) Refusal). IfErr c.with_rate-2.result (Reports r)) last c.with_rate-2.ensures.refused
