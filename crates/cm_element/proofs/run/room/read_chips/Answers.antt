use Rattle.std.proofs.Common.{◌≡◌, ℕ, ◌+◌, ◌*◌, ◌<◌, ◌≤◌, get_or, ap, ◌∙◌, ⊎_elim, arith}
use Rattle.std.proofs.lemmas.Bool.{cases_lt}
use Rattle.cm_element.proofs.run.room.read_chips.Goals as goal

pub loop-c-preserved : goal.loop-c-preserved
loop-c-preserved c =
    let put = c.put_eight.ensures.value in
    let here : ℕ = c.loop-c.c in
    let start : ℕ = (c.args.chip + here) * 4128 in
    record {
      done = λ j k few small. ⊎_elim
          (λ (l : j < here). put.below (j * 8 + k) (omega arith) ∙ c.loop-c.invariant.done j k l small)
          (λ (l : here ≤ j). let same : j ≡ here = omega arith in
          let place : start + c.args.at + k ≡ start + (c.args.at + k) = omega arith in
          rw same (put.laid k small ∙ ap (λ (n : ℕ). get_or c.args.planes.now n 0) place))
          (cases_lt j here);
    }
