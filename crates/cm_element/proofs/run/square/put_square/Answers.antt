use Rattle.std.proofs.Common.{◌≡◌, ◌⊎◌, inl, inr, ℕ, ◌+◌, ◌*◌, ◌<◌, ◌≤◌, get_or, ap, ◌∙◌, ⊎_elim, arith}
use Rattle.std.proofs.lemmas.Bool.{cases_lt}
use Rattle.cm_element.proofs.Columns.{next_row, beside_part}
use Rattle.cm_element.proofs.run.square.put_square.Goals as goal

pub loop-c-preserved : goal.loop-c-preserved
loop-c-preserved g c =
    let pitch : ℕ = g.row.PITCH in
    let now = c.loop-c.invariant in
    let put = c.put_eight.ensures.value in
    let here : ℕ = c.loop-c.c in
    let chip : ℕ = c.args.chip in
    let to : ℕ = c.args.to in
    record {
      done = λ j k few small. ⊎_elim
          (λ (l : j < here). let far : (chip + j) * pitch + pitch ≤ (chip + here) * pitch =
          next_row (chip + j) (chip + here) pitch (omega arith) in
          put.below ((chip + j) * pitch + (to + k)) (omega (arith, far, c.requires.to)) ∙ now.done j k l small)
          (λ (l : here ≤ j). let same : j ≡ here = omega arith in
          let place : (chip + here) * pitch + (to + k) ≡ (chip + here) * pitch + to + k = omega arith in
          rw same (ap (λ (i : ℕ). get_or c.put_eight.new.list i 0) place ∙ put.laid k small))
          (cases_lt j here);
      others = λ j i inside other.
          let apart : ((j < chip + here) ⊎ (chip + here < j)) ⊎ ((i < to) ⊎ (to + 8 ≤ i)) = ⊎_elim
          (λ (chips : (j < chip) ⊎ (chip + 8 ≤ j)). ⊎_elim
          (λ (l : j < chip). inl (inl (omega arith)))
          (λ (m : chip + 8 ≤ j). inl (inr (omega arith)))
          chips)
          (λ (addresses : (i < to) ⊎ (to + 8 ≤ i)). inr addresses)
          other in
          ⊎_elim
          (λ (b : j * pitch + i < (chip + here) * pitch + to). put.below (j * pitch + i) b)
          (λ (a : (chip + here) * pitch + to + 8 ≤ j * pitch + i). put.above (j * pitch + i) a)
          (beside_part pitch 8 j (chip + here) i to inside c.requires.to apart) ∙ now.others j i inside other;
    }
