use Rattle.std.proofs.Common.{◌≡◌, ◌≢◌, inl, ℕ, ◌+◌, ◌-◌, ◌*◌, ◌<◌, ◌≤◌, ◌∙◌, ⊎_elim, arith}
use Rattle.std.proofs.lemmas.Bool.{cases_lt}
use Rattle.cm_element.proofs.run.room.fill_room.Goals as goal

pub loop-q-preserved : goal.loop-q-preserved
loop-q-preserved c =
    let put = c.put_chips.ensures in
    let from : ℕ = c.loop-q.q * 8 in
    record {
      done = λ k p few small. ⊎_elim
          (λ (l : p < from). put.others k p (omega (arith, l, c.requires.some)) (inl l)
          ∙ c.loop-q.invariant.done k p few l)
          (λ (l : from ≤ p).
          let back : from + (p - from) ≡ p = omega arith in
          let chip : c.args.chip + from + (p - from) ≡ c.args.chip + p = omega arith in
          rw chip at (rw back at (put.value k (p - from) few (omega arith))))
          (cases_lt p from);
    }

pub loop-c-preserved : goal.loop-c-preserved
loop-c-preserved c =
    let put = c.put_chip.ensures in
    let here : ℕ = c.loop-c.c in
    record {
      done = λ k p few small. ⊎_elim
          (λ (l : p < here). let other : p ≢ here = omega arith in
          put.others k p (omega (arith, l, c.requires.some)) other ∙ c.loop-c.invariant.done k p few l)
          (λ (l : here ≤ p). let same : p ≡ here = omega arith in rw same (put.value k few))
          (cases_lt p here);
    }
