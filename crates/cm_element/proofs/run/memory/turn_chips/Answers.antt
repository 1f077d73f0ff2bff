use Rattle.std.proofs.Common.{◌≡◌, inl, inr, ℕ, ◌+◌, ◌-◌, ◌*◌, ◌<◌, ◌≤◌, ◌∙◌, ⊎_elim, arith}
use Rattle.std.proofs.lemmas.Bool.{cases_lt}
use Rattle.cm_element.proofs.run.memory.turn_chips.Goals as goal

pub loop-q-preserved : goal.loop-q-preserved
loop-q-preserved c =
    let written = c.turn_square.ensures in
    let now = c.loop-q.invariant in
    let from : ℕ = c.loop-q.q * 8 in
    let at : ℕ = c.args.at in
    record {
      done = λ p k few small. ⊎_elim
          (λ (l : p < from). written.others p (at + k) (omega (arith, small, c.requires.at)) (inl (inl l))
          ∙ now.done p k l small)
          (λ (l : from ≤ p).
          let back : from + (p - from) ≡ p = omega arith in
          rw back at (written.value (p - from) k (omega arith) small))
          (cases_lt p from);
      others = λ p i inside other. written.others p i inside (inr other) ∙ now.others p i inside other;
    }
