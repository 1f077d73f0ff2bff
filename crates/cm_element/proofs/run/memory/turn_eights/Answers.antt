use Rattle.std.proofs.Common.{◌≡◌, inl, ℕ, ◌+◌, ◌-◌, ◌*◌, ◌<◌, ◌≤◌, ◌∙◌, ⊎_elim, arith}
use Rattle.std.proofs.lemmas.Bool.{cases_lt}
use Rattle.cm_element.proofs.run.memory.turn_eights.Goals as goal

pub loop-g-preserved : goal.loop-g-preserved
loop-g-preserved c =
    let written = c.turn_chips.ensures in
    let from : ℕ = c.loop-g.g * 8 in
    record {
      done = λ i p few small. ⊎_elim
          (λ (l : i < from). written.others p i (omega arith) (inl l) ∙ c.loop-g.invariant.done i p l small)
          (λ (l : from ≤ i).
          let back : from + (i - from) ≡ i = omega arith in
          rw back at (written.value p (i - from) small (omega arith)))
          (cases_lt i from);
    }
