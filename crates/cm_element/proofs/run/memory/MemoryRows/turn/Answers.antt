use Rattle.std.proofs.Common.{◌≡◌, ◌⊎◌, inl, inr, ℕ, ◌+◌, ◌-◌, ◌*◌, ◌<◌, ◌≤◌, ◌∙◌, ⊎_elim, arith}
use Rattle.std.proofs.lemmas.Bool.{cases_lt}
use Rattle.cm_element.proofs.run.memory.MemoryRows.turn.Goals as goal

pub loop-g-preserved : goal.loop-g-preserved
loop-g-preserved c =
    let now = c.loop-g.invariant in
    let put = c.turn_rows.ensures in
    let at : ℕ = c.loop-g.g * 8 in
    let here = c.args.here in
    record {
      words = put.words ∙ now.words;
      laid = λ i p less small. ⊎_elim
          (λ (l : i < at). put.others i (here.first + p) (omega (arith, small, c.requires.here)) (inl (inl l))
          ∙ now.laid i p l small)
          (λ (l : at ≤ i).
          let back : at + (i - at) ≡ i = omega arith in
          rw back at (put.laid (i - at) p (omega arith) small))
          (cases_lt i at);
      others = λ i k inside out. ⊎_elim
          (λ (l : at + 8 ≤ i). put.others i k inside (inl (inr l)) ∙ now.others i k inside (inl (omega arith)))
          (λ (beside : (k < here.first) ⊎ (here.first + c.args.count ≤ k)). put.others i k inside (inr beside)
          ∙ now.others i k inside (inr beside))
          (⊎_elim (λ (l : (c.loop-g.g + 1) * 8 ≤ i). inl (omega (arith, l))) (λ beside. inr beside) out);
    }
