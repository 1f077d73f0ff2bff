use Rattle.std.proofs.Common.{◌≡◌, inl, inr, ℕ, List, ◌+◌, ◌-◌, ◌<◌, ◌≤◌, take, drop, length, get_or, refl, ap, ◌∙◌}
use Rattle.std.proofs.Common.{⊎_elim, arith}
use Rattle.std.proofs.lemmas.Bool.{cases_lt}
use Rattle.cm_element.proofs.Laying.{get_or-part, length-part}
use Rattle.cm_element.proofs.run.memory.MemoryRows.write_rest.Goals as goal

pub loop-row-preserved : goal.loop-row-preserved
loop-row-preserved c =
    let written = c.write_row.ensures in
    let now = c.loop-row.invariant in
    let row : ℕ = c.loop-row.row in
    let done : ℕ = c.args.done in
    let from : ℕ = c.args.there.first + done in
    let words : List ℕ = c.row-words.result.now in
    let long : ℕ = length words - from in
    let rest : long ≡ c.args.count - done = omega (arith, c.row-words.ensures.count) in
    let part_long : length (take long (drop from words)) ≡ long =
    length-part words from (length words) long refl (omega (arith, c.row-words.ensures.count, c.requires.done)) in
    record {
      done = λ i p few least small. ⊎_elim
          (λ (l : i < row). written.others p i (omega arith) (inr (omega arith)) ∙ now.done i p l least small)
          (λ (l : row ≤ i).
          let same : i ≡ row = omega arith in
          let back : done + (p - done) ≡ p = omega arith in
          let source : from + (p - done) ≡ c.args.there.first + p = omega arith in
          rw same (rw back at (written.value (p - done) (omega (arith, part_long, rest, least, small)))
          ∙ get_or-part words from (length words) long (p - done) refl (omega (arith, rest, least, small))
          ∙ ap (λ (n : ℕ). get_or words n 0) source
          ∙ c.row-words.ensures.value (c.args.there.first + p) (omega (arith, small))))
          (cases_lt i row);
      others = λ i p below few. written.others p i below (inl few) ∙ now.others i p below few;
    }
