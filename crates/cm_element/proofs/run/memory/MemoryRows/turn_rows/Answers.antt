use Rattle.std.proofs.Common.{◌≡◌, ◌⊎◌, inl, inr, ℕ, List, ◌+◌, ◌-◌, ◌*◌, ◌<◌, ◌≤◌, get_or, ap, ◌∙◌, ⊎_elim, arith}
use Rattle.std.proofs.lemmas.Bool.{cases_lt}
use Rattle.cm_element.proofs.run.memory.MemoryRows.turn_rows.Goals as goal

pub loop-done-preserved : goal.loop-done-preserved
loop-done-preserved c =
    let now = c.loop-done.invariant in
    let put = c.lay_room.ensures in
    let stride : ℕ = c.args.here.stride in
    let first : ℕ = c.args.here.first in
    let at : ℕ = c.args.at in
    let done : ℕ = c.loop-done.done in
    let some : ℕ = c.min-some.result in
    let new : List ℕ = c.lay_room.new.self in
    let enough : done + some ≤ c.args.count = omega (arith, c.min-some.ensures, now.most) in
    record {
      most = enough;
      words = put.words ∙ now.words;
      laid = λ k p few small. ⊎_elim
          (λ (l : p < done).
          put.others (at + k) (first + p) (omega (arith, l, enough, c.requires.here)) (inr (inl (omega arith)))
          ∙ now.laid k p few l)
          (λ (l : done ≤ p).
          let less : p - done < some = omega (arith, l, small) in
          let place : (at + k) * stride + (first + p) ≡ (at + k) * stride + (first + done + (p - done)) = omega arith in
          let chip : done + (p - done) ≡ p = omega arith in
          ap (λ (n : ℕ). get_or new n 0) place ∙ put.laid k (p - done) few less
          ∙ c.fill_room.ensures.value k (p - done) few less
          ∙ ap (λ (n : ℕ). get_or c.args.planes.now (n * 4128 + (at + k)) 0) chip)
          (cases_lt p done);
      others = λ i k inside other. ⊎_elim
          (λ (rows : (i < at) ⊎ (at + 8 ≤ i)). put.others i k inside (inl rows) ∙ now.others i k inside (inl rows))
          (λ (beside : (k < first) ⊎ (first + (done + some) ≤ k)). ⊎_elim
          (λ (b : k < first). put.others i k inside (inr (inl (omega arith))) ∙ now.others i k inside (inr (inl b)))
          (λ (a : first + (done + some) ≤ k). put.others i k inside (inr (inr (omega arith)))
          ∙ now.others i k inside (inr (inr (omega arith))))
          beside)
          other;
    }
