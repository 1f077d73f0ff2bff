use Rattle.std.proofs.Common.{◌≡◌, ◌⊎◌, inl, inr, ℕ, List, ◌+◌, ◌-◌, ◌*◌, ◌<◌, ◌≤◌, take, drop, length, get_or, ap, ◌∙◌}
use Rattle.std.proofs.Common.{⊎_elim, arith}
use Rattle.std.proofs.lemmas.Bool.{cases_lt}
use Rattle.cm_element.proofs.Columns.{beside_part}
use Rattle.cm_element.proofs.Laying.{get_or-part, length-part}
use Rattle.cm_element.proofs.run.memory.MemoryRows.lay_room.Goals as goal

pub loop-k-preserved : goal.loop-k-preserved
loop-k-preserved c =
    let stride : ℕ = c.args.here.stride in
    let first : ℕ = c.args.here.first in
    let some : ℕ = c.args.some in
    let room : List ℕ = c.args.room.now in
    let now = c.loop-k.invariant in
    let k : ℕ = c.loop-k.k in
    let at : ℕ = c.args.at in
    let laid = c.fill.ensures.value in
    let old : List ℕ = c.loop-k.self in
    let new : List ℕ = c.fill.new.self in
    let from : ℕ = k * 256 in
    let few : from + some - from ≡ some = omega arith in
    let part : List ℕ = take (from + some - from) (drop from room) in
    let long : length part ≡ some = length-part room from (from + some) some few
    (omega (arith, c.requires.room, c.requires.some)) in
    let stays : (i j : ℕ) → j < stride → ((i < at + k) ⊎ (at + k < i)) ⊎ ((j < first) ⊎ (first + some ≤ j))
    → get_or new (i * stride + j) 0 ≡ get_or old (i * stride + j) 0 =
    λ i j inside other. ⊎_elim
    (λ (b : i * stride + j < (at + k) * stride + first). laid.below (i * stride + j) b)
    (λ (a : (at + k) * stride + first + some ≤ i * stride + j). laid.above (i * stride + j) (omega (arith, a, long)))
    (beside_part stride some i (at + k) j first inside c.requires.here other) in
    record {
      words = c.fill.ensures.words ∙ now.words;
      laid = λ j p less small. ⊎_elim
          (λ (l : j < k). stays (at + j) (first + p) (omega (arith, small, c.requires.here)) (inl (inl (omega arith)))
          ∙ now.laid j p l small)
          (λ (l : k ≤ j).
          let same : j ≡ k = omega arith in
          let place : (at + k) * stride + (first + p) ≡ (at + k) * stride + first + p = omega arith in
          let start : 0 + p ≡ p = omega arith in
          rw same (ap (λ (n : ℕ). get_or new n 0) place ∙ laid.laid p (omega (arith, small, long))
          ∙ ap (λ (n : ℕ). get_or part n 0) start ∙ get_or-part room from (from + some) some p few small))
          (cases_lt j k);
      others = λ i j inside other.
          let apart : ((i < at + k) ⊎ (at + k < i)) ⊎ ((j < first) ⊎ (first + some ≤ j)) = ⊎_elim
          (λ (rows : (i < at) ⊎ (at + 8 ≤ i)). ⊎_elim
          (λ (l : i < at). inl (inl (omega arith)))
          (λ (m : at + 8 ≤ i). inl (inr (omega arith)))
          rows)
          (λ (beside : (j < first) ⊎ (first + some ≤ j)). inr beside)
          other in
          stays i j inside apart ∙ now.others i j inside other;
    }
