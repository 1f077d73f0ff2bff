use Rattle.std.proofs.Common.{◌≡◌, inl, inr, ℕ, ◌+◌, ◌-◌, ◌*◌, ◌<◌, ◌≤◌, get_or, ap, ◌∙◌, ⊎_elim, arith}
use Rattle.std.proofs.lemmas.Bool.{cases_lt}
use Rattle.cm_element.proofs.run.memory.turn_squares.Goals as goal

pub loop-g-preserved : goal.loop-g-preserved
loop-g-preserved c =
    let written = c.turn_square.ensures in
    let from : ℕ = c.loop-g.g * 8 in
    let words = c.args.words.now in
    let start : ℕ → ℕ = λ a. get_or c.args.slots.now a 0 * c.args.stride in
    record {
      done = λ p k few small. ⊎_elim
          (λ (l : k < from). written.others p k (omega (arith, c.requires.eights)) (inr (inl l))
          ∙ c.loop-g.invariant.done p k few l)
          (λ (l : from ≤ k). let place : p * 64 + k ≡ (0 + p) * 64 + (from + (k - from)) = omega arith in
          let row : c.args.at + from + (k - from) ≡ c.args.at + k = omega arith in
          let chip : 0 + p ≡ p = omega arith in
          ap (λ (i : ℕ). get_or c.turn_square.new.planes i 0) place
          ∙ written.value p (k - from) few (omega arith)
          ∙ ap (λ (a : ℕ). get_or words (start a + (0 + p)) 0) row
          ∙ ap (λ (n : ℕ). get_or words (start (c.args.at + k) + n) 0) chip)
          (cases_lt k from);
    }
