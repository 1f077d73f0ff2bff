use Rattle.std.proofs.Common.{◌≡◌, ℕ, ◌+◌, ◌*◌, ◌<◌, ◌≤◌, get_or, ap, ◌∙◌, ⊎_elim, arith}
use Rattle.std.proofs.lemmas.Bool.{cases_lt}
use Rattle.cm_element.proofs.run.memory.read_square.Goals as goal

pub loop-k-preserved : goal.loop-k-preserved
loop-k-preserved c =
    let put = c.put_eight.ensures.value in
    let here : ℕ = c.loop-k.k in
    let slot : c.from-slot.result ≡ get_or c.args.slots.now (c.args.at + here) 0 = c.from-slot.ensures in
    let chips = c.args.chips in
    let place : (i n : ℕ) → n * chips.stride + chips.first + i ≡ n * chips.stride + (chips.first + i) =
    λ i n. omega arith in
    record {
      done = λ j i few small. ⊎_elim
          (λ (l : j < here). put.below (j * 8 + i) (omega arith) ∙ c.loop-k.invariant.done j i l small)
          (λ (l : here ≤ j). let same : j ≡ here = omega arith in
          rw same (put.laid i small
          ∙ ap (λ (n : ℕ). get_or c.args.words.now n 0) (place i c.from-slot.result)
          ∙ ap (λ (n : ℕ). get_or c.args.words.now (n * c.args.chips.stride + (c.args.chips.first + i)) 0) slot))
          (cases_lt j here);
    }
