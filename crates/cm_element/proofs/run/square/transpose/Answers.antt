use Rattle.std.proofs.Common.{ℕ, ◌+◌, ◌*◌, get_or, ap, ◌∙◌, arith}
use Rattle.cm_element.proofs.Squares.{place_before, three_riffles}
use Rattle.cm_element.proofs.run.square.transpose.Goals as goal

pub returns : goal.returns
returns c = record {
  value = λ p k few small. c.riffle-3.ensures.value (p * 8 + k) (omega arith)
      ∙ c.riffle-2.ensures.value (place_before (p * 8 + k)) (omega arith)
      ∙ c.riffle.ensures.value (place_before (place_before (p * 8 + k))) (omega arith)
      ∙ ap (λ (n : ℕ). get_or c.args.square.now n 0) (three_riffles p k few small);
}
