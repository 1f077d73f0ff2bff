use Rattle.std.proofs.Common.{ℕ, ◌==◌, ◌&&◌, if◌then◌else◌, ap, ◌∙◌, sym}
use Rattle.cm_bits.specs.Bit.{bit}
use Rattle.cm_element.proofs.Poking.{bit-replaced}
use Rattle.cm_element.proofs.word.with_bit_of.Goals as goal

pub returns-clause-value : goal.returns-clause-value
returns-clause-value c = λ b is p h.
    let number = c.get.ensures.value in
    bit-replaced c.args.plane c.args.alone c.get.result p b c.get.ensures.in_range h
    (is p h ∙ ap (λ (n : ℕ). (p == n) && b) (sym number))
    ∙ ap (λ (n : ℕ). if p == n then b else bit c.args.plane p) number
