use Rattle.std.proofs.Common.{◌∙◌, sym, arith}
use Rattle.lab_args.proofs.Numbers.{parsed_digits}
use Rattle.lab_args.proofs.rates.digits.Goals as goal

pub returns : goal.returns
returns c =
    c.ok.ensures.value ∙ parsed_digits c.args.word.now c.parse.result
    (sym (c.starts_with.ensures.byte (omega arith) (omega arith) (λ w o m. m)) ∙ c.if-starts_with.false)
    c.parse.ensures.value.0
