use Rattle.cm_daisy.proofs.Shifting.{bit-shifted}
use Rattle.cm_daisy.proofs.previous.Goals as goal

pub returns : goal.returns
returns c = record { value = λ p h. bit-shifted c.args.plane p h }
