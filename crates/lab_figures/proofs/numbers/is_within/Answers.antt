use Rattle.std.proofs.Common.{arith}
use Rattle.lab_figures.proofs.Texts.{is_within, is_within-wide}
use Rattle.lab_figures.proofs.numbers.is_within.Goals as goal

pub returns-then-len-ge64 : goal.returns-then-len-ge64
returns-then-len-ge64 c = record { value = is_within-wide c.args.number c.args.len (omega arith) (omega arith) }

pub returns : goal.returns
returns c = record { value = is_within c.args.number c.args.len }
