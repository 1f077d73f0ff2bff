use Rattle.std.proofs.Common.{arith}
use Rattle.cm_image_dump.proofs.Lengths.{length-chip_text}
use Rattle.cm_image_dump.proofs.dumps.chip_len.Goals as goal

pub returns-clause-value : goal.returns-clause-value
returns-clause-value c =
    λ chip listed. omega (arith, length-chip_text chip c.args.buffer.now, listed)
