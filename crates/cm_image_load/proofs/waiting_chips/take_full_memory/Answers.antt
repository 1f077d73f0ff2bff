use Rattle.std.proofs.Common.{arith}
use Rattle.std.proofs.lemmas.List.{take_rest}
use Rattle.cm_image_load.proofs.Waiting.{memory_listed}
use Rattle.cm_image_load.proofs.waiting_chips.take_full_memory.Goals as goal

pub returns-clause-full : goal.returns-clause-full
returns-clause-full c = λ all.
    memory_listed c.count_at.result 16386 c.args.bytes.now _ _ c.if-count_at-ne-ADDRESSES.false
    (omega (arith, c.if-count_at-ne-ADDRESSES.false)) c.count_at.ensures.value (take_rest c.args.bytes.now 2)
    (λ a h. c.take_planes.ensures.full all a (omega (arith, h, c.if-count_at-ne-ADDRESSES.false)))
