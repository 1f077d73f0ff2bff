use Rattle.std.proofs.Common.{◌<◌, not, ap, ◌∙◌, arith}
use Rattle.cm_model.proofs.Bits.{bit-bit_not}
use Rattle.cm_router.proofs.Delivering.{chip_behind, nothing_seen}
use Rattle.cm_router.proofs.delivery.Deliveries.receivers.Goals as goal

pub returns-clause-gone : goal.returns-clause-gone
returns-clause-gone c =
    rw (chip_behind c.args.self.now c.args.run.now c.args.place c.requires.before)
    (nothing_seen _ c.received.ensures.whole)

pub returns-clause-value : goal.returns-clause-value
returns-clause-value c = λ p h.
    let fits : c.received.result < 65536 = omega arith in
    rw (chip_behind c.args.self.now c.args.run.now c.args.place c.requires.before)
    (bit-bit_not c.received.result p fits h ∙ ap not (c.received.ensures.value p h))
