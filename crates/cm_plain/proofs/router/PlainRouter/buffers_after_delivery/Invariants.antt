use Rattle.std.proofs.Common.{◌≡◌, []}
use Rattle.cm_model.specs.Each.{tabulate}
use Rattle.cm_model.specs.Array.{chip_at, nth_or_nil}
use Rattle.cm_model.specs.Letters.{can_receive}
use Rattle.cm_model.specs.OneChip.{kept}
use Rattle.cm_plain.proofs.router.PlainRouter.buffers_after_delivery.Given as goal

abbrev pub invariant-loop-chip : goal.invariant-loop-chip
invariant-loop-chip g l =
    l.buffers.items ≡ tabulate 0 l.chip
    (λ c. kept (can_receive (chip_at l.self.chips c)) [] (nth_or_nil l.self.buffers c))
