use Rattle.std.proofs.Common.{◌≡◌}
use Rattle.cm_model.specs.Each.{tabulate}
use Rattle.cm_model.specs.Array.{chip_at}
use Rattle.cm_model.specs.Letters.{chip_after_injection}
use Rattle.cm_model.specs.Buffers.{taken_in}
use Rattle.cm_plain.proofs.router.PlainRouter.chips_after_injection.Given as goal

abbrev pub invariant-loop-chip : goal.invariant-loop-chip
invariant-loop-chip g l =
    l.chips.items ≡ tabulate 0 l.chip
    (λ c. chip_after_injection (taken_in g.row.CAP l.self c) (chip_at l.self.chips c))
