use Rattle.std.proofs.Common.{◌≡◌, []}
use Rattle.cm_model.specs.Each.{tabulate}
use Rattle.cm_plain.proofs.router.PlainRouter.no_logs.Given as goal

abbrev pub invariant-loop-chip : goal.invariant-loop-chip
invariant-loop-chip g l = l.logs.items ≡ tabulate 0 l._chip (λ c. [])
