use Rattle.std.proofs.Common.{◌≡◌, ◌++◌, map}
use Rattle.cm_model.specs.Each.{tabulate}
use Rattle.cm_model.specs.declared.message.Event.TheVariants.{Injected}
use Rattle.cm_model.specs.Array.{nth_or_nil}
use Rattle.cm_model.specs.Buffers.{sent_in}
use Rattle.cm_plain.proofs.router.PlainRouter.logs_after_injection.Given as goal

abbrev pub invariant-loop-chip : goal.invariant-loop-chip
invariant-loop-chip g l =
    l.logs.items ≡ tabulate 0 l.chip (λ c. nth_or_nil l.self.logs c ++ map Injected (sent_in g.row.N g.row.CAP l.self c))
