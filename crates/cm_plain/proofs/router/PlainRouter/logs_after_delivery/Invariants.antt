use Rattle.std.proofs.Common.{◌≡◌, ◌++◌, map}
use Rattle.cm_model.specs.Each.{tabulate}
use Rattle.cm_model.specs.declared.message.Event.TheVariants.{Delivered}
use Rattle.cm_model.specs.Array.{nth_or_nil}
use Rattle.cm_model.specs.Buffers.{delivered_in}
use Rattle.cm_plain.proofs.router.PlainRouter.logs_after_delivery.Given as goal

abbrev pub invariant-loop-chip : goal.invariant-loop-chip
invariant-loop-chip g l =
    l.logs.items ≡ tabulate 0 l.chip (λ c. nth_or_nil l.self.logs c ++ map (λ m. Delivered c m) (delivered_in l.self c))
