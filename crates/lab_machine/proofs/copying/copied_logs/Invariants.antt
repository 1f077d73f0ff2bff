use Rattle.std.proofs.Common.{◌≡◌}
use Rattle.cm_model.specs.Each.{tabulate}
use Rattle.cm_model.specs.Array.{nth_or_nil}
use Rattle.cm_petit.specs.Routers.{events_of}
use Rattle.lab_machine.proofs.copying.copied_logs.Given as goal

-- the logs of so many chips
abbrev pub invariant-loop-chip : goal.invariant-loop-chip
invariant-loop-chip g l = events_of l.logs.items ≡ tabulate 0 l.chip (λ k. nth_or_nil l.machine.machine.logs k)
