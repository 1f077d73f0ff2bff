use Rattle.std.proofs.Common.{◌≡◌, length}
use Rattle.cm_model.specs.Each.{tabulate}
use Rattle.cm_model.specs.Array.{nth_or_nil}
use Rattle.lab_study.proofs.counting.log_lengths.Given as goal

-- those of so many chips
abbrev pub invariant-loop-chip : goal.invariant-loop-chip
invariant-loop-chip l = l.lengths.items ≡ tabulate 0 l.chip (λ c. length (nth_or_nil l.machine.machine.logs c))
