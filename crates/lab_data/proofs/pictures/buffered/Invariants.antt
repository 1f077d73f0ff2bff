use Rattle.std.proofs.Common.{◌≡◌, length}
use Rattle.cm_model.specs.Each.{tabulate}
use Rattle.cm_model.specs.Array.{nth_or_nil}
use Rattle.lab_data.proofs.pictures.buffered.Given as goal

-- the messages of so many chips
abbrev pub invariant-loop-chip : goal.invariant-loop-chip
invariant-loop-chip g l =
    l.dots.items ≡ tabulate 0 l.chip (λ c. length (nth_or_nil l.fn.machine.machine.buffers c))
