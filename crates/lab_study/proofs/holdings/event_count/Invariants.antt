use Rattle.std.proofs.Common.{◌≡◌, ◌≤◌, ◌*◌, ◌^◌, length, sum}
use Rattle.cm_model.specs.Each.{tabulate}
use Rattle.cm_model.specs.Array.{nth_or_nil}
use Rattle.lab_study.proofs.holdings.event_count.Given as goal

-- those of so many chips
abbrev pub invariant-loop-chip : goal.invariant-loop-chip
invariant-loop-chip l = record {
  so_far : l.count ≡ sum (tabulate 0 l.chip (λ c. length (nth_or_nil l.machine.machine.logs c)));
  within : l.count ≤ l.chip * 2 ^ 64;
}
