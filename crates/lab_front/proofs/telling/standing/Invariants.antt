use Rattle.std.proofs.Common.{◌≡◌, ◌*◌, ◌^◌, ◌≤◌, sum}
use Rattle.cm_model.specs.Each.{tabulate}
use Rattle.lab_study.specs.Counts.{standing_count_at}
use Rattle.lab_front.proofs.telling.standing.Given as goal

-- those of so many chips
abbrev pub invariant-loop-chip : goal.invariant-loop-chip
invariant-loop-chip g l = record {
  so_far : l.total ≡ sum (tabulate 0 l.chip (standing_count_at l.machine.machine));
  within : l.total ≤ l.chip * 2 ^ 64;
}
