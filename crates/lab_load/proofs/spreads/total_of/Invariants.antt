use Rattle.std.proofs.Common.{◌≡◌, ◌≤◌, ◌*◌, ◌^◌, take, sum_by}
use Rattle.lab_load.specs.Spreads.{figure_in}
use Rattle.lab_load.proofs.spreads.total_of.Given as goal

-- that of so many loads
abbrev pub invariant-loop-figures : goal.invariant-loop-figures
invariant-loop-figures l = record {
  so_far : l.total ≡ sum_by (figure_in l.column) (take l.figures-index l.loads);
  within : l.total ≤ l.figures-index * 2 ^ 39;
}
