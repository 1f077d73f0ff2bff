use Rattle.std.proofs.Common.{◌≡◌, ◌≤◌, ◌*◌, ◌^◌, take, sum_by}
use Rattle.lab_load.specs.Spreads.{figure_in}
use Rattle.lab_load.proofs.spreads.squares_of.Given as goal

-- that of so many loads
abbrev pub invariant-loop-figures : goal.invariant-loop-figures
invariant-loop-figures l = record {
  so_far : l.total ≡ sum_by (λ figures. figure_in l.column figures * figure_in l.column figures)
      (take l.figures-index l.loads);
  within : l.total ≤ l.figures-index * 2 ^ 78;
}
