use Rattle.std.proofs.Common.{◌≡◌, take}
use Rattle.lab_figures.specs.Looks.{greatest_dot}
use Rattle.lab_figures.proofs.looks.greatest_dot.Given as goal

-- the greatest of so many dots
abbrev pub invariant-loop-dot : goal.invariant-loop-dot
invariant-loop-dot l = l.most ≡ greatest_dot (take l.dot-index l.dots)
