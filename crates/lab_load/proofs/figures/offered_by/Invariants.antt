use Rattle.std.proofs.Common.{◌≡◌, ◌≤◌}
use Rattle.lab_load.specs.Loaded.{offered_by}
use Rattle.lab_load.proofs.figures.offered_by.Given as goal

-- those of so many places
abbrev pub invariant-loop-place : goal.invariant-loop-place
invariant-loop-place l = record {
  so_far : l.offered ≡ offered_by l.load l.t l.place;
  within : l.offered ≤ l.place;
}
