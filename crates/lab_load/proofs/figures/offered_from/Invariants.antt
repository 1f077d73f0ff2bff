use Rattle.std.proofs.Common.{◌≡◌, ◌+◌, ◌-◌, ◌≤◌, ◌*◌}
use Rattle.lab_load.specs.Loaded.{offered_in}
use Rattle.lab_load.proofs.figures.offered_from.Given as goal

-- those of so many petit cycles
abbrev pub invariant-loop-t : goal.invariant-loop-t
invariant-loop-t l = record {
  so_far : l.offered + offered_in l.load l.skip ≡ offered_in l.load l.t;
  within : l.offered ≤ (l.t - l.skip) * 65536;
}
