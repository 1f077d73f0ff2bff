use Rattle.std.proofs.Common.{◌≡◌, ℕ, ◌<◌, get_or, length}
use Rattle.lab_load.specs.declared.figures.Figures.{Figures}
use Rattle.lab_load.specs.Spreads.{seeded}
use Rattle.lab_load.specs.Trials.{AreFiguresOf}
use Rattle.lab_load.proofs.trials.Trial.all_measured.Given as goal

-- the loads of so many seeds
abbrev pub invariant-loop-k : goal.invariant-loop-k
invariant-loop-k l = record {
  count : length l.loads.items ≡ l.k;
  each : (k : ℕ) (d : Figures) → k < length l.loads.items
      → AreFiguresOf (seeded l.self k) l.targets l.cuts l.rate (get_or l.loads.items k d);
}
