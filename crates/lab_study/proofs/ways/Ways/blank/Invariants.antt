use Rattle.std.proofs.Common.{◌≡◌, ◌≤◌, [], map}
use Rattle.cm_model.specs.Each.{tabulate}
use Rattle.lab_study.proofs.ways.Ways.blank.Given as goal

-- so many chips have their list
abbrev pub invariant-loop-chip : goal.invariant-loop-chip
invariant-loop-chip l = record {
  so_far : map (λ traces. traces.items) l.by_sender.items ≡ tabulate 0 l._chip (λ b. []);
  within : l._chip ≤ l.chips;
}
