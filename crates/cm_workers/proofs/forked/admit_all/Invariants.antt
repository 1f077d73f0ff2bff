use Rattle.std.proofs.Common.{◌≡◌, ℕ, ◌<◌}
use Rattle.cm_gates.specs.declared.gate.Passage.TheVariants.{Gated}
use Rattle.cm_workers.proofs.forked.admit_all.Given as goal

abbrev pub invariant-loop-worker : goal.invariant-loop-worker
invariant-loop-worker g l =
    (gate : _) → l.passage ≡ Gated gate → (w : ℕ) → w < l.worker → (goal.Gate-dyn g (gate.vtable, gate.value)).admits gate.value w
