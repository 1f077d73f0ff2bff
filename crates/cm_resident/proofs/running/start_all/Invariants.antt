use Rattle.std.proofs.Common.{◌≡◌, ◌<◌, ◌≤◌, ℕ, drop, length, get_or, vec_capacity}
use Rattle.cm_gates.specs.declared.gate.Passage.TheVariants.{Gated}
use Rattle.cm_resident.proofs.running.start_all.Given as goal

abbrev pub invariant-loop-w : goal.invariant-loop-w
invariant-loop-w g l = record {
  started : length l.handles.items ≡ l._w;
  room : length l.fn.readies.items ≤ vec_capacity l.handles;
  left : l.readies.items ≡ drop l._w l.fn.readies.items;
  promised : (w : ℕ) (d : _) (e : _) → w < l._w
      → (get_or l.handles.items w d).promise.was.value ≡ (get_or l.fn.readies.items w e).worker;
  admitted : (gate : _) → l.passage ≡ Gated gate → (w : ℕ) (d : _) → w < l._w
      → (goal.Gate-dyn g (gate.vtable, gate.value)).admits gate.value (get_or l.fn.readies.items w d).worker.id;
}
