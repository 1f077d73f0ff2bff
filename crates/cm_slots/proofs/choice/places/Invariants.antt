use Rattle.std.proofs.Common.{◌≡◌, ◌<◌, ℕ, length, slice_index}
use Rattle.cm_slots.specs.Slots.{slot_in}
use Rattle.cm_slots.specs.Choice.{IsLeast}
use Rattle.cm_slots.proofs.choice.places.Given as goal

abbrev pub invariant-loop-k : goal.invariant-loop-k
invariant-loop-k l = record {
  value : (i : ℕ) → i < 64 → IsLeast l.dim l.k (slot_in l.first l.rest i) (slice_index l.least i);
  long : length l.least ≡ 64;
}
