use Rattle.std.proofs.Common.{◌≡◌, ◌<◌, ℕ, IsFalse, false, slice_index}
use Rattle.cm_slots.specs.Slots.{is_arrival}
use Rattle.cm_slots.specs.Moves.{slot_over}
use Rattle.cm_slots.proofs.across.has_arrival_over.Given as goal

abbrev pub invariant-loop-i : goal.invariant-loop-i
invariant-loop-i l = IsFalse l.seen → (i : ℕ) → i < l.i → is_arrival (slot_over l.dims (slice_index l.row i)) ≡ false
