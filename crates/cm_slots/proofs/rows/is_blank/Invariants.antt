use Rattle.std.proofs.Common.{◌≡◌, ◌<◌, ◌≤◌, ℕ, slice_index}
use Rattle.cm_slots.specs.Slots.{IsBlank}
use Rattle.cm_slots.proofs.rows.is_blank.Given as goal

abbrev pub invariant-loop-i : goal.invariant-loop-i
invariant-loop-i l = record {
  most : (i : ℕ) → i < l.i → slice_index l.row i ≤ l.all;
  blank : IsBlank l.row → l.all ≡ 0;
}
