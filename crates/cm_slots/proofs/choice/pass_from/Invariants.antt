use Rattle.std.proofs.Common.{slice_index, if◌then◌else◌, nat_le}
use Rattle.cm_slots.proofs.Carrying.{AreDone}
use Rattle.cm_slots.proofs.choice.pass_from.Given as goal

abbrev pub invariant-loop-i : goal.invariant-loop-i
invariant-loop-i l = record {
  carried : AreDone (λ i. if nat_le (slice_index l.places i) l.place then slice_index l.initial.carried i else slice_index
      l.initial.row i) l.initial.carried l.carried l.i;
  row : AreDone (λ i. if nat_le (slice_index l.places i) l.place then slice_index l.initial.row i else slice_index
      l.initial.carried i) l.initial.row l.row l.i;
}
