use Rattle.std.proofs.Common.{◌≡◌, ℕ, ◌<◌, None, slice_index_or}
use Rattle.cm_slots.specs.Runs.{ticket_leaving_chip}
use Rattle.cm_slots.proofs.departing.write_down.Given as goal

abbrev pub invariant-loop-c : goal.invariant-loop-c
invariant-loop-c l = record {
  done : (k : ℕ) → k < l.c → slice_index_or l.leavers k None ≡ ticket_leaving_chip l.leaving k;
}
