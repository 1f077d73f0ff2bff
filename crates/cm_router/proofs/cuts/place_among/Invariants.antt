use Rattle.std.proofs.Common.{◌≡◌, ◌<◌, ◌≤◌, false, length, get_or}
use Rattle.cm_model.specs.Wiring.{wire_before}
use Rattle.cm_router.proofs.cuts.place_among.Given as goal

abbrev pub decreases-loop-place : goal.decreases-loop-place
decreases-loop-place l = l.place

abbrev pub invariant-loop-place : goal.invariant-loop-place
invariant-loop-place l = record {
  within : l.place ≤ length l.edges;
  behind : l.place < length l.edges → wire_before (get_or l.edges l.place l.edge) l.edge ≡ false;
}
