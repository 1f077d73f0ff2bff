use Rattle.std.proofs.Common.{◌≡◌, ◌<◌, ◌≤◌, length, IfSome}
use Rattle.cm_model.specs.Array.{nth_or_nil}
use Rattle.cm_router.specs.Places.{youngest_from}
use Rattle.cm_router_engine.specs.Standing.{standing}
use Rattle.cm_router_engine.proofs.choosing.youngest.Given as goal

abbrev pub invariant-loop-place : goal.invariant-loop-place
invariant-loop-place l = record {
  value : l.youngest ≡ youngest_from (standing l.row (nth_or_nil l.slots l.chip)) l.place;
  within : IfSome l.youngest (λ place. place < length (nth_or_nil l.slots l.chip));
  most : l.place ≤ length (nth_or_nil l.slots l.chip);
}
