use Rattle.std.proofs.Common.{◌≡◌, ◌<◌, ◌≤◌, length, IfSome}
use Rattle.cm_router.specs.Places.{youngest_from}
use Rattle.cm_router.proofs.leaving.youngest.Given as goal

abbrev pub invariant-loop-i : goal.invariant-loop-i
invariant-loop-i l = record {
  value : l.youngest ≡ youngest_from l.messages l.i;
  within : IfSome l.youngest (λ place. place < length l.messages);
  most : l.i ≤ length l.messages;
}
