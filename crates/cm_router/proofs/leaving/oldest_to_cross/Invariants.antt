use Rattle.std.proofs.Common.{◌≡◌, ◌<◌, ◌≤◌, length, IfSome}
use Rattle.cm_router.specs.Places.{oldest_from}
use Rattle.cm_router.proofs.leaving.oldest_to_cross.Given as goal

abbrev pub invariant-loop-i : goal.invariant-loop-i
invariant-loop-i l = record {
  value : l.oldest ≡ oldest_from l.dim l.messages l.i;
  within : IfSome l.oldest (λ place. place < length l.messages);
  most : l.i ≤ length l.messages;
}
