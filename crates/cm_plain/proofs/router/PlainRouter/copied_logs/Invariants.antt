use Rattle.std.proofs.Common.{◌≡◌, take}
use Rattle.cm_plain.proofs.router.PlainRouter.copied_logs.Given as goal

abbrev pub invariant-loop-log : goal.invariant-loop-log
invariant-loop-log g l = l.logs.items ≡ take l.log-index l.log-items
