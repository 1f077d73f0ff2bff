use Rattle.std.proofs.Common.{rules}
use Rattle.cm_starts.proofs.Starts.{looks}
use Rattle.cm_starts.proofs.words.Waiter.look.Goals as goal

pub load-requires : goal.load-requires
load-requires c = (search rules, search rules, looks _ _ _ _ c.self.invariant.2)
