use Rattle.std.proofs.Common.{◌≤◌}
use Rattle.cm_router_engine.proofs.Carrying.{as_many}
use Rattle.cm_router_engine.proofs.router_engine.RouterEngine.is_within.Goals as goal

pub returns : goal.returns
returns c = record {
  within = rw (← c.self.view_is) (simp (← as_many (λ n. n ≤ c.args.room) c.self.inside.row.items c.self.inside.slots)
      (rw c.from.ensures at c.is_within.ensures.within));
}
