use Rattle.std.proofs.Common.{◌≡◌, ◌≤◌, [], length}
use Rattle.cm_router_engine.proofs.Carrying.{all_stand, nobody_stands}
use Rattle.cm_router_engine.proofs.router_engine.RouterEngine.is_empty.Goals as goal

pub returns : goal.returns
returns c =
    let row = c.self.inside.row.items in
    record {
      none = rw (← c.self.view_is) (simp (← all_stand (λ ms. ms ≡ []) (λ ts. length ts ≤ 0) row (nobody_stands row)
          c.self.inside.slots) c.is_within.ensures.within);
    }
