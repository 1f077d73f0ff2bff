use Rattle.std.proofs.Common.{rules}
use Rattle.std.proofs.lemmas.List.{length-map}
use Rattle.cm_router_engine.proofs.Carrying.{none_standing, none_kept, none_together, none_long}
use Rattle.cm_router_engine.proofs.Rising.{none_rising}
use Rattle.cm_router_engine.proofs.router_engine.RouterEngine.clear.Goals as goal

pub invariant_of-self : goal.invariant_of-self
invariant_of-self c = search (rules, none_long, none_kept, none_together, none_rising)

pub returns-clause-value : goal.returns-clause-value
returns-clause-value c =
    rw (← c.self.view_is, length-map) (none_standing _ _ c.clear-2.ensures.value c.clear.new.self.items)
