use Rattle.std.proofs.Common.{arith}
use Rattle.std.proofs.lemmas.List.{length-map}
use Rattle.cm_router_engine.proofs.Carrying.{none_standing, none_kept, none_together, none_long}
use Rattle.cm_router_engine.proofs.Rising.{none_rising}
use Rattle.cm_router_engine.proofs.router_engine.RouterEngine.new.Goals as goal

pub invariant_of-result : goal.invariant_of-result
invariant_of-result c =
    let none = c.in_ok-slots.ensures.value in
    let row = c.in_ok-row.ensures in
    let spare = c.in_ok-spare.ensures in
    let leavers = c.in_ok-leavers.ensures in
    search (arith, none_rising, none_long, none_kept, none_together, none, row, spare, leavers, c.min-places.ensures, c.requires)

pub returns-clause-value : goal.returns-clause-value
returns-clause-value c = none_standing _ _ c.in_ok-slots.ensures.value c.in_ok-row.row.items

pub returns-clause-count : goal.returns-clause-count
returns-clause-count c = rw length-map (none_long _ _ c.in_ok-slots.ensures.value)
