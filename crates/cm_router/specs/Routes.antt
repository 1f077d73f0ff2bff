-- How a machine routes, as cm_model has it. Ours.
use Rattle.cm_router.specs.declared.routing.Routing.{Routing}
use Rattle.cm_model.specs.Wiring.{Routing as Routes}

-- the cut wires and the rule
abbrev pub routing_of : Routing → Routes
routing_of routing = record { cuts = routing.cuts.wires; rule = routing.rule }
