use Rattle.std.proofs.Common.{◌≡◌, map, take}
use Rattle.std.specs.Option.{option_map}
use Rattle.cm_router_engine.specs.Standing.{message_of_ticket}
use Rattle.cm_router_engine.proofs.row.collect.Given as goal

abbrev pub invariant-loop-c : goal.invariant-loop-c
invariant-loop-c l = record {
  done : take l.c l.leavers ≡ map (λ t. option_map (message_of_ticket l.row) t) (take l.c l.tickets);
}
