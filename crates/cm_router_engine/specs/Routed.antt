-- Who leaves a chip by how its machine routes, where tickets stand for messages. Ours.
use Rattle.std.specs.Prelude.{ℕ, ◌++◌, List, Option}
use Rattle.std.specs.Option.{option_map, option_to_list}
use Rattle.cm_model.specs.declared.message.Message.{Message}
use Rattle.cm_model.specs.Wiring.{Way}
use Rattle.cm_model.specs.Buffers.{leaving_place, element_at, without}
use Rattle.cm_slots.specs.declared.ticket.Ticket.{Ticket}
use Rattle.cm_slots.specs.Tickets.{ticket_across}
use Rattle.cm_router_engine.specs.Standing.{standing}

-- the place of the ticket that leaves: that of its message
abbrev pub place_leaving : List Message → Way → ℕ → ℕ → List Ticket → Option ℕ
place_leaving row way room d ts = leaving_place way room d (standing row ts)

-- the ticket that goes across dimension d
abbrev pub ticket_leaving : List Message → Way → ℕ → ℕ → List Ticket → Option Ticket
ticket_leaving row way room d ts = option_map (ticket_across d) (element_at ts (place_leaving row way room d ts))

-- the tickets that stay
abbrev pub tickets_staying : List Message → Way → ℕ → ℕ → List Ticket → List Ticket
tickets_staying row way room d ts = without ts (place_leaving row way room d ts)

-- a queue after dimension d, where this other one stands across it
abbrev pub tickets_crossed : List Message → Way → ℕ → ℕ → List Ticket → List Ticket → List Ticket
tickets_crossed row way room d here there =
    tickets_staying row way room d here ++ option_to_list (ticket_leaving row way room d there)
