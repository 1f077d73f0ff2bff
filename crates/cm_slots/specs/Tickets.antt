-- Tickets, the numbers that stand for them, and how they cross a dimension. Ours.
use Rattle.std.specs.Prelude.{ℕ, ◌+◌, ◌-◌, ◌*◌, ◌/◌, ◌%◌, ◌^◌, ◌==◌, Bool, List, Option, Some, None, bit_xor}
use Rattle.std.specs.Prelude.{if◌then◌else◌}
use Rattle.std.specs.Option.{option_map}
use Rattle.cm_bits.specs.Bit.{bit}
use Rattle.cm_slots.specs.declared.ticket.Ticket.{Ticket}
use Rattle.cm_slots.specs.Queues.{leaver_of, after_exchange}

-- its message has to cross dimension d
abbrev pub has_to_go : ℕ → Ticket → Bool
has_to_go d t = bit t.rel d

-- its message has come to the chip that it is bound for
abbrev pub has_come : Ticket → Bool
has_come t = t.rel == 0

-- a ticket that crosses dimension d: its bit flips
abbrev pub ticket_across : ℕ → Ticket → Ticket
ticket_across d t = record t { rel = bit_xor t.rel (2 ^ d) }

-- the ticket that goes across dimension d
abbrev pub ticket_going : ℕ → ℕ → List Ticket → Option Ticket
ticket_going room d ts = option_map (ticket_across d) (leaver_of (has_to_go d) room ts)

-- a queue after dimension d
abbrev pub queue_after_dimension : ℕ → ℕ → List Ticket → Option Ticket → List Ticket
queue_after_dimension room d ts coming = after_exchange (has_to_go d) room ts coming

-- a queue after dimension d, where this other one stands across it
abbrev pub queue_exchanged : ℕ → ℕ → List Ticket → List Ticket → List Ticket
queue_exchanged room d here there = queue_after_dimension room d here (ticket_going room d there)

-- ---- numbers

-- the number of a ticket: its relative address, and below that in sixteen bits one more than its number
abbrev pub slot_of : Ticket → ℕ
slot_of t = t.rel * 65536 + (t.number + 1)

-- the ticket that a number stands for
abbrev pub ticket_of : ℕ → Ticket
ticket_of slot = record { rel = slot / 65536; number = slot % 65536 - 1 }

-- the ticket that stands at a slot, if one does
abbrev pub ticket_in : ℕ → Option Ticket
ticket_in slot = if slot == 0 then None else Some (ticket_of slot)
