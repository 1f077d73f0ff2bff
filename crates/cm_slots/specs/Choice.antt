-- Who leaves a queue of tickets where lower numbers go first, and how it is found in slots. Ours.
use Rattle.std.specs.Prelude.{ℕ, ◌+◌, ◌-◌, ◌*◌, ◌%◌, ◌≤◌, ◌≡◌, ◌==◌, ◌&&◌, ◌++◌, Bool, true, false, not, nat_lt}
use Rattle.std.specs.Prelude.{List, [], ◌∷◌, length, Option, Some, None, if◌then◌else◌}
use Rattle.std.specs.Option.{option_or, option_map, option_to_list}
use Rattle.cm_model.specs.Buffers.{element_at, without, one_behind}
use Rattle.cm_slots.specs.declared.order.Order.{Order}
use Rattle.cm_slots.specs.declared.order.Order.TheVariants.{Arrival, Number}
use Rattle.cm_slots.specs.declared.ticket.Ticket.{Ticket}
use Rattle.cm_slots.specs.Queues.{place_of_leaver}
use Rattle.cm_slots.specs.Tickets.{has_to_go, ticket_across}
use Rattle.cm_slots.specs.Slots.{crosses}

-- ---- of a queue

-- perhaps a ticket, and its number is lower than that of this one
abbrev pub is_lower_one : Option Ticket → Ticket → Bool
is_lower_one None t = false
is_lower_one (Some q) t = nat_lt q.number t.number

-- of those that have to cross dimension d the place of the lowest number; of two of one number, of the first
abbrev pub lowest_place : ℕ → List Ticket → Option ℕ
lowest_place d [] = None
lowest_place d (t ∷ ts) =
    if has_to_go d t && not (is_lower_one (element_at ts (lowest_place d ts)) t) then Some 0
    else one_behind (lowest_place d ts)

-- nobody, or a ticket whose number is lower than that of this one
abbrev pub is_lower_or_none : Option Ticket → Ticket → Bool
is_lower_or_none None t = true
is_lower_or_none (Some q) t = nat_lt q.number t.number

-- the place of the highest number; of two of one number, of the last
abbrev pub highest_place : List Ticket → Option ℕ
highest_place [] = None
highest_place (t ∷ ts) =
    if is_lower_or_none (element_at ts (highest_place ts)) t then Some 0 else one_behind (highest_place ts)

-- the place of the highest number, where there are as many as there is room for, else none
abbrev pub highest_of_full : ℕ → List Ticket → Option ℕ
highest_of_full room ts = if length ts == room then highest_place ts else None

-- the place of who leaves in dimension d: in the order of arrival the first that has to cross it, else at a full chip
-- the last; by number the lowest that has to, else at a full chip the highest
abbrev pub place_by : Order → ℕ → ℕ → List Ticket → Option ℕ
place_by Arrival room d ts = place_of_leaver (has_to_go d) room ts
place_by Number room d ts = option_or (lowest_place d ts) (highest_of_full room ts)

-- who stays then
abbrev pub staying_by : Order → ℕ → ℕ → List Ticket → List Ticket
staying_by order room d ts = without ts (place_by order room d ts)

-- the ticket that goes across dimension d then
abbrev pub going_by : Order → ℕ → ℕ → List Ticket → Option Ticket
going_by order room d ts = option_map (ticket_across d) (element_at ts (place_by order room d ts))

-- a queue after dimension d then, where this other one stands across it
abbrev pub exchanged_by : Order → ℕ → ℕ → List Ticket → List Ticket → List Ticket
exchanged_by order room d here there = staying_by order room d here ++ option_to_list (going_by order room d there)

-- a queue after dimension d, where lower numbers go first and this other queue stands across it
abbrev pub exchanged_by_number : ℕ → ℕ → List Ticket → List Ticket → List Ticket
exchanged_by_number room d here there = exchanged_by Number room d here there

-- ---- in slots

-- the number that stands in a slot, with its place
abbrev pub mark_of : ℕ → ℕ → ℕ
mark_of place slot = slot % 65536 * 16 + place

-- what slots are ordered by: who has to cross dimension d from the lowest number on, behind them the others from the
-- highest number on
abbrev pub slot_key : ℕ → ℕ → ℕ → ℕ
slot_key d place slot = if crosses d slot then mark_of place slot else 2097151 - mark_of place slot

-- the place that a key tells, where the last slot holds this: of a chip that is not full nobody leaves who has not to
abbrev pub place_found : ℕ → ℕ → ℕ
place_found key last = if nat_lt key 1048576 then key % 16 else if last == 0 then 15 else 15 - key % 16

-- the least key of so many slots and one
pub record IsLeast (d count : ℕ) (slots : ℕ → ℕ) (least : ℕ) : Type 0 where
  pub at : ℕ
  pub there : at ≤ count
  pub is : least ≡ slot_key d at (slots at)
  pub all : (j : ℕ) → j ≤ count → least ≤ slot_key d j (slots j)

-- the place of who leaves so many slots and one
pub record IsFound (d count : ℕ) (slots : ℕ → ℕ) (place : ℕ) : Type 0 where
  pub key : ℕ
  pub least : IsLeast d count slots key
  pub found : place ≡ place_found key (slots count)
