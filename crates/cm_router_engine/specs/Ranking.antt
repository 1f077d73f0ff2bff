-- Tickets whose messages move in the row. Ours.
use Rattle.std.specs.Prelude.{◌≡◌, ℕ, ◌<◌, List, length, slice_index, slice_index_or}
use Rattle.cm_model.specs.declared.message.Message.{Message}
use Rattle.cm_slots.specs.declared.ticket.Ticket.{Ticket}
use Rattle.cm_router_engine.specs.Standing.{no_message}

-- each message of the row stands in the second row, at the place that is written down at its number
pub record HaveMoved (row spare : List Message) (moved : List ℕ) : Type 0 where
  pub long : length moved ≡ length row
  pub there : (n : ℕ) → n < length row → slice_index moved n < length spare
  pub same : (n : ℕ) → n < length row
      → slice_index_or spare (slice_index moved n) no_message ≡ slice_index_or row n no_message

-- a ticket whose message has gone to the place that is written down at its number
abbrev pub moved_ticket : List ℕ → Ticket → Ticket
moved_ticket moved t = record t { number = slice_index moved t.number }
