use Rattle.std.proofs.Common.{◌<◌, ◌≤◌, ℕ, length}
use Rattle.cm_slots.specs.Tiles.{numbers_standing_at}
use Rattle.cm_slots.specs.Runs.{tile_at}
use Rattle.cm_slots.proofs.ticket_queues.TicketQueues.is_within.Given as goal

abbrev pub invariant-loop-tile : goal.invariant-loop-tile
invariant-loop-tile l =
    (t i : ℕ) → t < l.tile-index → i < 64 → length (numbers_standing_at (tile_at l.tile-items t) i) ≤ l.room
