use Rattle.std.proofs.Common.{◌≡◌, ◌<◌, ℕ, false}
use Rattle.cm_slots.specs.Slots.{is_arrival}
use Rattle.cm_slots.specs.Tiles.{slots_of}
use Rattle.cm_slots.specs.Runs.{tile_at}
use Rattle.cm_slots.specs.Moves.{slot_over}
use Rattle.cm_slots.proofs.moving.have_arrival_over.Given as goal

abbrev pub invariant-loop-tile : goal.invariant-loop-tile
invariant-loop-tile l = (t i : ℕ) → t < l.tile-index → i < 64
    → is_arrival (slot_over l.dims (slots_of (tile_at l.tiles t) i 0)) ≡ false
