use Rattle.std.proofs.Common.{◌≡◌, ◌≢◌, ℕ}
use Rattle.cm_slots.specs.Tiles.{slots_of, IsShaped}
use Rattle.cm_slots.proofs.Changing.{IsClosing}
use Rattle.cm_slots.proofs.tile.Tile.remove.Given as goal

abbrev pub invariant-loop-later : goal.invariant-loop-later
invariant-loop-later l = record {
  shape : IsShaped l.self;
  closing : IsClosing l.slot l.later (slots_of l.initial.self l.place) (slots_of l.self l.place);
  others : (i j : ℕ) → i ≢ l.place → slots_of l.self i j ≡ slots_of l.initial.self i j;
}
