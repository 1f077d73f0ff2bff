use Rattle.std.proofs.Common.{◌≡◌, ◌/◌, ◌%◌, ◌∙◌, sym, arith, ap, ℕ, Option, unwrap_or}
use Rattle.std.specs.List.{list_any}
use Rattle.cm_slots.specs.Slots.{is_arrival}
use Rattle.cm_slots.specs.Tiles.{numbers_standing_at}
use Rattle.cm_slots.specs.Runs.{tile_at}
use Rattle.cm_slots.proofs.Arriving.{tests_at}
use Rattle.cm_slots.proofs.arrivals.Arrivals.look.Goals as goal

pub returns-then-ne-clause-value : goal.returns-then-ne-clause-value
returns-then-ne-clause-value c = λ from count was k on below is.
    let there : c.args.tile ≡ k / 64 = ap (λ (o : Option ℕ). unwrap_or o 0) is in
    c.arrivals-self.ensures.value (k % 64) (omega arith)
    ∙ ap (λ (t : ℕ). list_any is_arrival (numbers_standing_at (tile_at c.args.tiles.now t) (k % 64))) there
    ∙ sym (tests_at c.args.tiles.now k (omega (arith, there, c.requires.tile)) c.requires.whole)
