use Rattle.std.proofs.Common.{◌≡◌, ◌∙◌, ℕ, refl, ap, arith}
use Rattle.lab_load.specs.Offers.{places}
use Rattle.lab_load.specs.Asking.{Asking, asking_after_place, asking_after_places}
use Rattle.lab_load.proofs.Poking.{asking_after_places-more}
use Rattle.lab_load.proofs.asking.ask_all.Goals as goal

pub loop-place-init : goal.loop-place-init
unfolding asking_after_places
loop-place-init c = record { value = refl; chips = refl }

pub loop-place-preserved : goal.loop-place-preserved
loop-place-preserved c =
    let first : Asking =
    record { chips = c.args.run.now; sources = c.args.sources.now; deepest = c.args.deepest.now } in
    record {
      value = (λ i. record {
        chips = c.ask_at-waiting.new.run;
        sources = c.ask_at-waiting.new.sources;
        deepest = c.max.ensures i;
      })
          ∙ (c.ask_at-waiting.ensures.value c.loop-place.deepest
          ∙ (ap (λ (a : Asking). asking_after_place c.args.load.now c.args.t a c.loop-place.place)
          c.loop-place.invariant.value
          ∙ asking_after_places-more c.args.load.now c.args.t first c.loop-place.place));
      chips = c.ask_at-waiting.ensures.chips ∙ c.loop-place.invariant.chips;
    }

pub returns-clause-value : goal.returns-clause-value
returns-clause-value c =
    let first : Asking =
    record { chips = c.args.run.now; sources = c.args.sources.now; deepest = c.args.deepest.now } in
    let all : c.loop-place.place ≡ places c.args.load.now.dims = omega arith in
    c.loop-place.invariant.value ∙ ap (λ (k : ℕ). asking_after_places c.args.load.now c.args.t first k) all
