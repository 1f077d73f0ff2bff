use Rattle.std.proofs.Common.{◌≡◌, ℕ, ◌^◌, length, refl, sym, ap, ◌∙◌, arith, add-one}
use Rattle.cm_model.specs.Array.{nth_or_nil}
use Rattle.cm_model.specs.Wiring.{way_of}
use Rattle.cm_router.specs.Routes.{routing_of}
use Rattle.lab_counts.specs.Chips.{chips_to}
use Rattle.lab_counts.specs.Crossings.{crossings_added, crossings_at, crossings_to, with_crossings}
use Rattle.lab_counts.proofs.crossings.crossings_over.Goals as goal

pub loop-chip-init : goal.loop-chip-init
unfolding crossings_to chips_to
loop-chip-init c = record { together = refl; chips = refl }

pub loop-chip-preserved : goal.loop-chip-preserved
unfolding crossings_to chips_to
loop-chip-preserved c =
    let routing = routing_of c.args.routing.now in
    let room : ℕ = c.args.sizes.room in
    let d : ℕ = c.args.dim in
    let chip : ℕ = c.loop-chip.chip in
    let buffers = c.args.crossing.now.buffers in
    let here : c.buffer-here.result.now ≡ nth_or_nil buffers chip =
    c.buffer-here.ensures.value ∙ (λ i. nth_or_nil (c.gather.ensures.value i) (c.from-at.ensures i)) in
    let at : c.crossings_at-more.result ≡ crossings_at (way_of routing chip d) room d (nth_or_nil buffers chip) =
    c.crossings_at-more.ensures.value
    ∙ (λ i. crossings_at (record { cut = c.has-cut.ensures.value i; rule = c.args.routing.now.rule }) room d (here i)) in
    record {
      together = c.added-all.ensures.value
          ∙ ((λ i. crossings_added (c.loop-chip.invariant.together i) (at i))
          ∙ ap (λ (k : ℕ). crossings_to routing room d buffers k) (sym (add-one chip)));
      chips = c.add_at.ensures.value
          ∙ ((λ i. with_crossings (c.loop-chip.invariant.chips i) (c.from-at.ensures i) (at i))
          ∙ ap (λ (k : ℕ). chips_to routing room d buffers c.args.by_chip.now k) (sym (add-one chip)));
    }

pub returns-clause-value : goal.returns-clause-value
returns-clause-value c =
    let chips : c.chips-chips.result ≡ 2 ^ c.args.sizes.dims =
    c.chips-chips.ensures.value ∙ (ap length c.gather.ensures.value ∙ c.requires.count) in
    let all : c.loop-chip.chip ≡ 2 ^ c.args.sizes.dims = omega (arith, chips) in
    rw all at c.loop-chip.invariant.together

pub returns-clause-chips : goal.returns-clause-chips
returns-clause-chips c =
    let chips : c.chips-chips.result ≡ 2 ^ c.args.sizes.dims =
    c.chips-chips.ensures.value ∙ (ap length c.gather.ensures.value ∙ c.requires.count) in
    let all : c.loop-chip.chip ≡ 2 ^ c.args.sizes.dims = omega (arith, chips) in
    rw all at c.loop-chip.invariant.chips
