use Rattle.std.proofs.Common.{◌+◌, sym, ◌∙◌, arith}
use Rattle.lab_load.specs.Offers.{offers}
use Rattle.lab_load.specs.Asking.{first_offer}
use Rattle.lab_load.proofs.Finding.{found_at, found_past, none_found}
use Rattle.lab_load.proofs.sources.Source.first_offer.Goals as goal

pub returns-then-offers-clause-value : goal.returns-then-offers-clause-value
unfolding first_offer
returns-then-offers-clause-value c =
    sym (c.loop-s.invariant
    ∙ found_at (λ s. offers c.args.load.now s c.args.place) c.loop-s.s (c.args.t + 1) (omega arith)
    (sym c.offers.ensures.value ∙ c.if-offers.true))

pub loop-s-preserved : goal.loop-s-preserved
loop-s-preserved c =
    c.loop-s.invariant
    ∙ found_past (λ s. offers c.args.load.now s c.args.place) c.loop-s.s (c.args.t + 1) (omega arith)
    (sym c.offers.ensures.value ∙ c.if-offers.false)

pub returns-clause-value : goal.returns-clause-value
unfolding first_offer
returns-clause-value c =
    sym (c.loop-s.invariant
    ∙ none_found (λ s. offers c.args.load.now s c.args.place) c.loop-s.s (c.args.t + 1) (omega arith))
