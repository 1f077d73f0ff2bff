use Rattle.std.proofs.Common.{◌≡◌, ◌∙◌, ℕ, Bool, Option, set, max, ap}
use Rattle.lab_load.specs.declared.sources.Source.{Source}
use Rattle.lab_load.specs.Offers.{offers}
use Rattle.lab_load.specs.Asking.{source_at, with_offer, source_asked, chips_asked, offer_asked, asking_after_place}
use Rattle.lab_load.proofs.asking.ask_at.Goals as goal

pub returns-clause-value : goal.returns-clause-value
unfolding asking_after_place
returns-clause-value c =
    let chips = c.args.run.now in
    let source : Source = with_offer (offers c.args.load.now c.args.t c.args.place)
    (source_at c.args.sources.now c.args.place) in
    let now : c.with_offer-source.result ≡ source =
    c.with_offer-source.ensures.value
    ∙ ap (λ (b : Bool). with_offer b (source_at c.args.sources.now c.args.place)) c.offers-offered.ensures.value in
    let offer : Option ℕ = offer_asked c.args.load.now c.args.t c.args.place chips source in
    let asks : c.offer_asked-offer.result ≡ offer =
    c.offer_asked-offer.ensures.value
    ∙ ap (λ (s : Source). offer_asked c.args.load.now c.args.t c.args.place chips s) now in
    let run : c.ask_for.new.run ≡ chips_asked c.args.load.now c.args.place offer chips =
    c.ask_for.ensures.value ∙ ap (λ (o : Option ℕ). chips_asked c.args.load.now c.args.place o chips) asks in
    let next : c.asked-next.result ≡ source_asked offer source =
    c.asked-next.ensures.value ∙ (λ i. source_asked (asks i) (now i)) in
    λ deepest i. record {
      chips = run i;
      sources = set c.args.sources.now c.args.place (next i);
      deepest = max deepest (next i).waiting;
    }
