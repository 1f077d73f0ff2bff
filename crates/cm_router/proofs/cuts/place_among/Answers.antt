use Rattle.std.proofs.Common.{◌≡◌, ℕ, ◌-◌, ◌<◌, length, get_or, sym, ap, ◌∙◌, arith}
use Rattle.std.proofs.lemmas.List.{get_or_default}
use Rattle.cm_bits.specs.Wire.{Wire}
use Rattle.cm_model.specs.Wiring.{wire_before}
use Rattle.cm_router.proofs.Cutting.{put_there}
use Rattle.cm_router.proofs.cuts.place_among.Goals as goal

pub returns-else-not-stands_before-clause-value : goal.returns-else-not-stands_before-clause-value
returns-else-not-stands_before-clause-value c =
    let edges = c.args.edges.now in
    let edge = c.args.edge in
    let place = c.loop-place.place in
    put_there edge edges place c.loop-place.invariant.within c.requires.rising
    (λ j e.
    let one : place - 1 ≡ j = omega (arith, e) in
    let inside : j < length edges = omega (arith, e, c.loop-place.invariant.within) in
    let there : c.index-edges-place.result ≡ get_or edges j edge =
    c.index-edges-place.is
    ∙ (ap (λ (k : ℕ). get_or edges k c.index-edges-place.result) one ∙ get_or_default edges j c.index-edges-place.result edge inside) in
    sym (ap (λ (w : Wire). wire_before w edge) there) ∙ (sym c.stands_before.ensures.value ∙ c.if-not-stands_before.false))
    c.loop-place.invariant.behind
