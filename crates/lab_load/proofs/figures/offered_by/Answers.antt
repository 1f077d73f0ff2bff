use Rattle.std.proofs.Common.{◌≡◌, ℕ, suc, ◌+◌, Bool, refl, ap, ◌∙◌, arith}
use Rattle.cm_bits.specs.Bit.{bit_number}
use Rattle.lab_load.specs.declared.offers.Load.{Load}
use Rattle.lab_load.specs.Offers.{places, offers}
use Rattle.lab_load.specs.Loaded.{offered_by}
use Rattle.lab_load.proofs.figures.offered_by.Goals as goal

one_more : (load : Load) (t k : ℕ) → offered_by load t (k + 1) ≡ offered_by load t k + bit_number (offers load t k)
unfolding offered_by
one_more load t k = let next : k + 1 ≡ suc k = omega arith in ap (λ (j : ℕ). offered_by load t j) next

pub loop-place-init : goal.loop-place-init
unfolding offered_by
loop-place-init c = record { so_far = refl; within = omega arith }

pub loop-place-preserved : goal.loop-place-preserved
loop-place-preserved c =
    let more : c.bit_number-offered.result ≡ bit_number (offers c.args.load.now c.args.t c.loop-place.place) =
    c.bit_number-offered.ensures.value ∙ ap (λ (b : Bool). bit_number b) c.offers.ensures.value in
    record {
      so_far = omega (
        arith,
        c.loop-place.invariant.so_far,
        more,
        one_more c.args.load.now c.args.t c.loop-place.place,
      );
      within = omega (arith, c.loop-place.invariant.within, c.bit_number-offered.ensures.within);
    }

pub returns-clause-value : goal.returns-clause-value
returns-clause-value c =
    let all : c.loop-place.place ≡ places c.args.load.now.dims = omega arith in
    c.loop-place.invariant.so_far ∙ ap (λ (k : ℕ). offered_by c.args.load.now c.args.t k) all
