-- What the lanes of a row tell as the bits of a number.
use Rattle.std.proofs.Common.{◌≡◌, Bool, ℕ, ◌+◌, ◌-◌, ◌/◌, ◌≤◌, ◌%◌, ◌^◌, ◌<◌, ◌==◌, ◌&&◌, not, true, false, cond, ltb, eqb, List, [], ◌∷◌}
use Rattle.std.proofs.Common.{length, map, replicate, get_or, bit_and, refl, ap, ap₂, ◌∙◌, arith, slice_index, sym, ⊎_elim, w64}
use Rattle.std.proofs.lemmas.List.{length-map, get_or-map}
use Rattle.std.proofs.lemmas.Bool.{cases_lt}
use Rattle.std.proofs.lemmas.Nat.{shr-shr, shr_le}
use Rattle.std.proofs.lemmas.Nat.Bits.{bit_at-trailing_zeros, bit_at_above}
use Rattle.std.specs.Int.{trailing_zeros}
use Rattle.cm_model.proofs.Bits.{bit-zero}
use Rattle.std.proofs.lemmas.Simd.{zip2_splat, map-map, mask_l-mod, bit_mask_l}
use lib.Lanes.{zip2, mask_l, top}
use Rattle.cm_bits.specs.Bit.{bit}
use Rattle.cm_slots.specs.Slots.{is_arrival}
use Rattle.cm_slots.specs.Arrivals.{AreLanesFrom}

-- a lane in which all bits are 1, or none
abbrev lane : Bool → ℕ
lane b = cond b 4294967295 0

-- whether a number is not 0, and whether it is below another
abbrev is_other : ℕ → ℕ → ℕ
is_other a b = lane (not (eqb a b))

abbrev is_below : ℕ → ℕ → ℕ
is_below a b = lane (ltb a b)

both : (f g : ℕ → ℕ) (xs : List ℕ) → zip2 bit_and (map f xs) (map g xs) ≡ map (λ x. bit_and (f x) (g x)) xs
both f g [] = refl
both f g (x ∷ xs) = ap (λ l. bit_and (f x) (g x) ∷ l) (both f g xs)

-- the highest bit tells whether both are
highest : (a b : Bool) → top 31 (bit_and (lane a) (lane b)) ≡ (a && b)
highest true true = refl
highest true false = refl
highest false true = refl
highest false false = refl

tests : (row : List ℕ) → map (λ slot. top 31 (bit_and (is_other slot 0) (is_below slot 65536))) row ≡ map is_arrival row
tests [] = refl
tests (slot ∷ row) = ap₂ (λ b l. b ∷ l) (highest (not (eqb slot 0)) (ltb slot 65536)) (tests row)

found : (b : Bool) → (cond b 1 0 == 1) ≡ b
found true = refl
found false = refl

pub arrivals_found : (row : List ℕ) → length row ≡ 64 → (i : ℕ) → i < 64
    → bit (mask_l (map (top 31) (zip2 bit_and (zip2 is_other row (replicate 64 0)) (zip2 is_below row (replicate 64 65536))))
    % 2 ^ 64) i ≡ is_arrival (slice_index row i)
arrivals_found row long i inside =
    let lanes : zip2 bit_and (zip2 is_other row (replicate 64 0)) (zip2 is_below row (replicate 64 65536))
    ≡ map (λ slot. bit_and (is_other slot 0) (is_below slot 65536)) row =
    ap₂ (zip2 bit_and) (zip2_splat is_other row 64 0 long) (zip2_splat is_below row 64 65536 long)
    ∙ both (λ slot. is_other slot 0) (λ slot. is_below slot 65536) row in
    ap (λ l. bit (mask_l (map (top 31) l) % 2 ^ 64) i) lanes
    ∙ ap (λ l. bit (mask_l l % 2 ^ 64) i)
    (map-map (top 31) (λ slot. bit_and (is_other slot 0) (is_below slot 65536)) row ∙ tests row)
    ∙ ap (λ n. bit n i) (mask_l-mod (map is_arrival row) 64 (omega (arith, length-map row is_arrival, long)))
    ∙ ap (λ n. n == 1) (bit_mask_l (map is_arrival row) i)
    ∙ found (get_or (map is_arrival row) i false)
    ∙ get_or-map is_arrival row i 0 false (omega (arith, long))

-- ---- the lowest from a place on

-- a bit of a number without its lowest bits is a higher bit of the number
higher_bit : (lanes from i : ℕ) → bit (lanes / 2 ^ from) i ≡ bit lanes (from + i)
higher_bit lanes from i = ap (λ n. n % 2 == 1) (shr-shr lanes from i)

pub none_left : (lanes from : ℕ) → lanes / 2 ^ from ≡ 0 → (i : ℕ) → from ≤ i → bit lanes i ≡ false
none_left lanes from none i behind =
    let there : from + (i - from) ≡ i = omega arith in
    ap (bit lanes) (sym there) ∙ sym (higher_bit lanes from (i - from)) ∙ ap (λ n. bit n (i - from)) none
    ∙ bit-zero (i - from)

pub lowest_lane : (lanes from : ℕ) → lanes < 2 ^ 64 → 0 < lanes / 2 ^ from
    → AreLanesFrom lanes from (from + trailing_zeros w64 (lanes / 2 ^ from))
lowest_lane lanes from fits some =
    let left : ℕ = lanes / 2 ^ from in
    let lowest = bit_at-trailing_zeros w64 left some (omega (arith, shr_le lanes from)) in
    let t : ℕ = trailing_zeros w64 left in
    let here : bit lanes (from + t) ≡ true = sym (higher_bit lanes from t) ∙ ap (λ n. n == 1) lowest.1 in
    record {
      behind = omega arith;
      below = ⊎_elim (λ (l : from + t < 64). l)
          (λ (l : 64 ≤ from + t). absurd (grind (arith, here, bit_at_above lanes 64 (from + t) fits l)))
          (cases_lt (from + t) 64);
      here = here;
      none = λ i on before.
          let there : from + (i - from) ≡ i = omega arith in
          ap (bit lanes) (sym there) ∙ sym (higher_bit lanes from (i - from))
          ∙ ap (λ n. n == 1) (lowest.2 (i - from) (omega arith));
    }
