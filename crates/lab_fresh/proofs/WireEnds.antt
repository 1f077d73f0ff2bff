-- The wire of an end, and the wires of many ends, one after another.
use Rattle.std.proofs.Common.{◌≡◌, ℕ, zero, suc, ◌*◌, ◌<◌, ◌^◌, ◌==◌, not, Bool, true, false, Some, None, List, [], ◌∷◌, length}
use Rattle.std.proofs.Common.{get_or, take, min, cond, nat_lt, bit_and, bit_xor, refl, ap, ◌∙◌, ⊎_elim, arith}
use Rattle.std.specs.Int.{bit_at}
use Rattle.std.specs.Int.Bits.{xor_disjoint}
use Rattle.std.specs.List.{find}
use Rattle.std.proofs.lemmas.Bool.{cases_Bool, and_parts, ltb-true}
use Rattle.std.proofs.lemmas.Nat.Bits.{bit_at-pow_same, bit_at-lt, and_pow}
use Rattle.cm_bits.specs.Bit.{bit, differ}
use Rattle.cm_bits.specs.Wire.{Wire, IsWire}
use Rattle.cm_model.specs.Wiring.{wire_of}
use Rattle.cm_model.proofs.Bits.{bit-bit_xor}
use Rattle.cm_model.proofs.Flips.{xor_twice}
use Rattle.cm_router.specs.Cuts.{with_wire}
use Rattle.lab_fresh.specs.declared.blanks.WireEnd.{WireEnd}
use Rattle.lab_fresh.specs.Fresh.{is_end, is_stray, wires_with}

-- ---- one end

zero_bit : (b : ℕ) → b < 2 → (b == 1) ≡ false → b ≡ 0
zero_bit zero small none = refl
zero_bit (suc zero) small none = absurd (cc)
zero_bit (suc (suc b)) small none = absurd (omega (arith, small))

-- the lower end of a wire is the lesser of both
lower_is_least : (c d : ℕ) → bit c d ≡ false → min c (bit_xor c (2 ^ d)) ≡ c
lower_is_least c d e =
    let none : bit_at c d ≡ 0 = zero_bit (bit_at c d) (bit_at-lt c d) e in
    let apart : bit_and c (2 ^ d) ≡ 0 = omega (arith, and_pow c d, ap (λ (k : ℕ). k * 2 ^ d) none) in
    omega (arith, xor_disjoint c (2 ^ d) apart)

other_bit : (c d : ℕ) → bit c d ≡ true → bit (bit_xor c (2 ^ d)) d ≡ false
other_bit c d e =
    bit-bit_xor c (2 ^ d) d ∙ (λ i. differ (e i) (bit_at-pow_same d i == 1))

least_is_lower : (c d : ℕ) → bit (min c (bit_xor c (2 ^ d))) d ≡ false
least_is_lower c d =
    ⊎_elim
    (λ (e : bit c d ≡ true).
    let other : ℕ = bit_xor c (2 ^ d) in
    let lower : bit other d ≡ false = other_bit c d e in
    let least : min other (bit_xor other (2 ^ d)) ≡ other = lower_is_least other d lower in
    let back : bit_xor other (2 ^ d) ≡ c = xor_twice c (2 ^ d) in
    let is : min c other ≡ other = omega (arith, least, back) in
    ap (λ (x : ℕ). bit x d) is ∙ lower)
    (λ (e : bit c d ≡ false). ap (λ (x : ℕ). bit x d) (lower_is_least c d e) ∙ e)
    (cases_Bool (bit c d))

pub ends_are_wires : (c d : ℕ) → c < 4096 → d < 12 → IsWire (record { chip = min c (bit_xor c (2 ^ d)); dim = d })
ends_are_wires c d chip dim = record { dim = dim; chip = omega (arith, chip); lower = least_is_lower c d }

-- ---- many

-- the wires with one end more are those with the ends before it, and the wire of that end: a turn of the loop of `cut`
pub wires_more : (ends : List WireEnd) (wires : List Wire) (i : ℕ) (d : WireEnd) → i < length ends
    → wires_with wires (take (suc i) ends)
    ≡ with_wire (wire_of (get_or ends i d).chip (get_or ends i d).dim) (wires_with wires (take i ends))
wires_more [] wires i d h = absurd (omega (arith, h))
wires_more (x ∷ xs) wires zero d h = refl
wires_more (x ∷ xs) wires (suc i) d h =
    wires_more xs (with_wire (wire_of x.chip x.dim) wires) i d (omega (arith, h))

-- ---- ends that are in range

pub end_parts : (n : ℕ) (e : WireEnd) → is_end n e ≡ true → (e.chip < 2 ^ n) × (e.dim < n)
end_parts n e h =
    let parts = and_parts (nat_lt e.chip (2 ^ n)) (nat_lt e.dim n) h in
    (ltb-true e.chip (2 ^ n) parts.0, ltb-true e.dim n parts.1)

found : (n : ℕ) (x : WireEnd) (xs : List WireEnd) (b : Bool) → is_end n x ≡ b
    → cond (not b) (Some x) (find (is_stray n) xs) ≡ None → (b ≡ true) × (find (is_stray n) xs ≡ None)
found n x xs true e h = (refl, h)
found n x xs false e h = absurd (cc)

pub none_stray : (n : ℕ) (ends : List WireEnd) → find (is_stray n) ends ≡ None
    → (k : ℕ) (d : WireEnd) → k < length ends → is_end n (get_or ends k d) ≡ true
none_stray n [] h k d l = absurd (omega (arith, l))
none_stray n (x ∷ xs) h zero d l = (found n x xs (is_end n x) refl h).0
none_stray n (x ∷ xs) h (suc k) d l =
    none_stray n xs (found n x xs (is_end n x) refl h).1 k d (omega (arith, l))
