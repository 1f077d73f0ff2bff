-- What the lanes of sixteen planes give of one processor, and what sixteen bits give its lanes.
use Rattle.std.proofs.Common.{◌≡◌, ℕ, zero, suc, ◌+◌, ◌*◌, ◌^◌, ◌%◌, ◌<◌, Bool, true, false, cond, eqb, List, [], ◌∷◌}
use Rattle.std.proofs.Common.{◌==◌, ◌&&◌, map, length, replicate, get_or, bit_and, w16, refl, sym, ap, ◌∙◌, arith}
use Rattle.std.proofs.Math.Bool.{and-true, and-false}
use Rattle.std.proofs.lemmas.Bool.{eq-eqb, ne_eqb}
use Rattle.std.proofs.lemmas.List.{length-map}
use Rattle.std.proofs.lemmas.Nat.{pow_pos}
use Rattle.std.proofs.lemmas.Nat.Bits.{and_pow, bit_at-lt}
use Rattle.std.proofs.lemmas.Simd.{zip2_splat, map-map, bitmask_splat}
use Rattle.std.specs.Int.{bit_at}
use Rattle.std.specs.List.{range_with_len}
use lib.Lanes.{zip2, mask_l, sel_l, top}
use Rattle.cm_bits.specs.Bit.{bit}
use Rattle.cm_model.specs.Processor.{value}
use Rattle.cm_model.proofs.Bits.{bit-zero}
use Rattle.cm_element.proofs.Poking.{bit-one_here}

-- one bit for each lane is the number of these bits
mask_l-is : (bits : List Bool) → mask_l bits ≡ value bits
mask_l-is [] = refl
mask_l-is (true ∷ bits) = ap (λ (n : ℕ). 1 + 2 * n) (mask_l-is bits)
mask_l-is (false ∷ bits) = ap (λ (n : ℕ). 0 + 2 * n) (mask_l-is bits)

bit_is : (n m : ℕ) → n < 2 → 0 < m → eqb (n * m) m ≡ eqb n 1
bit_is zero m few some = let none : 0 * m ≡ 0 = omega arith in ap (λ k. eqb k m) none ∙ ne_eqb 0 m (omega arith)
bit_is (suc zero) m few some = eq-eqb (1 * m) m (omega arith)
bit_is (suc (suc n)) m few some = absurd (omega arith)

-- the test of a lane finds the processor's bit
test_is_bit : (p plane : ℕ) → eqb (bit_and plane (2 ^ p)) (2 ^ p) ≡ bit plane p
test_is_bit p plane = ap (λ y. eqb y (2 ^ p)) (and_pow plane p)
    ∙ bit_is (bit_at plane p) (2 ^ p) (bit_at-lt plane p) (pow_pos p)

pub bits_found : (p here : ℕ) (planes : List ℕ) → length planes ≡ 16 → here ≡ 2 ^ p
    → mask_l (map (top 15) (zip2 (λ x y. cond (eqb x y) 65535 0) (zip2 bit_and planes (replicate 16 here))
    (replicate 16 here))) % 2 ^ 64 ≡ value (map (λ plane. bit plane p) planes)
bits_found p here planes long is =
    let lanes : zip2 bit_and planes (replicate 16 here) ≡ map (λ plane. bit_and plane here) planes =
    zip2_splat bit_and planes 16 here long in
    bitmask_splat w16 eqb (zip2 bit_and planes (replicate 16 here)) 16 here
    (omega (arith, ap length lanes, length-map planes (λ plane. bit_and plane here), long)) (omega arith)
    ∙ ap (λ l. mask_l (map (λ x. eqb x here) l)) lanes
    ∙ ap mask_l (map-map (λ x. eqb x here) (λ plane. bit_and plane here) planes)
    ∙ ap (λ h. mask_l (map (λ plane. eqb (bit_and plane h) h) planes)) is
    ∙ (λ i. mask_l (map (λ plane. test_is_bit p plane i) planes))
    ∙ mask_l-is (map (λ plane. bit plane p) planes)

-- ---- a plane for each of sixteen bits

-- the lane of a bit: what stands there if the bit is 1
lane_is : (b : Bool) (here : ℕ) → cond (top 15 (cond b 65535 0)) here 0 ≡ cond b here 0
lane_is true here = refl
lane_is false here = refl

-- the lanes of so many bits, from one on
lane_of : (bits here count first i : ℕ) → i < count
    → get_or (sel_l (map (top 15) (zip2 (λ x y. cond (eqb x y) 65535 0)
    (zip2 bit_and (replicate count bits) (map (λ k. 2 ^ k) (range_with_len first count)))
    (map (λ k. 2 ^ k) (range_with_len first count)))) (replicate count here) (replicate count 0)) i 0
    ≡ cond (bit bits (first + i)) here 0
lane_of bits here zero first i below = absurd (omega arith)
lane_of bits here (suc count) first zero below =
    ap (λ (b : Bool). cond (top 15 (cond b 65535 0)) here 0) (test_is_bit first bits)
    ∙ lane_is (bit bits first) here
    ∙ ap (λ (k : ℕ). cond (bit bits k) here 0) (omega arith)
lane_of bits here (suc count) first (suc i) below =
    lane_of bits here count (first + 1) i (omega arith) ∙ ap (λ (k : ℕ). cond (bit bits k) here 0) (omega arith)

-- the bit stands at processor k alone
pub bit-lane : (bits k i p : ℕ) → i < 16 → k < 16
    → bit (get_or (sel_l (map (top 15) (zip2 (λ x y. cond (eqb x y) 65535 0)
    (zip2 bit_and (replicate 16 bits) (map (λ k. 2 ^ k) (range_with_len 0 16)))
    (map (λ k. 2 ^ k) (range_with_len 0 16)))) (replicate 16 ((1 * 2 ^ k) % 65536)) (replicate 16 0)) i 0) p
    ≡ (p == k) && bit bits i
bit-lane bits k i p below k_below =
    ap (λ (n : ℕ). bit n p)
    (lane_of bits ((1 * 2 ^ k) % 65536) 16 0 i below
    ∙ ap (λ (n : ℕ). cond (bit bits n) ((1 * 2 ^ k) % 65536) 0) (omega arith))
    ∙ stands (bit bits i) where
      stands : (b : Bool) → bit (cond b ((1 * 2 ^ k) % 65536) 0) p ≡ (p == k) && b
      stands true = bit-one_here k p k_below ∙ sym (and-true (p == k))
      stands false = bit-zero p ∙ sym (and-false (p == k))
