-- Chip numbers across a dimension: a bit flipped twice is as it was.
use Rattle.std.proofs.Common.{◌≡◌, ℕ, ◌<◌, ◌^◌, true, false, eqb, sym, ◌∙◌, ap, ⊎_elim, arith}
use Rattle.std.proofs.lemmas.Bool.{cases_Bool, eqb-true, eqb-false, eq-eqb, ne_eqb}
use Rattle.std.proofs.lemmas.Nat.{xor_lt, pow_below}
use Rattle.std.proofs.lemmas.Nat.Bits.{bit_at_xor, bit_at-lt, same_from_bits}
use Rattle.std.specs.Prelude.{bit_xor}

pub xor_twice : (a b : ℕ) → bit_xor (bit_xor a b) b ≡ a
xor_twice a b = same_from_bits (bit_xor (bit_xor a b) b) a
    (λ i. omega (arith, bit_at_xor (bit_xor a b) b i, bit_at_xor a b i, bit_at-lt a i, bit_at-lt b i))

pub xor_across : (a b x : ℕ) → bit_xor (bit_xor a x) (bit_xor b x) ≡ bit_xor a b
xor_across a b x = same_from_bits (bit_xor (bit_xor a x) (bit_xor b x)) (bit_xor a b)
    (λ i. omega (
      arith,
      bit_at_xor (bit_xor a x) (bit_xor b x) i,
      bit_at_xor a x i,
      bit_at_xor b x i,
      bit_at_xor a b
          i,
      bit_at-lt a i,
      bit_at-lt b i,
      bit_at-lt x i,
    ))

-- the chip across is this one where this one is the chip across
pub across_is : (a b x : ℕ) → eqb (bit_xor a x) b ≡ eqb a (bit_xor b x)
across_is a b x =
    ⊎_elim
    (λ (e : eqb a (bit_xor b x) ≡ true). eq-eqb (bit_xor a x) b (ap (λ z. bit_xor z x) (eqb-true a (bit_xor b x) e)
    ∙ xor_twice b x) ∙ sym e)
    (λ (e : eqb a (bit_xor b x) ≡ false).
    ne_eqb (bit_xor a x) b (λ same. eqb-false a (bit_xor b x) e (sym (xor_twice a x) ∙ ap (λ z. bit_xor z x) same))
    ∙ sym e)
    (cases_Bool (eqb a (bit_xor b x)))

-- the chip across is in the cube
pub across_below : (n d c : ℕ) → d < n → c < 2 ^ n → bit_xor c (2 ^ d) < 2 ^ n
across_below n d c h k = xor_lt n c (2 ^ d) k (pow_below d n h)
