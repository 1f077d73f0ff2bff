-- A table looked up at one place: the entries' lanes, of which one has the processor.
use Rattle.std.proofs.Common.{◌≡◌, ℕ, ◌+◌, ◌*◌, ◌^◌, ◌<◌, zero, suc, Bool, true, false, cond, ◌&&◌, ◌||◌}
use Rattle.std.proofs.Common.{◌==◌, ap, ◌∙◌, refl, arith, bit_and, bit_or, bit_xor, List, [], ◌∷◌}
use Rattle.std.proofs.lemmas.Nat.{pow_pos}
use Rattle.std.proofs.lemmas.Nat.Bits.{and_pow, bit_at-lt, bit_at_ones}
use Rattle.std.proofs.Math.Bool.{and-true, and-false, or-false}
use Rattle.std.specs.Int.{bit_at}
use lib.Lanes.{fold_l, top}
use Rattle.cm_bits.specs.Bit.{bit, differ}
use Rattle.cm_model.specs.Processor.{entry}
use Rattle.cm_model.proofs.Bits.{bit-bit_and, bit-bit_or, bit-bit_xor, bit-zero}

-- the lane of an entry, whose bit of the table this is: the processors whose bits differ from these three
abbrev lane : (table place x y z a b f : ℕ) → ℕ
lane table place x y z a b f =
    cond (top 15 (cond (bit_and table place == place) 65535 0))
    (bit_and (bit_and (bit_xor a x) (bit_xor b y)) (bit_xor f z)) 0

abbrev pub lanes : (table a b f : ℕ) → List ℕ
lanes table a b f =
    lane table 1 65535 65535 65535 a b f ∷ lane table 2 65535 65535 0 a b f
    ∷ lane table 4 65535 0 65535 a b f ∷ lane table 8 65535 0 0 a b f
    ∷ lane table 16 0 65535 65535 a b f ∷ lane table 32 0 65535 0 a b f
    ∷ lane table 64 0 0 65535 a b f ∷ lane table 128 0 0 0 a b f ∷ []

tested_bit : (u m : ℕ) → u < 2 → 0 < m → (u * m == m) ≡ (u == 1)
tested_bit zero zero _ h = absurd (omega arith)
tested_bit zero (suc m) _ _ = grind arith
tested_bit (suc zero) m _ _ = grind arith
tested_bit (suc (suc u)) m h _ = absurd (omega arith)

tested : (table k : ℕ) → (bit_and table (2 ^ k) == 2 ^ k) ≡ bit table k
tested table k = rw (and_pow table k) (tested_bit (bit_at table k) (2 ^ k) (bit_at-lt table k) (pow_pos k))

kept : (v : Bool) (m p : ℕ) → bit (cond (top 15 (cond v 65535 0)) m 0) p ≡ v && bit m p
kept true m p = refl
kept false m p = bit-zero p

bit-lane : (table k x y z a b f p : ℕ) → bit (lane table (2 ^ k) x y z a b f) p
    ≡ bit table k && ((differ (bit a p) (bit x p) && differ (bit b p) (bit y p)) && differ (bit f p) (bit z p))
bit-lane table k x y z a b f p =
    kept (bit_and table (2 ^ k) == 2 ^ k) (bit_and (bit_and (bit_xor a x) (bit_xor b y)) (bit_xor f z)) p
    ∙ rw (tested table k) (simp (bit-bit_and, bit-bit_xor))

one_of : (table : ℕ) (a b f : Bool)
    → (((((((false || bit table 0 && ((differ a true && differ b true) && differ f true))
    || bit table 1 && ((differ a true && differ b true) && differ f false))
    || bit table 2 && ((differ a true && differ b false) && differ f true))
    || bit table 3 && ((differ a true && differ b false) && differ f false))
    || bit table 4 && ((differ a false && differ b true) && differ f true))
    || bit table 5 && ((differ a false && differ b true) && differ f false))
    || bit table 6 && ((differ a false && differ b false) && differ f true))
    || bit table 7 && ((differ a false && differ b false) && differ f false)
    ≡ entry table a b f
one_of table false false false = simp (and-true, and-false, or-false)
one_of table false false true = simp (and-true, and-false, or-false)
one_of table false true false = simp (and-true, and-false, or-false)
one_of table false true true = simp (and-true, and-false, or-false)
one_of table true false false = simp (and-true, and-false, or-false)
one_of table true false true = simp (and-true, and-false, or-false)
one_of table true true false = simp (and-true, and-false, or-false)
one_of table true true true = simp (and-true, and-false, or-false)

pub looked_up : (table a b f p : ℕ) → p < 16
    → bit (fold_l bit_or 0 (lanes table a b f)) p ≡ entry table (bit a p) (bit b p) (bit f p)
looked_up table a b f p h =
    let ones : bit 65535 p ≡ true = ap (λ (n : ℕ). n == 1) (bit_at_ones 16 p h) in
    simp (
      bit-bit_or,
      bit-lane table 0 65535 65535 65535 a b f p,
      bit-lane table 1 65535 65535 0 a b f p,
      bit-lane table 2 65535 0 65535 a b f p,
      bit-lane table 3 65535 0 0 a b f p,
      bit-lane table 4 0 65535 65535 a b f p,
      bit-lane table 5 0 65535 0 a b f p,
      bit-lane table 6 0 0 65535 a b f p,
      bit-lane table 7 0 0 0 a b f p,
      bit-zero p,
      ones,
    ) (one_of table (bit a p) (bit b p) (bit f p))
