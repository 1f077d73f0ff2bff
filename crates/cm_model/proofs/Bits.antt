-- The bits of a plane under the operations of the code, and truth values that are chosen by exclusive or.
use Rattle.std.proofs.Common.{◌≡◌, ℕ, ◌+◌, ◌-◌, ◌/◌, ◌%◌, ◌^◌, ◌<◌, zero, suc, min, max, Bool, true, false, not, cond}
use Rattle.std.proofs.Common.{◌&&◌, ◌||◌, ◌==◌, refl, ap, ◌∙◌, sym, arith, bit_and, bit_or, bit_xor, w16}
use Rattle.std.specs.Bool.{beq}
use Rattle.std.specs.Int.{bit_at, bit_not}
use Rattle.std.proofs.lemmas.Nat.Bits.{bit_at_and, bit_at_or, bit_at_xor, bit_at_not}
use Rattle.std.proofs.lemmas.Nat.Bits.{bit_at-lt, bit_at-zero, bit_at_cat_low}
use Rattle.std.proofs.lemmas.Nat.{shr_split}
use Rattle.cm_bits.specs.Bit.{bit, differ}

-- ---- one bit, as a number below 2

and_of : (u v : ℕ) → u < 2 → v < 2 → (min u v == 1) ≡ (u == 1) && (v == 1)
and_of zero zero _ _ = refl
and_of zero (suc zero) _ _ = refl
and_of (suc zero) zero _ _ = refl
and_of (suc zero) (suc zero) _ _ = refl
and_of zero (suc (suc v)) _ h = absurd (omega arith)
and_of (suc zero) (suc (suc v)) _ h = absurd (omega arith)
and_of (suc (suc u)) v h _ = absurd (omega arith)

or_of : (u v : ℕ) → u < 2 → v < 2 → (max u v == 1) ≡ (u == 1) || (v == 1)
or_of zero zero _ _ = refl
or_of zero (suc zero) _ _ = refl
or_of (suc zero) zero _ _ = refl
or_of (suc zero) (suc zero) _ _ = refl
or_of zero (suc (suc v)) _ h = absurd (omega arith)
or_of (suc zero) (suc (suc v)) _ h = absurd (omega arith)
or_of (suc (suc u)) v h _ = absurd (omega arith)

xor_of : (u v : ℕ) → u < 2 → v < 2 → ((u + v) % 2 == 1) ≡ differ (u == 1) (v == 1)
xor_of zero zero _ _ = refl
xor_of zero (suc zero) _ _ = refl
xor_of (suc zero) zero _ _ = refl
xor_of (suc zero) (suc zero) _ _ = refl
xor_of zero (suc (suc v)) _ h = absurd (omega arith)
xor_of (suc zero) (suc (suc v)) _ h = absurd (omega arith)
xor_of (suc (suc u)) v h _ = absurd (omega arith)

not_of : (u : ℕ) → u < 2 → (1 - u == 1) ≡ not (u == 1)
not_of zero _ = refl
not_of (suc zero) _ = refl
not_of (suc (suc u)) h = absurd (omega arith)

-- ---- the bits of a word

pub bit-bit_and : (x y i : ℕ) → bit (bit_and x y) i ≡ bit x i && bit y i
bit-bit_and x y i = ap (λ (n : ℕ). n == 1) (bit_at_and x y i)
    ∙ and_of (bit_at x i) (bit_at y i) (bit_at-lt x i) (bit_at-lt y i)

pub bit-bit_or : (x y i : ℕ) → bit (bit_or x y) i ≡ bit x i || bit y i
bit-bit_or x y i = ap (λ (n : ℕ). n == 1) (bit_at_or x y i)
    ∙ or_of (bit_at x i) (bit_at y i) (bit_at-lt x i) (bit_at-lt y i)

pub bit-bit_xor : (x y i : ℕ) → bit (bit_xor x y) i ≡ differ (bit x i) (bit y i)
bit-bit_xor x y i = ap (λ (n : ℕ). n == 1) (bit_at_xor x y i)
    ∙ xor_of (bit_at x i) (bit_at y i) (bit_at-lt x i) (bit_at-lt y i)

pub bit-bit_not : (x i : ℕ) → x < 2 ^ 16 → i < 16 → bit (bit_not w16 x) i ≡ not (bit x i)
bit-bit_not x i fits h = ap (λ (n : ℕ). n == 1) (bit_at_not w16 x i fits h) ∙ not_of (bit_at x i) (bit_at-lt x i)

pub bit-zero : (i : ℕ) → bit 0 i ≡ false
bit-zero i = ap (λ (n : ℕ). n == 1) (bit_at-zero i)

-- the low bits stay when the others are cut off
pub bit_at-cut : (x w i : ℕ) → i < w → bit_at (x % 2 ^ w) i ≡ bit_at x i
bit_at-cut x w i h = sym (bit_at_cat_low (x / 2 ^ w) w (x % 2 ^ w) i h) ∙ ap (λ (n : ℕ). bit_at n i) (shr_split x w)

-- ---- a choice by exclusive or

pub differ-false : (x : Bool) → differ x false ≡ x
differ-false true = refl
differ-false false = refl

-- where it is chosen, the other one stands
pub differ_chosen : (c x y : Bool) → differ x (c && differ x y) ≡ cond c y x
differ_chosen false x y = differ-false x
differ_chosen true true true = refl
differ_chosen true true false = refl
differ_chosen true false true = refl
differ_chosen true false false = refl

-- the difference of two differences
pub differ_crossed : (c w x y z : Bool)
    → differ (differ w y) (c && differ (differ w x) (differ y z)) ≡ cond c (differ x z) (differ w y)
differ_crossed false w x y z = differ-false (differ w y)
differ_crossed true true true true true = refl
differ_crossed true true true true false = refl
differ_crossed true true true false true = refl
differ_crossed true true true false false = refl
differ_crossed true true false true true = refl
differ_crossed true true false true false = refl
differ_crossed true true false false true = refl
differ_crossed true true false false false = refl
differ_crossed true false true true true = refl
differ_crossed true false true true false = refl
differ_crossed true false true false true = refl
differ_crossed true false true false false = refl
differ_crossed true false false true true = refl
differ_crossed true false false true false = refl
differ_crossed true false false false true = refl
differ_crossed true false false false false = refl

-- what is the same as 0 is not 1
pub beq-false : (x : Bool) → beq x false ≡ not x
beq-false true = refl
beq-false false = refl
