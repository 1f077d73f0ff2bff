-- The bits of words that are shifted and of which some bits are kept, and of four bits that are spread or gathered.
use Rattle.std.proofs.Common.{◌≡◌, ◌⊎◌, inl, inr, if◌then◌else◌, ℕ, ◌+◌, ◌-◌, ◌*◌, ◌/◌, ◌%◌, ◌^◌, ◌<◌, ◌≤◌, ◌==◌, zero}
use Rattle.std.proofs.Common.{suc, Bool, true, false, ◌&&◌, ◌||◌, bit_and, bit_or, refl, ap, ◌∙◌, subst, arith}
use Rattle.std.specs.Bool.{beq}
use Rattle.std.specs.Int.{bit_at}
use Rattle.std.proofs.Math.Bool.{and-false, or-false}
use Rattle.std.proofs.lemmas.Bool.{cases_lt, eqb-true}
use Rattle.std.proofs.lemmas.Nat.{shr-shr, pow_pos}
use Rattle.std.proofs.lemmas.Nat.Bits.{bit_at_cat_low, bit_at_cat_high, bit_at-zero, bit_at_above}
use Rattle.cm_bits.specs.Bit.{bit}
use Rattle.cm_model.proofs.Bits.{bit_at-cut, bit-bit_and, bit-bit_or}

-- ---- tests of truth values, and facts that are tested below a number

pub and-true : (x : Bool) → (x && true) ≡ x
and-true true = refl
and-true false = refl

abbrev pub holds_below : ℕ → (ℕ → Bool) → Bool
holds_below zero test = true
holds_below (suc n) test = holds_below n test && test n

both : (x y : Bool) → (x && y) ≡ true → (x ≡ true) × (y ≡ true)
both true y h = (refl, h)
both false y h = cc

-- what is tested at each number below holds there
pub tested : (n : ℕ) (test : ℕ → Bool) → holds_below n test ≡ true → (p : ℕ) → p < n → test p ≡ true
tested zero test h p below = absurd (omega arith)
tested (suc n) test h p below =
    let parts = both (holds_below n test) (test n) h in
    by (λ inside. tested n test parts.0 p inside) parts.1 (cases_lt p n) where
      by : (p < n → test p ≡ true) → test n ≡ true → (p < n) ⊎ (n ≤ p) → test p ≡ true
      by others last (inl inside) = others inside
      by others last (inr there) = subst (λ (k : ℕ). test k ≡ true) (omega arith) last

pub same_beq : (x y : Bool) → beq x y ≡ true → x ≡ y
same_beq true true h = refl
same_beq true false h = cc
same_beq false true h = cc
same_beq false false h = refl

-- a word of sixteen bits is a test of the number
pub bits_by_test : (word : ℕ) (test : ℕ → Bool) → holds_below 16 (λ p. beq (bit word p) (test p)) ≡ true → (p : ℕ)
    → p < 16 → bit word p ≡ test p
bits_by_test word test h p below = same_beq (bit word p) (test p) (tested 16 (λ k. beq (bit word k) (test k)) h p below)

-- ---- shifts

pub bit-down : (x k p : ℕ) → bit (x / 2 ^ k) p ≡ bit x (k + p)
bit-down x k p = ap (λ (n : ℕ). n % 2 == 1) (shr-shr x k p)

pub bit-up_below : (x k p : ℕ) → p < 16 → p < k → bit (x * 2 ^ k % 65536) p ≡ false
bit-up_below x k p h below =
    ap (λ (n : ℕ). n == 1)
    (bit_at-cut (x * 2 ^ k) 16 p h ∙ ap (λ (n : ℕ). bit_at n p) (let e : x * 2 ^ k ≡ x * 2 ^ k + 0 = omega arith in e)
    ∙ bit_at_cat_low x k 0 p below ∙ bit_at-zero p)

pub bit-up_above : (x k p : ℕ) → p < 16 → k ≤ p → bit (x * 2 ^ k % 65536) p ≡ bit x (p - k)
bit-up_above x k p h above =
    ap (λ (n : ℕ). n == 1)
    (bit_at-cut (x * 2 ^ k) 16 p h ∙ ap (λ (n : ℕ). bit_at n p) (let e : x * 2 ^ k ≡ x * 2 ^ k + 0 = omega arith in e)
    ∙ bit_at_cat_high x k 0 p (pow_pos k) above)

-- a number has no bit past its width
pub bit-past : (x k p : ℕ) → x < 2 ^ k → k ≤ p → bit x p ≡ false
bit-past x k p h above = ap (λ (n : ℕ). n == 1) (bit_at_above x k p h above)

-- ---- four bits, apart and together

bit-gathered : (x i : ℕ)
    → bit (bit_and (bit_or (bit_or (bit_or (bit_and x 4369) (bit_and x 4369 / 8)) (bit_and x 4369 / 64))
    (bit_and x 4369 / 512)) 15) i
    ≡ ((((bit x i && bit 4369 i) || (bit x (3 + i) && bit 4369 (3 + i))) || (bit x (6 + i) && bit 4369 (6 + i)))
    || (bit x (9 + i) && bit 4369 (9 + i))) && bit 15 i
bit-gathered x i =
    rw (
      bit-bit_and (bit_or (bit_or (bit_or (bit_and x 4369) (bit_and x 4369 / 8)) (bit_and x 4369 / 64))
          (bit_and x 4369 / 512)) 15 i,
      bit-bit_or (bit_or (bit_or (bit_and x 4369) (bit_and x 4369 / 8)) (bit_and x 4369 / 64)) (bit_and x 4369 / 512) i,
      bit-bit_or (bit_or (bit_and x 4369) (bit_and x 4369 / 8)) (bit_and x 4369 / 64) i,
      bit-bit_or (bit_and x 4369) (bit_and x 4369 / 8) i,
      bit-down (bit_and x 4369) 3 i,
      bit-down (bit_and x 4369) 6 i,
      bit-down (bit_and x 4369) 9 i,
      bit-bit_and x 4369 i,
      bit-bit_and x 4369 (3 + i),
      bit-bit_and x 4369 (6 + i),
      bit-bit_and x 4369 (9 + i),
    ) refl

pub gathered : (x i : ℕ) → i < 4
    → bit (bit_and (bit_or (bit_or (bit_or (bit_and x 4369) (bit_and x 4369 / 8)) (bit_and x 4369 / 64))
    (bit_and x 4369 / 512)) 15) i ≡ bit x (4 * i)
gathered x zero h = bit-gathered x 0 ∙ simp (and-false, and-true, or-false)
gathered x (suc zero) h = bit-gathered x 1 ∙ simp (and-false, and-true, or-false)
gathered x (suc (suc zero)) h = bit-gathered x 2 ∙ simp (and-false, and-true, or-false)
gathered x (suc (suc (suc zero))) h = bit-gathered x 3 ∙ simp (and-false, and-true)
gathered x (suc (suc (suc (suc i)))) h = absurd (omega arith)

abbrev any_of_four : ℕ → ℕ → Bool
any_of_four x p = ((bit x p || bit (x * 8 % 65536) p) || bit (x * 64 % 65536) p) || bit (x * 512 % 65536) p

bit-spread : (x p : ℕ)
    → bit (bit_and (bit_or (bit_or (bit_or x (x * 8 % 65536)) (x * 64 % 65536)) (x * 512 % 65536)) 4369) p
    ≡ any_of_four x p && bit 4369 p
bit-spread x p =
    rw (
      bit-bit_and (bit_or (bit_or (bit_or x (x * 8 % 65536)) (x * 64 % 65536)) (x * 512 % 65536)) 4369 p,
      bit-bit_or (bit_or (bit_or x (x * 8 % 65536)) (x * 64 % 65536)) (x * 512 % 65536) p,
      bit-bit_or (bit_or x (x * 8 % 65536)) (x * 64 % 65536) p,
      bit-bit_or x (x * 8 % 65536) p,
    ) refl

-- the four bits at 0, 4, 8 and 12
four_spread : (x k : ℕ) → x < 16 → k < 4 → any_of_four x (4 * k) ≡ bit x k
four_spread x zero small h =
    rw (
      bit-up_below x 3 0 (omega arith) (omega arith),
      bit-up_below x 6 0 (omega arith) (omega arith),
      bit-up_below x 9 0 (omega arith) (omega arith),
    ) (simp or-false)
four_spread x (suc zero) small h =
    rw (
      bit-past x 4 4 small (omega arith),
      bit-up_above x 3 4 (omega arith) (omega arith),
      bit-up_below x 6 4 (omega arith) (omega arith),
      bit-up_below x 9 4 (omega arith) (omega arith),
    ) (simp or-false)
four_spread x (suc (suc zero)) small h =
    rw (
      bit-past x 4 8 small (omega arith),
      bit-up_above x 3 8 (omega arith) (omega arith),
      bit-past x 4 5 small (omega arith),
      bit-up_above x 6 8 (omega arith) (omega arith),
      bit-up_below x 9 8 (omega arith) (omega arith),
    ) (simp or-false)
four_spread x (suc (suc (suc zero))) small h =
    rw (
      bit-past x 4 12 small (omega arith),
      bit-up_above x 3 12 (omega arith) (omega arith),
      bit-past x 4 9 small (omega arith),
      bit-up_above x 6 12 (omega arith) (omega arith),
      bit-past x 4 6 small (omega arith),
      bit-up_above x 9 12 (omega arith) (omega arith),
    ) refl
four_spread x (suc (suc (suc (suc k)))) small h = absurd (omega arith)

pub spread : (x : ℕ) → x < 16 → (p : ℕ) → p < 16
    → bit (bit_and (bit_or (bit_or (bit_or x (x * 8 % 65536)) (x * 64 % 65536)) (x * 512 % 65536)) 4369) p
    ≡ if p % 4 == 0 then bit x (p / 4) else false
spread x small p h =
    bit-spread x p ∙ ap (λ (b : Bool). any_of_four x p && b) (bits_by_test 4369 (λ k. k % 4 == 0) refl p h)
    ∙ by (p % 4 == 0) refl where
      by : (b : Bool) → (p % 4 == 0) ≡ b → any_of_four x p && b ≡ if b then bit x (p / 4) else false
      by true first =
          let none : p % 4 ≡ 0 = eqb-true (p % 4) 0 first in
          and-true (any_of_four x p) ∙ ap (any_of_four x) (let e : p ≡ 4 * (p / 4) = omega arith in e)
          ∙ four_spread x (p / 4) small (omega arith)
      by false first = and-false (any_of_four x p)
