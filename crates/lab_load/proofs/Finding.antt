-- The first of some numbers in a row for which a test holds, one number at a time.
use Rattle.std.proofs.Common.{◌≡◌, ℕ, zero, suc, ◌+◌, ◌-◌, ◌<◌, ◌≤◌, Bool, true, false, cond, Some, None, refl, ap}
use Rattle.std.proofs.Common.{List, [], ◌∷◌, nat_le, ◌∙◌, arith}
use Rattle.std.specs.List.{count_by, find, range_with_len}
use Rattle.std.proofs.lemmas.Bool.Decides.{nat_tests}
use Rattle.std.proofs.lemmas.List.Sums.{sum_by-cons}
use Rattle.lab_load.specs.Figures.{is_reached}

pub found_here : (p : ℕ → Bool) (s m : ℕ) → p s ≡ true → find p (range_with_len s (suc m)) ≡ Some s
found_here p s m h = rw h refl

pub found_later : (p : ℕ → Bool) (s m : ℕ) → p s ≡ false
    → find p (range_with_len s (suc m)) ≡ find p (range_with_len (s + 1) m)
found_later p s m h = rw h refl

-- the same, where the number of numbers is a difference
pub found_at : (p : ℕ → Bool) (s end : ℕ) → s < end → p s ≡ true → find p (range_with_len s (end - s)) ≡ Some s
found_at p s end h is =
    let more : end - s ≡ suc (end - (s + 1)) = omega arith in
    ap (λ (k : ℕ). find p (range_with_len s k)) more ∙ found_here p s (end - (s + 1)) is

pub found_past : (p : ℕ → Bool) (s end : ℕ) → s < end → p s ≡ false
    → find p (range_with_len s (end - s)) ≡ find p (range_with_len (s + 1) (end - (s + 1)))
found_past p s end h is =
    let more : end - s ≡ suc (end - (s + 1)) = omega arith in
    ap (λ (k : ℕ). find p (range_with_len s k)) more ∙ found_later p s (end - (s + 1)) is

pub none_found : (p : ℕ → Bool) (s end : ℕ) → end ≤ s → find p (range_with_len s (end - s)) ≡ None
none_found p s end h =
    let none : end - s ≡ 0 = omega arith in ap (λ (k : ℕ). find p (range_with_len s k)) none

-- ---- by halves

-- where a test holds of no number below k, the first is found from k on
pub skipped : (p : ℕ → Bool) (end k : ℕ) → k ≤ end → ((j : ℕ) → j < k → p j ≡ false)
    → find p (range_with_len 0 end) ≡ find p (range_with_len k (end - k))
skipped p end zero h none =
    let all : end ≡ end - 0 = omega arith in ap (λ (m : ℕ). find p (range_with_len 0 m)) all
skipped p end (suc k) h none =
    let next : k + 1 ≡ suc k = omega arith in
    skipped p end k (omega arith) (λ j lt. none j (omega (arith, lt)))
    ∙ (found_past p k end (omega arith) (none k (omega arith))
    ∙ ap (λ (m : ℕ). find p (range_with_len m (end - m))) next)

pub first_at : (p : ℕ → Bool) (end k : ℕ) → k < end → ((j : ℕ) → j < k → p j ≡ false) → p k ≡ true
    → find p (range_with_len 0 end) ≡ Some k
first_at p end k h none is = skipped p end k (omega arith) none ∙ found_at p k end h is

pub first_nowhere : (p : ℕ → Bool) (end k : ℕ) → k ≡ end → ((j : ℕ) → j < k → p j ≡ false)
    → find p (range_with_len 0 end) ≡ None
first_nowhere p end k h none = skipped p end k (omega (arith, h)) none ∙ none_found p k end (omega (arith, h))

-- ---- how many are reached

one_more : (x k m : ℕ) → k ≤ m → cond (nat_le x k) 1 0 ≤ cond (nat_le x m) 1 0
one_more x k m h = grind (arith, nat_tests)

count_more : (xs : List ℕ) (k m : ℕ) → k ≤ m
    → count_by (λ x. nat_le x k) xs ≤ count_by (λ x. nat_le x m) xs
count_more [] k m h = omega arith
count_more (x ∷ xs) k m h =
    omega (
      arith,
      count_more xs k m h,
      one_more x k m h,
      sum_by-cons (λ y. cond (nat_le y k) 1 0) x xs,
      sum_by-cons (λ y. cond (nat_le y m) 1 0) x xs,
    )

-- what is not reached within so many petit cycles is not within fewer
pub not_reached : (xs : List ℕ) (hundredths k m : ℕ) → k ≤ m → is_reached xs hundredths m ≡ false
    → is_reached xs hundredths k ≡ false
not_reached xs hundredths k m h not =
    let fewer = count_more xs k m h in grind (arith, nat_tests)
