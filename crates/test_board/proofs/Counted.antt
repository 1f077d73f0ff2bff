-- The numbers from one on, by place.
use Rattle.std.proofs.Common.{◌≡◌, ℕ, zero, suc, ◌+◌, ◌<◌, List, [], ◌∷◌, ◌++◌, length, get_or, refl, ap, ◌∙◌, arith}
use Rattle.std.proofs.Common.{add-one}
use Rattle.test_board.specs.Rising.{rising}

pub length-rising : (a n : ℕ) → length (rising a n) ≡ n
unfolding rising
length-rising a zero = refl
length-rising a (suc n) = omega (arith, length-rising (a + 1) n)

pub rising_at : (a n i d : ℕ) → i < n → get_or (rising a n) i d ≡ a + i
unfolding rising
rising_at a zero i d below = absurd (omega arith)
rising_at a (suc n) zero d below = omega arith
rising_at a (suc n) (suc i) d below = rising_at (a + 1) n i d (omega arith) ∙ omega arith

pub rising_more : (a n : ℕ) → rising a (n + 1) ≡ rising a n ++ (a + n) ∷ []
unfolding rising
rising_more a n = rw add-one (go a n)
  where
    go : (a n : ℕ) → rising a (suc n) ≡ rising a n ++ (a + n) ∷ []
    go a zero = ap (λ (x : ℕ). x ∷ []) (let e : a ≡ a + 0 = omega arith in e)
    go a (suc n) =
        ap (λ (xs : List ℕ). a ∷ xs)
        (go (a + 1) n
        ∙ ap (λ (x : ℕ). rising (a + 1) n ++ x ∷ []) (let e : a + 1 + n ≡ a + suc n = omega arith in e))
