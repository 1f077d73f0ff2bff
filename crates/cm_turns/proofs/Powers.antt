-- Logarithms of powers of two.
use Rattle.std.proofs.Common.{◌≡◌, ℕ, ◌+◌, ◌*◌, ◌<◌, ◌≤◌, ◌^◌, ⊎_elim, arith}
use Rattle.std.proofs.Math.Pow.{pow_mono}
use Rattle.std.proofs.lemmas.Bool.{cases_lt}
use Rattle.std.proofs.lemmas.Nat.{pow_below, pow-add}

pub log_of_power : (r m : ℕ) → 2 ^ r ≤ 2 ^ m → 2 ^ m < 2 * 2 ^ r → r ≡ m
log_of_power r m low high = ⊎_elim
    (λ (l : r < m).
    let more : 2 ^ (r + 1) ≤ 2 ^ m = pow_mono (omega (arith, l)) in
    let twice : 2 ^ (r + 1) ≡ 2 ^ r * 2 = pow-add 2 r 1 in
    absurd (omega (arith, more, twice, high)))
    (λ (l : m ≤ r). ⊎_elim
    (λ (k : m < r). let f = pow_below m r k in absurd (omega (arith, f, low)))
    (λ (k : r ≤ m). omega (arith, l, k))
    (cases_lt m r))
    (cases_lt r m)

pub log_below : (r d many : ℕ) → 2 ^ r ≤ many → many ≤ 2 ^ d → r ≤ d
log_below r d many low high = ⊎_elim
    (λ (l : d < r). let f = pow_below d r l in absurd (omega (arith, f, low, high)))
    (λ (l : r ≤ d). l)
    (cases_lt d r)
