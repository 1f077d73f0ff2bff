-- How many wires a cube has, and over which dimension one of them leads.
use Rattle.std.proofs.Common.{◌≡◌, ℕ, zero, suc, ◌-◌, ◌*◌, ◌/◌, ◌^◌, ◌<◌, ◌≤◌, pow-suc, pow_pos, mul_assoc}
use Rattle.std.proofs.Common.{sym, ap, ◌∙◌, subst, arith, lit<}
use Rattle.std.proofs.Math.Nat.{pow-le-pow_right, mul-div_cancel}
use Rattle.std.proofs.lemmas.Nat.{mul-le, div_below}

pub all_ends : (n : ℕ) → n ≤ 12 → n * 2 ^ n ≤ 49152
all_ends n h = let most : 2 ^ n ≤ 4096 = pow-le-pow_right (lit< tt) h in mul-le n (2 ^ n) 12 4096 h most

-- half of the ends of wires are lower ones
pub lower_half : (n : ℕ) → 0 < n → n * 2 ^ n / 2 ≡ n * 2 ^ (n - 1)
lower_half zero h = absurd (omega (arith, h))
lower_half (suc m) h =
    let less : suc m - 1 ≡ m = omega arith in
    let twice : suc m * 2 ^ suc m ≡ suc m * 2 ^ m * 2 =
    ap (λ (x : ℕ). suc m * x) (pow-suc 2 m) ∙ sym (mul_assoc (suc m) (2 ^ m) 2) in
    ap (λ (x : ℕ). x / 2) twice
    ∙ (mul-div_cancel (suc m * 2 ^ m) (lit< tt) ∙ ap (λ (k : ℕ). suc m * 2 ^ k) (sym less))

-- a wire has a dimension
pub some_dimension : (n i : ℕ) → i < n * 2 ^ n / 2 → 0 < n
some_dimension zero i h = absurd (omega (arith, h))
some_dimension (suc m) i h = omega arith

pub dimension_of : (n i : ℕ) → i < n * 2 ^ n / 2 → i / 2 ^ (n - 1) < n
dimension_of n i h =
    div_below i (2 ^ (n - 1)) n (pow_pos (n - 1))
    (subst (λ (k : ℕ). i < k) (lower_half n (some_dimension n i h)) h)

pub half_within : (n : ℕ) → n ≤ 12 → 2 ^ (n - 1) ≤ 2048
half_within n h = let less : n - 1 ≤ 11 = omega arith in pow-le-pow_right (lit< tt) less
