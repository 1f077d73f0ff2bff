-- Bands of the torus: so many rows of chips each, and which row lies over the edge.
use Rattle.std.proofs.Common.{◌≡◌, ℕ, zero, suc, ◌+◌, ◌-◌, ◌*◌, ◌/◌, ◌%◌, ◌^◌, ◌<◌, ◌≤◌, ◌⊎◌, inl, inr, ◌∙◌}
use Rattle.std.proofs.Common.{ap, sym, arith}
use Rattle.std.proofs.lemmas.Nat.{pow-add, mul-le, div_below, le-div}
use Rattle.std.proofs.Math.Nat.{mod_self}
use Rattle.std.proofs.lemmas.Bool.{cases_lt}
use Rattle.cm_model.specs.Place.{chip_columns, rows}
use Rattle.cm_model.proofs.Torus.{back-first, back-other, on-other}
use Rattle.cm_blocks.specs.Parts.{block_size}

-- rows of chips of one of 2 ^ k blocks
abbrev pub band : ℕ → ℕ → ℕ
band n k = 2 ^ (n - k - n / 2)

pub block_size-band : (n k : ℕ) → k ≤ n - n / 2 → block_size n k ≡ band n k * chip_columns n
block_size-band n k h =
    ap (λ (z : ℕ). 2 ^ z) (let e : n - k ≡ (n - k - n / 2) + n / 2 = omega arith in e)
    ∙ pow-add 2 (n - k - n / 2) (n / 2)

pub rows-band : (n k : ℕ) → k ≤ n - n / 2 → rows n ≡ 4 * (2 ^ k * band n k)
rows-band n k h =
    ap (λ (z : ℕ). 4 * z)
    (ap (λ (z : ℕ). 2 ^ z) (let e : n - n / 2 ≡ k + (n - k - n / 2) = omega arith in e)
    ∙ pow-add 2 k (n - k - n / 2))

-- where a block begins, in rows of chips
pub block-row : (n k b : ℕ) → k ≤ n - n / 2 → b * block_size n k ≡ b * band n k * chip_columns n
block-row n k b h =
    ap (λ (z : ℕ). b * z) (block_size-band n k h) ∙ (let e : b * (band n k * chip_columns n) ≡ b * band n k * chip_columns n =
    grind arith in e)

-- a chip in one of these rows of chips, so many chips a row
pub row-from : (lo w a z : ℕ) → lo ≤ a → lo * w ≤ a * w + z
row-from lo w a z h = let m : lo * w ≤ a * w = mul-le lo w a w h (omega arith) in omega arith

pub row-below : (lo w r a z : ℕ) → z < w → a < lo + r → a * w + z < lo * w + r * w
row-below lo w r a z h l =
    let m : (a + 1) * w ≤ (lo + r) * w = mul-le (a + 1) w (lo + r) w (omega arith) (omega arith) in
    let left : (a + 1) * w ≡ a * w + w = grind arith in
    let right : (lo + r) * w ≡ lo * w + r * w = grind arith in
    omega arith

-- the row of chips of a chip
pub its_row-from : (lo w c : ℕ) → 0 < w → lo * w ≤ c → lo ≤ c / w
its_row-from lo w c some h = le-div lo c w some h

pub its_row-below : (lo w r c : ℕ) → 0 < w → c < lo * w + r * w → c / w < lo + r
its_row-below lo w r c some h =
    let right : (lo + r) * w ≡ lo * w + r * w = grind arith in
    div_below c w (lo + r) some (omega arith)

-- b bands of so many lie before band b, and it is no longer than all of them
pub bands-fit : (all r b : ℕ) → b < all → b * r + r ≤ all * r
bands-fit all r b h =
    let m : (b + 1) * r ≤ all * r = mul-le (b + 1) r all r (omega arith) (omega arith) in
    let left : (b + 1) * r ≡ b * r + r = grind arith in
    omega arith

-- the row before a row of band b is in the band, or is the last of the band before it, round the torus
pub row_back : (all r b y : ℕ) → 0 < r → b < all → 4 * (b * r) ≤ y → y < 4 * (b * r + r) →
    ((y + 4 * (all * r) - 1) % (4 * (all * r)) ≡ y - 1) × (4 * (b * r) < y)
    ⊎ ((y + 4 * (all * r) - 1) % (4 * (all * r)) ≡ 4 * ((b + all - 1) % all * r) + 4 * r - 1)
row_back all r b y some l from below =
    let fit : b * r + r ≤ all * r = bands-fit all r b l in
    by_edge b fit l from below (cases_lt (4 * (b * r)) y)
  where
    by_edge : (b : ℕ) → b * r + r ≤ all * r → b < all → 4 * (b * r) ≤ y → y < 4 * (b * r + r)
        → (4 * (b * r) < y) ⊎ (y ≤ 4 * (b * r)) →
        ((y + 4 * (all * r) - 1) % (4 * (all * r)) ≡ y - 1) × (4 * (b * r) < y)
        ⊎ ((y + 4 * (all * r) - 1) % (4 * (all * r)) ≡ 4 * ((b + all - 1) % all * r) + 4 * r - 1)
    by_edge b fit l from below (inl inside) = inl (back-other y (4 * (all * r)) (omega arith) (omega arith), inside)
    by_edge zero fit l from below (inr edge) =
        let first : y ≡ 0 = omega arith in
        let last : (0 + all - 1) % all ≡ all - 1 = back-first all l in
        let split : (all - 1) * r + r ≡ all * r =
        (let e : (all - 1) * r + r ≡ (all - 1 + 1) * r = grind arith in e)
        ∙ ap (λ (z : ℕ). z * r) (let e : all - 1 + 1 ≡ all = omega arith in e) in
        inr (ap (λ (z : ℕ). (z + 4 * (all * r) - 1) % (4 * (all * r))) first
        ∙ (back-first (4 * (all * r)) (omega arith)
        ∙ (let e : 4 * (all * r) - 1 ≡ 4 * ((all - 1) * r) + 4 * r - 1 = omega arith in e
        ∙ ap (λ (z : ℕ). 4 * (z * r) + 4 * r - 1) (sym last))))
    by_edge (suc b) fit l from below (inr edge) =
        let before : (suc b + all - 1) % all ≡ suc b - 1 = back-other (suc b) all (omega arith) l in
        let split : suc b * r ≡ b * r + r = grind arith in
        inr (back-other y (4 * (all * r)) (omega arith) (omega arith)
        ∙ (let e : y - 1 ≡ 4 * (b * r) + 4 * r - 1 = omega arith in e
        ∙ ap (λ (z : ℕ). 4 * (z * r) + 4 * r - 1) (sym (before ∙ (let f : suc b - 1 ≡ b = omega arith in f)))))

-- the row after it is in the band, or is the first of the band after it
pub row_on : (all r b y : ℕ) → 0 < r → b < all → 4 * (b * r) ≤ y → y < 4 * (b * r + r) →
    ((y + 1) % (4 * (all * r)) ≡ y + 1) × (y + 1 < 4 * (b * r + r))
    ⊎ ((y + 1) % (4 * (all * r)) ≡ 4 * ((b + 1) % all * r))
row_on all r b y some l from below =
    let fit : b * r + r ≤ all * r = bands-fit all r b l in
    by_edge fit (cases_lt (y + 1) (4 * (b * r + r))) (cases_lt (b + 1) all)
  where
    by_edge : b * r + r ≤ all * r → (y + 1 < 4 * (b * r + r)) ⊎ (4 * (b * r + r) ≤ y + 1)
        → (b + 1 < all) ⊎ (all ≤ b + 1) →
        ((y + 1) % (4 * (all * r)) ≡ y + 1) × (y + 1 < 4 * (b * r + r))
        ⊎ ((y + 1) % (4 * (all * r)) ≡ 4 * ((b + 1) % all * r))
    by_edge fit (inl inside) other = inl (on-other y (4 * (all * r)) (omega arith), inside)
    by_edge fit (inr edge) (inl more) =
        let next : (b + 1) * r + r ≤ all * r = bands-fit all r (b + 1) more in
        let split : (b + 1) * r ≡ b * r + r = grind arith in
        inr (on-other y (4 * (all * r)) (omega arith)
        ∙ (let e : y + 1 ≡ 4 * ((b + 1) * r) = omega arith in e
        ∙ ap (λ (z : ℕ). 4 * (z * r)) (sym (on-other b all more))))
    by_edge fit (inr edge) (inr last) =
        let whole : all ≡ b + 1 = omega arith in
        let split : all * r ≡ b * r + r = ap (λ (z : ℕ). z * r) whole
        ∙ (let e : (b + 1) * r ≡ b * r + r = grind arith in e) in
        let round : (b + 1) % all ≡ 0 = ap (λ (z : ℕ). z % all) (sym whole) ∙ mod_self all in
        inr (ap (λ (z : ℕ). z % (4 * (all * r))) (let e : y + 1 ≡ 4 * (all * r) = omega arith in e)
        ∙ (mod_self (4 * (all * r))
        ∙ (let e : 0 ≡ 4 * (0 * r) = omega arith in e ∙ ap (λ (z : ℕ). 4 * (z * r)) (sym round))))
