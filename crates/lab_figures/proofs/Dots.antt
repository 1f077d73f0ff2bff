-- Dots of a text, one after another.
use Rattle.std.proofs.Common.{◌≡◌, ℕ, suc, ◌+◌, ◌-◌, ◌<◌, List, [], ◌∷◌, ◌++◌, Result, Ok, Err, false, ap, ◌∙◌, arith}
use Rattle.std.proofs.Common.{if◌then◌else◌}
use Rattle.lab_figures.specs.declared.picture_reading.PictureFault.{PictureFault}
use Rattle.lab_figures.specs.declared.picture_reading.PictureFault.TheVariants.{TooMany}
use Rattle.cm_bits.specs.Text.{has_bytes}
use Rattle.lab_figures.specs.PictureReading.{◌>>=◌, behind_blanks, plain_dot, after_dots, plain_dots}

-- a dot, and those behind it
pub after_one_dot : (text : List ℕ) (greatest count i : ℕ) (dots bytes : List ℕ)
    (read : Result (ℕ × List ℕ) PictureFault) → i < count → plain_dot text greatest bytes ≡ read
    → after_dots text greatest (count - i) dots bytes
    ≡ (read >>= λ dot. after_dots text greatest (count - (i + 1)) (dots ++ dot.0 ∷ []) dot.1)
unfolding after_dots
after_one_dot text greatest count i dots bytes read h is =
    let left : count - i ≡ suc (count - (i + 1)) = omega arith in
    ap (λ (k : ℕ). after_dots text greatest k dots bytes) left
    ∙ ap (λ (r : Result (ℕ × List ℕ) PictureFault).
    r >>= λ dot. after_dots text greatest (count - (i + 1)) (dots ++ dot.0 ∷ []) dot.1) is

-- no dot is left
pub after_all_dots : (text : List ℕ) (greatest count i : ℕ) (dots bytes : List ℕ) → count ≡ i
    → after_dots text greatest (count - i) dots bytes ≡ Ok (dots, bytes)
unfolding after_dots
after_all_dots text greatest count i dots bytes h =
    let none : count - i ≡ 0 = omega arith in
    ap (λ (k : ℕ). after_dots text greatest k dots bytes) none

-- all dots, and what stands behind them
pub plain_dots_are : (text : List ℕ) (greatest count : ℕ) (bytes : List ℕ)
    (read : Result (List ℕ × List ℕ) PictureFault) → after_dots text greatest count [] bytes ≡ read
    → plain_dots text greatest count bytes
    ≡ (read >>= λ all. if has_bytes (behind_blanks false all.1) then Err TooMany else Ok all.0)
unfolding plain_dots
plain_dots_are text greatest count bytes read is =
    ap (λ (r : Result (List ℕ × List ℕ) PictureFault).
    r >>= λ all. if has_bytes (behind_blanks false all.1) then Err TooMany else Ok all.0) is
