-- Bytes behind spaces and comments, byte by byte.
use Rattle.std.proofs.Common.{◌≡◌, ℕ, suc, ◌+◌, ◌-◌, ◌<◌, ◌≤◌, ◌==◌, Bool, true, false, not, List, [], ◌∷◌, length, drop, get_or}
use Rattle.std.proofs.Common.{sym, ap, ◌∙◌, arith, if◌then◌else◌, take, length-drop}
use Rattle.std.proofs.Math.Seq.{drop-cons}
use Rattle.std.proofs.lemmas.List.{drop_all, take_all}
use Rattle.lab_figures.specs.PictureReading.{is_space, behind_blanks}

-- the bytes from a place on
from_place : (bytes : List ℕ) (i : ℕ) → i < length bytes → drop i bytes ≡ get_or bytes i 0 ∷ drop (i + 1) bytes
from_place bytes i h =
    let next : suc i ≡ i + 1 = omega arith in
    drop-cons bytes i 0 h ∙ ap (λ (k : ℕ). get_or bytes i 0 ∷ drop k bytes) next

pub whole_rest : (bytes : List ℕ) (i : ℕ) → take (length bytes - i) (drop i bytes) ≡ drop i bytes
whole_rest bytes i = take_all (length bytes - i) (drop i bytes) (omega (arith, length-drop i bytes))

-- in a comment
pub blanks_in_comment : (bytes : List ℕ) (i : ℕ) → i < length bytes
    → behind_blanks true (drop i bytes) ≡ behind_blanks (not (get_or bytes i 0 == 10)) (drop (i + 1) bytes)
unfolding behind_blanks
blanks_in_comment bytes i h = ap (behind_blanks true) (from_place bytes i h)

-- where one begins
pub blanks_at_comment : (bytes : List ℕ) (i : ℕ) → i < length bytes → (get_or bytes i 0 == 35) ≡ true
    → behind_blanks false (drop i bytes) ≡ behind_blanks true (drop (i + 1) bytes)
unfolding behind_blanks
blanks_at_comment bytes i h is =
    ap (behind_blanks false) (from_place bytes i h)
    ∙ ap (λ (b : Bool). if b then behind_blanks true (drop (i + 1) bytes)
    else (if is_space (get_or bytes i 0) then behind_blanks false (drop (i + 1) bytes)
    else get_or bytes i 0 ∷ drop (i + 1) bytes)) is

-- at a space
pub blanks_at_space : (bytes : List ℕ) (i : ℕ) → i < length bytes → (get_or bytes i 0 == 35) ≡ false
    → is_space (get_or bytes i 0) ≡ true
    → behind_blanks false (drop i bytes) ≡ behind_blanks false (drop (i + 1) bytes)
unfolding behind_blanks
blanks_at_space bytes i h not_comment is =
    ap (behind_blanks false) (from_place bytes i h)
    ∙ ap (λ (b : Bool). if b then behind_blanks true (drop (i + 1) bytes)
    else (if is_space (get_or bytes i 0) then behind_blanks false (drop (i + 1) bytes)
    else get_or bytes i 0 ∷ drop (i + 1) bytes)) not_comment
    ∙ ap (λ (b : Bool). if b then behind_blanks false (drop (i + 1) bytes)
    else get_or bytes i 0 ∷ drop (i + 1) bytes) is

-- at any other byte
pub blanks_end : (bytes : List ℕ) (i : ℕ) → i < length bytes → (get_or bytes i 0 == 35) ≡ false
    → is_space (get_or bytes i 0) ≡ false → behind_blanks false (drop i bytes) ≡ drop i bytes
unfolding behind_blanks
blanks_end bytes i h not_comment not_space =
    ap (behind_blanks false) (from_place bytes i h)
    ∙ ap (λ (b : Bool). if b then behind_blanks true (drop (i + 1) bytes)
    else (if is_space (get_or bytes i 0) then behind_blanks false (drop (i + 1) bytes)
    else get_or bytes i 0 ∷ drop (i + 1) bytes)) not_comment
    ∙ ap (λ (b : Bool). if b then behind_blanks false (drop (i + 1) bytes)
    else get_or bytes i 0 ∷ drop (i + 1) bytes) not_space
    ∙ sym (from_place bytes i h)

-- at the end
pub blanks_none : (in_comment : Bool) (bytes : List ℕ) (i : ℕ) → length bytes ≤ i
    → behind_blanks in_comment (drop i bytes) ≡ []
unfolding behind_blanks
blanks_none in_comment bytes i h = ap (behind_blanks in_comment) (drop_all i bytes h)
