-- Numbers of a text, one after another.
use Rattle.std.proofs.Common.{◌≡◌, ℕ, suc, ◌+◌, ◌*◌, ◌/◌, ◌^◌, ◌<◌, ◌≤◌, ◌==◌, nat_lt, Result}
use Rattle.std.proofs.Common.{List, [], ◌∷◌, ◌++◌, length, get_or, drop, true, min, max, zero, refl}
use Rattle.std.proofs.Common.{sym, ap, ◌∙◌, ⊎_elim, arith, lt-ltb, le-ltb}
use Rattle.std.proofs.Common.{ne_eqb, append_assoc, append-nil, decimal}
use Rattle.std.proofs.Math.Nat.{div-eq_of_lt, lt-div-mul-add, pow-le-pow_right, zero-mul}
use Rattle.std.proofs.Math.Seq.{drop-cons}
use Rattle.std.proofs.lemmas.Nat.{pow_pos}
use Rattle.std.proofs.lemmas.Bool.{cases_lt}
use Rattle.std.proofs.lemmas.List.{drop_all}
use Rattle.cm_bits.specs.Text.{words_of, number_of}
use Rattle.lab_figures.specs.declared.numbers.NumbersFault.{NumbersFault}
use Rattle.lab_figures.specs.Numbers.{◌>>=◌, one_number_more, numbers_after_words, numbers_after_lines, separator_behind, numbers_text}

-- a number has so many bits where nothing stands above them
pub is_within : (number len : ℕ) → (number / 2 ^ len == 0) ≡ nat_lt number (2 ^ len)
is_within number len = ⊎_elim
    (λ (h : number < 2 ^ len). ap (λ (n : ℕ). n == 0) (div-eq_of_lt h) ∙ sym (lt-ltb number (2 ^ len) h))
    (λ (h : 2 ^ len ≤ number). let some : 0 < 2 ^ len = pow_pos len in
    let more : number < number / 2 ^ len * 2 ^ len + 2 ^ len = lt-div-mul-add some in
    ne_eqb (number / 2 ^ len) 0 (λ e. absurd (
    let none : number / 2 ^ len * 2 ^ len ≡ 0 = ap (λ (n : ℕ). n * 2 ^ len) e ∙ zero-mul (2 ^ len) in
    omega (arith, none, more, h)))
    ∙ sym (le-ltb number (2 ^ len) h))
    (cases_lt number (2 ^ len))

-- every number of 64 bits has as many bits or fewer
pub is_within-wide : (number len : ℕ) → number < 2 ^ 64 → 64 ≤ len → true ≡ nat_lt number (2 ^ len)
is_within-wide number len low wide =
    let more : 2 ^ 64 ≤ 2 ^ len = pow-le-pow_right (omega arith) wide in
    sym (lt-ltb number (2 ^ len) (omega (arith, low, more)))

-- a word that is a number, and the words behind it
pub after_one_word : (len count line : ℕ) (numbers : List ℕ) (word : List ℕ) (words : List (List ℕ))
    (r : Result (List ℕ) NumbersFault) → one_number_more len count line numbers (number_of word) ≡ r
    → numbers_after_words len count line numbers (word ∷ words) ≡ (r >>= λ more. numbers_after_words len count line more words)
unfolding numbers_after_words
after_one_word len count line numbers word words r e =
    ap (λ (q : Result (List ℕ) NumbersFault). q >>= λ more. numbers_after_words len count line more words) e

-- a line, and the lines behind it
pub after_one_line : (len count line : ℕ) (numbers : List ℕ) (text : List ℕ) (texts : List (List ℕ))
    (r : Result (List ℕ) NumbersFault) → numbers_after_words len count line numbers (words_of text) ≡ r
    → numbers_after_lines len count line numbers (text ∷ texts) ≡ (r >>= λ more. numbers_after_lines len count (line + 1) more texts)
unfolding numbers_after_lines
after_one_line len count line numbers text texts r e =
    ap (λ (q : Result (List ℕ) NumbersFault). q >>= λ more. numbers_after_lines len count (line + 1) more texts) e

-- one more number is written
pub one_more_written : (width : ℕ) (numbers text written : List ℕ) (i : ℕ) → i < length numbers
    → numbers_text width 0 numbers ≡ text ++ numbers_text width i (drop i numbers)
    → written ≡ (text ++ decimal (get_or numbers i 0)) ++ separator_behind width i ∷ []
    → numbers_text width 0 numbers ≡ written ++ numbers_text width (i + 1) (drop (i + 1) numbers)
unfolding numbers_text
one_more_written width numbers text written i inside before is =
    let number : List ℕ = decimal (get_or numbers i 0) in
    let rest : List ℕ = numbers_text width (i + 1) (drop (i + 1) numbers) in
    let next : suc i ≡ i + 1 = omega arith in
    before
    ∙ ap (λ left. text ++ numbers_text width i left) (drop-cons numbers i 0 inside)
    ∙ ap (λ (k : ℕ). text ++ (number ++ separator_behind width i ∷ numbers_text width (i + 1) (drop k numbers))) next
    ∙ sym (append_assoc text number (separator_behind width i ∷ rest))
    ∙ sym (append_assoc (text ++ number) (separator_behind width i ∷ []) rest)
    ∙ ap (λ done. done ++ rest) (sym is)

-- all are written
pub all_written : (width : ℕ) (numbers text : List ℕ) (i : ℕ) → i ≡ length numbers
    → numbers_text width 0 numbers ≡ text ++ numbers_text width i (drop i numbers)
    → text ≡ numbers_text width 0 numbers
unfolding numbers_text
all_written width numbers text i all are =
    sym (are ∙ ap (λ left. text ++ numbers_text width i left) (drop_all i numbers (omega (arith, all)))
    ∙ append-nil text)

-- no numbers have one text in lines of any length
numbers_text-none : (width other : ℕ) (numbers : List ℕ) → length numbers ≡ 0
    → numbers_text width 0 numbers ≡ numbers_text other 0 numbers
unfolding numbers_text
numbers_text-none width other [] none = refl
numbers_text-none width other (x ∷ xs) none = absurd (omega arith)

-- so the numbers of a picture of no columns have one in lines of one, and of others in lines of so many at most
pub numbers_text-some : (width height most : ℕ) (numbers : List ℕ) → 0 < most → length numbers ≡ height * width
    → numbers_text (max (min width most) 1) 0 numbers ≡ numbers_text (min width most) 0 numbers
numbers_text-some zero height most numbers some count =
    numbers_text-none (max (min zero most) 1) (min zero most) numbers (omega arith)
numbers_text-some (suc width) height most numbers some count =
    let same : max (min (suc width) most) 1 ≡ min (suc width) most = omega arith in
    ap (λ (k : ℕ). numbers_text k 0 numbers) same
