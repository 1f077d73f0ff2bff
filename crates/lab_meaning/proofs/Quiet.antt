-- The words of a source's lines, and numbers in decimal: no byte of them ends a word or a line or begins a comment.
use Rattle.std.proofs.Common.{◌≡◌, ℕ, zero, suc, ◌+◌, ◌/◌, ◌%◌, Bool, true, false, not, cond, List, [], ◌∷◌, ◌++◌}
use Rattle.std.proofs.Common.{take, refl, subst, arith, eqb}
use Rattle.std.specs.Prelude.{if◌then◌else◌, decimal, nat_lt}
use Rattle.std.specs.Fmt.{digits, digits_onto, digit_glyph}
use Rattle.std.specs.List.{AllByRecursion, before_first, filter, position_or_len, slice_split, onto_first}
use Rattle.std.proofs.lemmas.Bool.Decides.{nat_tests}
use Rattle.cm_bits.specs.Text.{has_bytes, is_blank, is_comment_start, is_line_end, lines_of, words_of}
use Rattle.cm_bits.specs.Text.{without_empty_last}

-- ---- lists

-- what follows from what holds of each
pub each_from : {X : Type 0} (P Q : X → Type 0) (xs : List X) → ((x : X) → P x → Q x) → AllByRecursion P xs
    → AllByRecursion Q xs
each_from P Q [] h all = tt
each_from P Q (x ∷ xs) h all = (h x all.0, each_from P Q xs h all.1)

-- one list behind another
pub each_append : {X : Type 0} (P : X → Type 0) (xs ys : List X) → AllByRecursion P xs → AllByRecursion P ys
    → AllByRecursion P (xs ++ ys)
each_append P [] ys h k = k
each_append P (x ∷ xs) ys h k = (h.0, each_append P xs ys h.1 k)

-- ---- cut texts

-- a byte before those of the first part
onto_first_each : (P : ℕ → Type 0) (x : ℕ) (parts : List (List ℕ)) → P x → AllByRecursion (AllByRecursion P) parts
    → AllByRecursion (AllByRecursion P) (onto_first x parts)
onto_first_each P x [] is all = ((is, tt), tt)
onto_first_each P x (part ∷ parts) is all = ((is, all.0), all.1)

-- what holds of a text's bytes holds of those of its parts, and none of these passes the test at which it is cut
parts_each : (p : ℕ → Bool) (P : ℕ → Type 0) (xs : List ℕ) → AllByRecursion P xs
    → AllByRecursion (AllByRecursion (λ b. P b × (p b ≡ false))) (slice_split p xs)
parts_each p P [] all = (tt, tt)
parts_each p P (x ∷ xs) all = by (parts_each p P xs all.1) (p x) refl where
  by : AllByRecursion (AllByRecursion (λ b. P b × (p b ≡ false))) (slice_split p xs) → (b : Bool) → p x ≡ b
      → AllByRecursion (AllByRecursion (λ b. P b × (p b ≡ false)))
      (cond b ([] ∷ slice_split p xs) (onto_first x (slice_split p xs)))
  by rest true e = (tt, rest)
  by rest false e = onto_first_each (λ b. P b × (p b ≡ false)) x (slice_split p xs) (all.0, e) rest

-- the parts without the last one
but_last_each : (P : List ℕ → Type 0) (parts : List (List ℕ)) → AllByRecursion P parts
    → AllByRecursion P (without_empty_last parts)
but_last_each P [] all = tt
but_last_each P (part ∷ []) all = by (has_bytes part) where
  by : (b : Bool) → AllByRecursion P (if b then part ∷ [] else [])
  by true = (all.0, tt)
  by false = tt
but_last_each P (part ∷ next ∷ parts) all = (all.0, but_last_each P (next ∷ parts) all.1)

-- the parts that have bytes
with_bytes_each : (P : List ℕ → Type 0) (parts : List (List ℕ)) → AllByRecursion P parts
    → AllByRecursion (λ part. (has_bytes part ≡ true) × P part) (filter has_bytes parts)
with_bytes_each P [] all = tt
with_bytes_each P (part ∷ parts) all = by (with_bytes_each P parts all.1) (has_bytes part) refl where
  by : AllByRecursion (λ w. (has_bytes w ≡ true) × P w) (filter has_bytes parts) → (b : Bool) → has_bytes part ≡ b
      → AllByRecursion (λ w. (has_bytes w ≡ true) × P w)
      (cond b (part ∷ filter has_bytes parts) (filter has_bytes parts))
  by rest true e = ((e, all.0), rest)
  by rest false e = rest

-- the bytes before the first that passes a test
before_first_each : (p : ℕ → Bool) (P : ℕ → Type 0) (xs : List ℕ) → AllByRecursion P xs
    → AllByRecursion (λ b. P b × (p b ≡ false)) (before_first p xs)
before_first_each p P [] all = tt
before_first_each p P (x ∷ xs) all = by (before_first_each p P xs all.1) (p x) refl where
  by : AllByRecursion (λ b. P b × (p b ≡ false)) (before_first p xs) → (b : Bool) → p x ≡ b
      → AllByRecursion (λ b. P b × (p b ≡ false)) (take (cond (not b) (1 + position_or_len p xs) 0) (x ∷ xs))
  by rest true e = tt
  by rest false e =
      let one : suc (position_or_len p xs) ≡ 1 + position_or_len p xs = omega arith in
      subst (λ (k : ℕ). AllByRecursion (λ b. P b × (p b ≡ false)) (take k (x ∷ xs))) one ((all.0, e), rest)

-- ---- lines and words

-- the byte ends no line
abbrev pub IsInLine : ℕ → Type 0
IsInLine byte = is_line_end byte ≡ false

-- no byte of a text's lines ends one
pub lines_whole : (text : List ℕ) → AllByRecursion (AllByRecursion IsInLine) (lines_of text)
lines_whole text =
    but_last_each (AllByRecursion IsInLine) (slice_split is_line_end text)
    (each_from (AllByRecursion (λ b. Unit {0} × IsInLine b)) (AllByRecursion IsInLine) (slice_split is_line_end text)
    (λ line all. each_from (λ b. Unit {0} × IsInLine b) IsInLine line (λ b h. h.1) all)
    (parts_each is_line_end (λ b. Unit {0}) text (anything text))) where
      anything : (xs : List ℕ) → AllByRecursion (λ b. Unit {0}) xs
      anything [] = tt
      anything (x ∷ xs) = (tt, anything xs)

-- a byte that can stand in a word of a line
pub record IsQuiet (byte : ℕ) : Type 0 where
  pub blank : is_blank byte ≡ false
  pub comment : is_comment_start byte ≡ false
  pub line_end : is_line_end byte ≡ false

-- a word of a line
pub record IsQuietWord (word : List ℕ) : Type 0 where
  pub some : has_bytes word ≡ true
  pub quiet : AllByRecursion IsQuiet word

-- a line's words are
pub words_quiet : (line : List ℕ) → AllByRecursion IsInLine line → AllByRecursion IsQuietWord (words_of line)
words_quiet line whole =
    let Q : ℕ → Type 0 = λ b. (IsInLine b × (is_comment_start b ≡ false)) × (is_blank b ≡ false) in
    each_from (λ w. (has_bytes w ≡ true) × AllByRecursion Q w) IsQuietWord (words_of line)
    (λ w h. record {
      some = h.0;
      quiet = each_from Q IsQuiet w (λ b q. record { blank = q.1; comment = q.0.1; line_end = q.0.0 }) h.1;
    })
    (with_bytes_each (AllByRecursion Q) (slice_split is_blank (before_first is_comment_start line))
    (parts_each is_blank (λ b. IsInLine b × (is_comment_start b ≡ false)) (before_first is_comment_start line)
    (before_first_each is_comment_start IsInLine line whole)))

-- ---- numbers in decimal

-- a digit
quiet_digit : (n : ℕ) → IsQuiet (digit_glyph false (n % 10))
quiet_digit n = by (nat_lt (n % 10) 10) refl where
  by : (b : Bool) → nat_lt (n % 10) 10 ≡ b → IsQuiet (if b then 48 + n % 10 else 87 + n % 10)
  by true e = record {
    blank = grind (arith, nat_tests, e);
    comment = grind (arith, nat_tests, e);
    line_end = grind (arith, nat_tests, e);
  }
  by false e = record {
    blank = grind (arith, nat_tests);
    comment = grind (arith, nat_tests);
    line_end = grind (arith, nat_tests);
  }

-- digits before others
quiet_digits : (k n : ℕ) (later : List ℕ) → AllByRecursion IsQuiet later
    → AllByRecursion IsQuiet (digits_onto k 10 false n later)
quiet_digits zero n later all = all
quiet_digits (suc k) n later all =
    by (eqb (n / 10) 0) (quiet_digits k (n / 10) (digit_glyph false (n % 10) ∷ later) (quiet_digit n, all)) where
      by : (b : Bool) → AllByRecursion IsQuiet (digits_onto k 10 false (n / 10) (digit_glyph false (n % 10) ∷ later))
          → AllByRecursion IsQuiet
          (if b then digit_glyph false (n % 10) ∷ later else
          digits_onto k 10 false (n / 10) (digit_glyph false (n % 10) ∷ later))
      by true rest = (quiet_digit n, all)
      by false rest = rest

-- digits before some bytes are some
more_digits : (k n : ℕ) (later : List ℕ) → has_bytes later ≡ true → has_bytes (digits_onto k 10 false n later) ≡ true
more_digits zero n later some = some
more_digits (suc k) n later some =
    by (eqb (n / 10) 0) (more_digits k (n / 10) (digit_glyph false (n % 10) ∷ later) refl) where
      by : (b : Bool) → has_bytes (digits_onto k 10 false (n / 10) (digit_glyph false (n % 10) ∷ later)) ≡ true
          → has_bytes (if b then digit_glyph false (n % 10) ∷ later else
          digits_onto k 10 false (n / 10) (digit_glyph false (n % 10) ∷ later)) ≡ true
      by true rest = refl
      by false rest = rest

-- there are digits
some_digits : (k n : ℕ) → has_bytes (digits_onto (suc k) 10 false n []) ≡ true
some_digits k n =
    by (eqb (n / 10) 0) (more_digits k (n / 10) (digit_glyph false (n % 10) ∷ []) refl) where
      by : (b : Bool) → has_bytes (digits_onto k 10 false (n / 10) (digit_glyph false (n % 10) ∷ [])) ≡ true
          → has_bytes (if b then digit_glyph false (n % 10) ∷ [] else
          digits_onto k 10 false (n / 10) (digit_glyph false (n % 10) ∷ [])) ≡ true
      by true rest = refl
      by false rest = rest

-- a number in decimal is a word
pub quiet-decimal : (n : ℕ) → IsQuietWord (decimal n)
unfolding digits
quiet-decimal n = record { some = some_digits 63 n; quiet = quiet_digits 64 n [] tt }
