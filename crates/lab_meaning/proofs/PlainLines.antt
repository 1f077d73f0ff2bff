-- A line with its constants' numbers has the words that it says, and is a line.
use Rattle.std.proofs.Common.{◌≡◌, ℕ, suc, ◌+◌, Bool, true, false, not, cond, Option, None, Some, List, [], ◌∷◌, ◌++◌}
use Rattle.std.proofs.Common.{map, flat_map, take, refl, ap, ◌∙◌, arith, append_assoc}
use Rattle.std.specs.Prelude.{decimal}
use Rattle.std.specs.List.{All, AllByRecursion, before_first, filter, position_or_len, slice_split}
use Rattle.std.proofs.lemmas.List.Elements.{All-from_recursion}
use Rattle.std.proofs.lemmas.List.Splits.{slice_split_at}
use Rattle.cm_bits.specs.Text.{has_bytes, is_blank, is_comment_start, is_line_end, words_in, words_of}
use Rattle.lab_source.specs.Layout.{NamedNumber, number_named}
use Rattle.lab_source.specs.Expansion.{number_or_word, plain_word, plain_line}
use Rattle.lab_meaning.specs.Meaning.{words_said}
use Rattle.lab_meaning.proofs.Quiet.{IsInLine, IsQuiet, IsQuietWord, each_from, each_append, quiet-decimal}

-- ---- words

-- a number in place of a name, or the word
quiet_word : (n : Option ℕ) (word : List ℕ) → IsQuietWord word → IsQuietWord (number_or_word n word)
quiet_word None word is = is
quiet_word (Some n) word is = quiet-decimal n

-- those of operands
quiet_words : (constants : List NamedNumber) (words : List (List ℕ)) → AllByRecursion IsQuietWord words
    → AllByRecursion IsQuietWord (map (plain_word constants) words)
quiet_words constants [] are = tt
quiet_words constants (word ∷ words) are =
    (quiet_word (number_named constants word) word are.0, quiet_words constants words are.1)

-- ---- a line's text

-- each of these words behind a space
abbrev behind : (List ℕ → List ℕ) → List (List ℕ) → List ℕ
behind f words = flat_map (λ word. 32 ∷ f word) words

-- a byte that may stand before a comment, and one that may stand in a line
abbrev IsBefore : ℕ → Type 0
IsBefore byte = is_comment_start byte ≡ false

-- what holds of a space and of the bytes of words holds of words behind spaces
behind_each : (P : ℕ → Type 0) (f : List ℕ → List ℕ) (words : List (List ℕ)) → P 32
    → ((byte : ℕ) → IsQuiet byte → P byte) → AllByRecursion IsQuietWord (map f words)
    → AllByRecursion P (behind f words)
behind_each P f [] space quiet are = tt
behind_each P f (word ∷ words) space quiet are = (
  space,
  each_append P (f word) (behind f words) (each_from IsQuiet P (f word) quiet are.0.quiet)
      (behind_each P f words space quiet are.1),
)

-- no byte of a word is blank
none_blank : (word : List ℕ) → IsQuietWord word → All (λ b. is_blank b ≡ false) word
none_blank word is = All-from_recursion (λ b. is_blank b ≡ false) word
    (each_from IsQuiet (λ b. is_blank b ≡ false) word (λ b q. q.blank) is.quiet)

-- words with spaces between and behind them are cut at these
parts_before_space : (f : List ℕ → List ℕ) (word : List ℕ) (words : List (List ℕ)) → IsQuietWord word
    → AllByRecursion IsQuietWord (map f words)
    → slice_split is_blank (word ++ (behind f words ++ 32 ∷ [])) ≡ word ∷ (map f words ++ [] ∷ [])
parts_before_space f word [] is are = slice_split_at is_blank word 32 [] (none_blank word is) refl
parts_before_space f word (next ∷ words) is are =
    slice_split_at is_blank word 32 ((f next ++ behind f words) ++ 32 ∷ []) (none_blank word is) refl
    ∙ ap (λ (text : List ℕ). word ∷ slice_split is_blank text) (append_assoc (f next) (behind f words) (32 ∷ []))
    ∙ ap (λ (parts : List (List ℕ)). word ∷ parts) (parts_before_space f (f next) words are.0 are.1)

-- words have bytes, and an empty part has not
but_the_last : (words : List (List ℕ)) → AllByRecursion IsQuietWord words
    → filter has_bytes (words ++ [] ∷ []) ≡ words
but_the_last [] are = refl
but_the_last (word ∷ words) are =
    ap (λ (b : Bool). cond b (word ∷ filter has_bytes (words ++ [] ∷ [])) (filter has_bytes (words ++ [] ∷ [])))
    are.0.some
    ∙ ap (λ (rest : List (List ℕ)). word ∷ rest) (but_the_last words are.1)

-- a byte that fails the test stands before the first that passes
before_first-cons : (p : ℕ → Bool) (x : ℕ) (xs : List ℕ) → p x ≡ false → before_first p (x ∷ xs) ≡ x ∷ before_first p xs
before_first-cons p x xs h =
    let one : 1 + position_or_len p xs ≡ suc (position_or_len p xs) = omega arith in
    ap (λ (b : Bool). take (cond (not b) (1 + position_or_len p xs) 0) (x ∷ xs)) h ∙ ap (λ (k : ℕ). take k (x ∷ xs)) one

-- what stands before the first byte that passes
before_first-at : (p : ℕ → Bool) (xs : List ℕ) (y : ℕ) (ys : List ℕ) → AllByRecursion (λ b. p b ≡ false) xs
    → p y ≡ true → before_first p (xs ++ y ∷ ys) ≡ xs
before_first-at p [] y ys h e = ap (λ (b : Bool). take (cond (not b) (1 + position_or_len p ys) 0) (y ∷ ys)) e
before_first-at p (x ∷ xs) y ys h e =
    before_first-cons p x (xs ++ y ∷ ys) h.0
    ∙ ap (λ (rest : List ℕ). x ∷ rest) (before_first-at p xs y ys h.1 e)

-- ---- all of a line

-- its words are those that it says
pub words_of-plain_line : (constants : List NamedNumber) (place : ℕ) (words : List (List ℕ))
    → AllByRecursion IsQuietWord words → words_of (plain_line constants place words) ≡ words_said constants words
words_of-plain_line constants place [] are = refl
words_of-plain_line constants place (word ∷ operands) are =
    let f : List ℕ → List ℕ = plain_word constants in
    let said : AllByRecursion IsQuietWord (map f operands) = quiet_words constants operands are.1 in
    let comment : List ℕ = 32 ∷ decimal (place + 1) in
    let front : List ℕ = word ++ (behind f operands ++ 32 ∷ []) in
    let whole : word ++ (behind f operands ++ 32 ∷ 59 ∷ comment) ≡ front ++ 59 ∷ comment = simp append_assoc refl in
    let quiet : AllByRecursion IsBefore front =
    each_append IsBefore word (behind f operands ++ 32 ∷ [])
    (each_from IsQuiet IsBefore word (λ b q. q.comment) are.0.quiet)
    (each_append IsBefore (behind f operands) (32 ∷ [])
    (behind_each IsBefore f operands refl (λ b q. q.comment) said) (refl, tt)) in
    ap words_of whole
    ∙ ap words_in (before_first-at is_comment_start front 59 comment quiet refl)
    ∙ ap (filter has_bytes) (parts_before_space f word operands are.0 said)
    ∙ but_the_last (word ∷ map f operands) (are.0, said)

-- no byte of it ends a line
pub plain_line_whole : (constants : List NamedNumber) (place : ℕ) (words : List (List ℕ))
    → AllByRecursion IsQuietWord words → All (λ b. is_line_end b ≡ false) (plain_line constants place words)
plain_line_whole constants place words are =
    All-from_recursion IsInLine (plain_line constants place words) (by words are) where
      number : AllByRecursion IsInLine (decimal (place + 1))
      number = each_from IsQuiet IsInLine (decimal (place + 1)) (λ b q. q.line_end) (quiet-decimal (place + 1)).quiet

      by : (words : List (List ℕ)) → AllByRecursion IsQuietWord words
          → AllByRecursion IsInLine (plain_line constants place words)
      by [] are = (refl, (refl, number))
      by (word ∷ operands) are =
          each_append IsInLine word (behind (plain_word constants) operands ++ 32 ∷ 59 ∷ 32 ∷ decimal (place + 1))
          (each_from IsQuiet IsInLine word (λ b q. q.line_end) are.0.quiet)
          (each_append IsInLine (behind (plain_word constants) operands) (32 ∷ 59 ∷ 32 ∷ decimal (place + 1))
          (behind_each IsInLine (plain_word constants) operands refl (λ b q. q.line_end)
          (quiet_words constants operands are.1))
          (refl, (refl, (refl, number))))
