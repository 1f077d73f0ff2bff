-- The words of a listing's line are read from it, and its lines from the text.
use Rattle.std.proofs.Common.{◌≡◌, ℕ, suc, ◌+◌, ◌<◌, Bool, true, false, not, cond, List, [], ◌∷◌, ◌++◌, length, take}
use Rattle.std.proofs.Common.{refl, sym, ap, ◌∙◌, arith, append_assoc}
use Rattle.std.specs.List.{All, before_first, filter, position_or_len, slice_split}
use Rattle.std.proofs.lemmas.Bool.Decides.{nat_tests}
use Rattle.std.proofs.lemmas.List.Elements.{All-nil, All-cons, All-head, All-tail, All-append}
use Rattle.std.proofs.lemmas.List.Splits.{slice_split_none, slice_split_at, length-slice_split}
use Rattle.cm_bits.specs.Text.{has_bytes, is_blank, is_comment_start, is_line_end, lines_of, words_in, words_of}
use Rattle.cm_bits.specs.Text.{without_empty_last}
use Rattle.cm_bits.proofs.TextLemmas.{without_empty_last-cons}
use Rattle.cm_language.specs.Listing.{spaced}
use Rattle.cm_language.proofs.Numerals.{IsPlain, ArePlain, IsWord}

-- words alone
abbrev pub AreWords : List (List ℕ) → Type 0
AreWords [] = Unit {0}
AreWords (word ∷ words) = IsWord word × AreWords words

-- none of the bytes passes the test
abbrev pub NonePass : (ℕ → Bool) → List ℕ → Type 0
NonePass p bytes = All (λ byte. p byte ≡ false) bytes

-- no byte of a word passes the test
abbrev Spares : (ℕ → Bool) → Type 0
Spares p = (byte : ℕ) → IsPlain byte → p byte ≡ false

-- no byte of a word is blank
spares_blank : Spares is_blank
spares_blank byte plain = grind (arith, nat_tests, plain.dark)

-- none begins a comment
spares_comment : Spares is_comment_start
spares_comment byte plain = grind (arith, nat_tests, plain.kept)

-- none ends a line
pub spares_line_end : Spares is_line_end
spares_line_end byte plain = grind (arith, nat_tests, plain.dark)

-- so no byte of a word passes such a test
pub plain_spared : (p : ℕ → Bool) → Spares p → (bytes : List ℕ) → ArePlain bytes → NonePass p bytes
plain_spared p spares [] plain = All-nil (λ b. p b ≡ false)
plain_spared p spares (byte ∷ bytes) plain = All-cons (λ b. p b ≡ false) byte bytes (spares byte plain.0)
    (plain_spared p spares bytes plain.1)

-- what passes no byte of a word and no space, passes none of words with spaces between them
pub spaced_spared : (p : ℕ → Bool) → Spares p → p 32 ≡ false → (words : List (List ℕ)) → AreWords words
    → NonePass p (spaced words)
spaced_spared p spares space [] h = All-nil (λ b. p b ≡ false)
spaced_spared p spares space (word ∷ []) h = plain_spared p spares word h.0.plain
spaced_spared p spares space (word ∷ next ∷ words) h =
    All-append (λ b. p b ≡ false) word (32 ∷ spaced (next ∷ words)) (plain_spared p spares word h.0.plain)
    (All-cons (λ b. p b ≡ false) 32 (spaced (next ∷ words)) space (spaced_spared p spares space (next ∷ words) h.1))

-- ---- words of a line

-- spaced words are cut at their spaces into those words
parts_of : (word : List ℕ) (words : List (List ℕ)) → AreWords (word ∷ words)
    → slice_split is_blank (spaced (word ∷ words)) ≡ word ∷ words
parts_of word [] h = slice_split_none is_blank word (plain_spared is_blank spares_blank word h.0.plain)
parts_of word (next ∷ words) h =
    slice_split_at is_blank word 32 (spaced (next ∷ words)) (plain_spared is_blank spares_blank word h.0.plain) refl
    ∙ ap (λ (parts : List (List ℕ)). word ∷ parts) (parts_of next words h.1)

-- and where a space follows, an empty part comes last
parts_before_space : (word : List ℕ) (words : List (List ℕ)) → AreWords (word ∷ words)
    → slice_split is_blank (spaced (word ∷ words) ++ 32 ∷ []) ≡ (word ∷ words) ++ [] ∷ []
parts_before_space word [] h =
    slice_split_at is_blank word 32 [] (plain_spared is_blank spares_blank word h.0.plain) refl
parts_before_space word (next ∷ words) h =
    ap (slice_split is_blank) (append_assoc word (32 ∷ spaced (next ∷ words)) (32 ∷ []))
    ∙ slice_split_at is_blank word 32 (spaced (next ∷ words) ++ 32 ∷ [])
    (plain_spared is_blank spares_blank word h.0.plain) refl
    ∙ ap (λ (parts : List (List ℕ)). word ∷ parts) (parts_before_space next words h.1)

-- words have bytes, so all of them are kept
all_kept : (words : List (List ℕ)) → AreWords words → filter has_bytes words ≡ words
all_kept [] h = refl
all_kept (word ∷ words) h =
    ap (λ (b : Bool). cond b (word ∷ filter has_bytes words) (filter has_bytes words)) h.0.some
    ∙ ap (λ (rest : List (List ℕ)). word ∷ rest) (all_kept words h.1)

-- and an empty part is not
but_the_last : (words : List (List ℕ)) → AreWords words → filter has_bytes (words ++ [] ∷ []) ≡ words
but_the_last [] h = refl
but_the_last (word ∷ words) h =
    ap (λ (b : Bool). cond b (word ∷ filter has_bytes (words ++ [] ∷ [])) (filter has_bytes (words ++ [] ∷ [])))
    h.0.some
    ∙ ap (λ (rest : List (List ℕ)). word ∷ rest) (but_the_last words h.1)

-- a byte that fails the test stands before the first that passes
before_first-cons : (p : ℕ → Bool) (x : ℕ) (xs : List ℕ) → p x ≡ false → before_first p (x ∷ xs) ≡ x ∷ before_first p xs
before_first-cons p x xs h =
    let one : 1 + position_or_len p xs ≡ suc (position_or_len p xs) = omega arith in
    ap (λ (b : Bool). take (cond (not b) (1 + position_or_len p xs) 0) (x ∷ xs)) h ∙ ap (λ (k : ℕ). take k (x ∷ xs)) one

-- where none passes, that is all
before_first-all : (p : ℕ → Bool) (xs : List ℕ) → NonePass p xs → before_first p xs ≡ xs
before_first-all p [] h = refl
before_first-all p (x ∷ xs) h =
    before_first-cons p x xs (All-head (λ b. p b ≡ false) x xs h)
    ∙ ap (λ (rest : List ℕ). x ∷ rest) (before_first-all p xs (All-tail (λ b. p b ≡ false) x xs h))

-- else what stands before it
before_first-at : (p : ℕ → Bool) (xs : List ℕ) (y : ℕ) (ys : List ℕ) → NonePass p xs → p y ≡ true
    → before_first p (xs ++ y ∷ ys) ≡ xs
before_first-at p [] y ys h e = ap (λ (b : Bool). take (cond (not b) (1 + position_or_len p ys) 0) (y ∷ ys)) e
before_first-at p (x ∷ xs) y ys h e =
    before_first-cons p x (xs ++ y ∷ ys) (All-head (λ b. p b ≡ false) x xs h)
    ∙ ap (λ (rest : List ℕ). x ∷ rest) (before_first-at p xs y ys (All-tail (λ b. p b ≡ false) x xs h) e)

-- words with one space between them are the line's words
pub words_of-spaced : (words : List (List ℕ)) → AreWords words → words_of (spaced words) ≡ words
words_of-spaced [] h = refl
words_of-spaced (word ∷ words) h =
    ap words_in (before_first-all is_comment_start (spaced (word ∷ words))
    (spaced_spared is_comment_start spares_comment refl (word ∷ words) h))
    ∙ ap (filter has_bytes) (parts_of word words h) ∙ all_kept (word ∷ words) h

-- and so they are before a space and a comment
pub words_of-commented : (words : List (List ℕ)) (comment : List ℕ) → AreWords words
    → words_of (spaced words ++ 32 ∷ 59 ∷ comment) ≡ words
words_of-commented [] comment h = refl
words_of-commented (word ∷ words) comment h =
    let front : NonePass is_comment_start (spaced (word ∷ words) ++ 32 ∷ []) =
    All-append (λ b. is_comment_start b ≡ false) (spaced (word ∷ words)) (32 ∷ [])
    (spaced_spared is_comment_start spares_comment refl (word ∷ words) h)
    (All-cons (λ b. is_comment_start b ≡ false) 32 [] refl (All-nil (λ b. is_comment_start b ≡ false))) in
    ap words_of (sym (append_assoc (spaced (word ∷ words)) (32 ∷ []) (59 ∷ comment)))
    ∙ ap words_in (before_first-at is_comment_start (spaced (word ∷ words) ++ 32 ∷ []) 59 comment front refl)
    ∙ ap (filter has_bytes) (parts_before_space word words h) ∙ but_the_last (word ∷ words) h

-- ---- lines of a text

-- bytes up to a line end are the first line
pub lines_of-first : (line rest : List ℕ) → NonePass is_line_end line
    → lines_of (line ++ 10 ∷ rest) ≡ line ∷ lines_of rest
lines_of-first line rest h =
    let some : 0 < length (slice_split is_line_end rest) = omega (arith, length-slice_split is_line_end rest) in
    ap without_empty_last (slice_split_at is_line_end line 10 rest h refl)
    ∙ without_empty_last-cons line (slice_split is_line_end rest) some
