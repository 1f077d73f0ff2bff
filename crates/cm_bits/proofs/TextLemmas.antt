-- Lines, words and numbers, taken from the front.
use Rattle.std.proofs.Common.{◌≡◌, ℕ, ◌+◌, ◌-◌, ◌*◌, ◌^◌, ◌<◌, ◌≤◌, ◌⊎◌, Bool, true, false, cond, not, ◌&&◌, None, Some}
use Rattle.std.proofs.Common.{List, [], ◌∷◌, length, take, drop, get_or, refl, inl, inr, sym, ap, subst, ◌∙◌, ◌==◌}
use Rattle.std.proofs.Common.{nat_lt, le-ltb, arith}
use Rattle.std.proofs.lemmas.Bool.{cases_lt, false_from_ne_true}
use Rattle.std.proofs.lemmas.Grind.{common_steps}
use Rattle.std.proofs.lemmas.List.Splits.{slice_split-cons_yes, slice_split_none, slice_split_first, length-slice_split}
use Rattle.std.proofs.lemmas.List.Sums.{passes_at_first, fails_before_first, position_or_len_is, prefix_len_stops}
use Rattle.std.proofs.Math.Nat.{le-mul_of_pos_right}
use Rattle.std.specs.List.{All, filter, list_all, position_or_len, prefix_len, slice_split}
use Rattle.std.specs.Char.{digit_value, is_digit}
use Rattle.std.specs.Str.Parse.{digits_value, digits_value_after}
use Rattle.memchr.specs.Find.{NoneBefore, Nowhere, Passes, is_byte}
use Rattle.cm_bits.specs.Text.{has_bytes, number_in, is_blank, is_line_end, lines_of, words_in, without_empty_last}

-- the parts with bytes in them
abbrev kept : List (List ℕ) → List (List ℕ)
kept parts = filter has_bytes parts

kept-cons : (word : List ℕ) (words : List (List ℕ)) → 0 < length word → kept (word ∷ words) ≡ word ∷ kept words
kept-cons [] words some = absurd (omega arith)
kept-cons (x ∷ word) words some = refl

-- no element passes where the place of the first that does is the length
none_pass : (p : ℕ → Bool) (xs : List ℕ) → length xs ≤ position_or_len p xs → All (λ x. p x ≡ false) xs
none_pass p xs h = λ k d l. fails_before_first p xs k d (omega arith)

-- a blank at the front is in no word
pub words_in-blank : (x : ℕ) (xs : List ℕ) → is_blank x ≡ true → words_in (x ∷ xs) ≡ words_in xs
words_in-blank x xs h = ap kept (slice_split-cons_yes is_blank x xs h)

-- nor are all the blanks at the front
pub words_in-without_blanks : (xs : List ℕ) → words_in (drop (prefix_len is_blank xs) xs) ≡ words_in xs
words_in-without_blanks [] = refl
words_in-without_blanks (x ∷ xs) = by (words_in-without_blanks xs) (is_blank x) refl where
  by : words_in (drop (prefix_len is_blank xs) xs) ≡ words_in xs → (b : Bool) → is_blank x ≡ b
      → words_in (drop (cond b (1 + prefix_len is_blank xs) 0) (x ∷ xs)) ≡ words_in (x ∷ xs)
  by rest true h =
      let same : drop (1 + prefix_len is_blank xs) (x ∷ xs) ≡ drop (prefix_len is_blank xs) xs =
      grind (arith, common_steps) in
      ap words_in same ∙ rest ∙ sym (words_in-blank x xs h)
  by rest false h = refl

-- bytes up to a blank are the first word
pub words_in-word : (xs : List ℕ) (n : ℕ) → n ≡ position_or_len is_blank xs → 0 < n → n ≤ length xs
    → words_in xs ≡ take n xs ∷ words_in (drop n xs)
words_in-word xs n e some within = by (cases_lt n (length xs)) where
  some_before : 0 < length (take n xs)
  some_before = grind (arith, common_steps)

  by : (n < length xs) ⊎ (length xs ≤ n) → words_in xs ≡ take n xs ∷ words_in (drop n xs)
  by (inl inside) =
      let inside' : position_or_len is_blank xs < length xs = omega arith in
      let blank : is_blank (get_or xs n 0) ≡ true =
      subst (λ (m : ℕ). is_blank (get_or xs m 0) ≡ true) (sym e) (passes_at_first is_blank xs 0 inside') in
      let split : slice_split is_blank xs ≡ take n xs ∷ slice_split is_blank (drop (n + 1) xs) =
      subst (λ (m : ℕ). slice_split is_blank xs ≡ take m xs ∷ slice_split is_blank (drop (m + 1) xs)) (sym e)
      (slice_split_first is_blank xs 0 inside') in
      let after : drop n xs ≡ get_or xs n 0 ∷ drop (n + 1) xs = grind (arith, common_steps) in
      ap kept split ∙ kept-cons (take n xs) (slice_split is_blank (drop (n + 1) xs)) some_before
      ∙ ap (λ (words : List (List ℕ)). take n xs ∷ words)
      (sym (ap words_in after ∙ words_in-blank (get_or xs n 0) (drop (n + 1) xs) blank))
  by (inr end) =
      let all : take n xs ≡ xs = grind (arith, common_steps) in
      let after : drop n xs ≡ [] = grind (arith, common_steps) in
      ap kept (slice_split_none is_blank xs (none_pass is_blank xs (omega arith))) ∙ kept-cons xs [] (omega arith)
      ∙ (λ i. sym all i ∷ words_in (sym after i))

-- where no word follows the blanks, there is none
pub words_in-none : (xs : List ℕ) → position_or_len is_blank (drop (prefix_len is_blank xs) xs) ≡ 0 → words_in xs ≡ []
words_in-none xs e = sym (words_in-without_blanks xs) ∙ none (drop (prefix_len is_blank xs) xs) e starts where
  starts : 0 < length (drop (prefix_len is_blank xs) xs)
      → is_blank (get_or (drop (prefix_len is_blank xs) xs) 0 0) ≡ false
  starts h =
      let inside : prefix_len is_blank xs < length xs = grind (arith, common_steps) in
      let same : get_or (drop (prefix_len is_blank xs) xs) 0 0 ≡ get_or xs (prefix_len is_blank xs) 0 =
      grind (arith, common_steps) in
      ap is_blank same ∙ prefix_len_stops is_blank xs 0 inside

  none : (ys : List ℕ) → position_or_len is_blank ys ≡ 0
      → (0 < length ys → is_blank (get_or ys 0 0) ≡ false) → words_in ys ≡ []
  none [] f h = refl
  none (y ∷ ys) f h =
      let g : 1 + position_or_len is_blank ys ≡ 0 =
      subst (λ (b : Bool). cond (not b) (1 + position_or_len is_blank ys) 0 ≡ 0) (h (omega arith)) f in
      absurd (omega arith)

-- a part before others stays
pub without_empty_last-cons : (part : List ℕ) (parts : List (List ℕ)) → 0 < length parts
    → without_empty_last (part ∷ parts) ≡ part ∷ without_empty_last parts
without_empty_last-cons part [] some = absurd (omega arith)
without_empty_last-cons part (next ∷ parts) some = refl

-- bytes up to a line end are the first line
pub lines_of-line : (xs : List ℕ) (n : ℕ) → n ≡ position_or_len is_line_end xs → n < length xs
    → lines_of xs ≡ take n xs ∷ lines_of (drop (n + 1) xs)
lines_of-line xs n e within =
    let split : slice_split is_line_end xs ≡ take n xs ∷ slice_split is_line_end (drop (n + 1) xs) =
    subst (λ (m : ℕ). slice_split is_line_end xs ≡ take m xs ∷ slice_split is_line_end (drop (m + 1) xs)) (sym e)
    (slice_split_first is_line_end xs 0 (omega arith)) in
    let some : 0 < length (slice_split is_line_end (drop (n + 1) xs)) =
    omega (arith, length-slice_split is_line_end (drop (n + 1) xs)) in
    ap without_empty_last split ∙ without_empty_last-cons _ _ some

-- bytes with no line end are one line, if there are any
pub lines_of-last : (xs : List ℕ) (n : ℕ) → n ≡ position_or_len is_line_end xs → length xs ≤ n
    → 0 < length xs → lines_of xs ≡ xs ∷ []
lines_of-last xs n e within some =
    ap without_empty_last (slice_split_none is_line_end xs (none_pass is_line_end xs (omega arith))) ∙ one xs some where
      one : (ys : List ℕ) → 0 < length ys → without_empty_last (ys ∷ []) ≡ ys ∷ []
      one [] h = absurd (omega arith)
      one (y ∷ ys) h = refl

-- more digits make no number less
pub digits_value_after-ge : (base n : ℕ) (ds : List ℕ) → 1 ≤ base → n ≤ digits_value_after base n ds
digits_value_after-ge base n [] low = omega arith
digits_value_after-ge base n (d ∷ ds) low =
    let step : n ≤ n * base = le-mul_of_pos_right n (omega arith) in
    let more : n * base + digit_value d ≤ digits_value_after base (n * base + digit_value d) ds =
    digits_value_after-ge base (n * base + digit_value d) ds low in
    omega arith

-- a number that is too big is none
pub number_in-too_big : (base : ℕ) (ds : List ℕ) → 2 ^ 64 ≤ digits_value base ds → number_in base ds ≡ None
number_in-too_big base ds big =
    let test : nat_lt (digits_value base ds) (2 ^ 64) ≡ false = le-ltb _ _ big in
    subst (λ (b : Bool). cond ((has_bytes ds && list_all (λ d. is_digit d base) ds)
    && b) (Some (digits_value base ds)) None ≡ None) (sym test)
    (by (has_bytes ds && list_all (λ d. is_digit d base) ds)) where
      by : (b : Bool) → cond (b && false) (Some (digits_value base ds)) None ≡ None
      by true = refl
      by false = refl

-- where the digits so far and the next are too big, so is the whole
pub too_big_before : (base value i : ℕ) (ds : List ℕ) → 1 ≤ base → i < length ds
    → digits_value_after base value (drop i ds) ≡ digits_value base ds
    → 2 ^ 64 ≤ value * base + digit_value (get_or ds i 0) → number_in base ds ≡ None
too_big_before base value i ds low inside same big =
    let front : drop i ds ≡ get_or ds i 0 ∷ drop (i + 1) ds = grind (arith, common_steps) in
    let more : value * base + digit_value (get_or ds i 0)
    ≤ digits_value_after base (value * base + digit_value (get_or ds i 0)) (drop (i + 1) ds) =
    digits_value_after-ge base (value * base + digit_value (get_or ds i 0)) (drop (i + 1) ds) low in
    let whole : digits_value_after base (value * base + digit_value (get_or ds i 0)) (drop (i + 1) ds)
    ≡ digits_value base ds =
    sym (ap (digits_value_after base value) front) ∙ same in
    number_in-too_big base ds (omega arith)

-- what `Words` gives after the blanks
pub words_in-after_blanks : (text : List ℕ) (b n : ℕ) → b ≡ prefix_len is_blank text → b ≤ length text
    → n ≡ position_or_len is_blank (take (length text - b) (drop b text))
    → n ≤ length (take (length text - b) (drop b text)) → 0 < n
    → words_in text ≡ take n (take (length text - b) (drop b text)) ∷ words_in
    (take (length (take (length text - b) (drop b text)) - n) (drop n (take (length text - b) (drop b text))))
words_in-after_blanks text b n e within f inside some =
    let whole : take (length text - b) (drop b text) ≡ drop b text = grind (arith, common_steps) in
    let P : List ℕ → Type 0 = λ rest. n ≡ position_or_len is_blank rest → n ≤ length rest
    → words_in text ≡ take n rest ∷ words_in (take (length rest - n) (drop n rest)) in
    subst P (sym whole) (λ g h. begin g h) f inside where
      begin : n ≡ position_or_len is_blank (drop b text) → n ≤ length (drop b text)
          → words_in text ≡ take n (drop b text) ∷ words_in (take (length (drop b text) - n) (drop n (drop b text)))
      begin g h =
          let same : words_in (drop b text) ≡ words_in text =
          subst (λ (k : ℕ). words_in (drop k text) ≡ words_in text) (sym e) (words_in-without_blanks text) in
          let rest : take (length (drop b text) - n) (drop n (drop b text)) ≡ drop n (drop b text) =
          grind (arith, common_steps) in
          sym same ∙ words_in-word (drop b text) n g some h
          ∙ ap (λ (left : List ℕ). take n (drop b text) ∷ words_in left) (sym rest)

-- and where there is no word
pub words_in-all_blank : (text : List ℕ) (b n : ℕ) → b ≡ prefix_len is_blank text → b ≤ length text
    → n ≡ position_or_len is_blank (take (length text - b) (drop b text))
    → n ≤ 0 → (words_in text ≡ []) × (words_in (take (length (take (length text - b) (drop b text)) - n)
    (drop n (take (length text - b) (drop b text)))) ≡ [])
words_in-all_blank text b n e within f none =
    let whole : take (length text - b) (drop b text) ≡ drop b text = grind (arith, common_steps) in
    let zero : position_or_len is_blank (drop (prefix_len is_blank text) text) ≡ 0 =
    ap (λ (k : ℕ). position_or_len is_blank (drop k text)) (sym e) ∙ ap (position_or_len is_blank) (sym whole)
    ∙ sym f ∙ omega arith in
    let empty : words_in text ≡ [] = words_in-none text zero in
    let rest : take (length (take (length text - b) (drop b text)) - n) (drop n (take (length text - b) (drop b text)))
    ≡ drop (prefix_len is_blank text) text = grind (arith, common_steps) in
    (empty, ap words_in rest ∙ words_in-without_blanks text ∙ empty)

-- what `Lines` gives where there is a line end
pub lines_of-before_end : (text : List ℕ) (n : ℕ) → n ≡ position_or_len is_line_end text → n < length text
    → lines_of text ≡ take n text ∷ lines_of (take (length text - (n + 1)) (drop (n + 1) text))
lines_of-before_end text n e inside =
    let rest : take (length text - (n + 1)) (drop (n + 1) text) ≡ drop (n + 1) text = grind (arith, common_steps) in
    lines_of-line text n e inside ∙ ap (λ (left : List ℕ). take n text ∷ lines_of left) (sym rest)

-- ---- the first place of a byte, as memchr answers it

-- where there is one
pub first_place : (byte k : ℕ) (bytes : List ℕ) → NoneBefore (Passes (is_byte byte) bytes) 0 (length bytes) k
    → Passes (is_byte byte) bytes k
    → k ≡ position_or_len (λ other. other == byte) bytes
first_place byte k bytes none here =
    sym (position_or_len_is (λ (other : ℕ). other == byte) bytes k 0 (omega (arith, none.high))
    (λ j l. false_from_ne_true (get_or bytes j 0 == byte) (none.before j (omega arith) l))
    (λ l. here))

-- where there is none
pub no_place : (byte : ℕ) (bytes : List ℕ) → Nowhere (Passes (is_byte byte) bytes) 0 (length bytes)
    → length bytes ≡ position_or_len (λ other. other == byte) bytes
no_place byte bytes nowhere =
    sym (position_or_len_is (λ (other : ℕ). other == byte) bytes (length bytes) 0 (omega arith)
    (λ j l. false_from_ne_true (get_or bytes j 0 == byte) (nowhere j (omega arith) l))
    (λ l. absurd (omega (arith, l))))
