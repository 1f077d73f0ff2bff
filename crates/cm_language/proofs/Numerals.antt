-- The numbers that a listing writes are read as those numbers.
use Rattle.std.proofs.Common.{◌≡◌, ℕ, ◌/◌, ◌%◌, ◌^◌, ◌<◌, ◌≤◌, ◌≢◌, Bool, true, false, ◌&&◌, eqb, None, Some, List, []}
use Rattle.std.proofs.Common.{◌∷◌, length, drop, refl, ap, ◌∙◌, arith}
use Rattle.std.specs.Prelude.{if◌then◌else◌, decimal, nat_lt, slice_index}
use Rattle.std.specs.List.{list_all}
use Rattle.std.specs.Char.{digit_value, is_digit}
use Rattle.std.specs.Str.Parse.{AllDigits, IsNumeral, digits_value}
use Rattle.std.proofs.lemmas.Bool.Decides.{nat_tests}
use Rattle.std.proofs.lemmas.Fmt.{decimal_is_IsNumeral}
use Rattle.std.proofs.lemmas.Str.Parse.{digit_from_value}
use Rattle.cm_bits.specs.Text.{has_bytes, is_hex, number_in, number_of}
use Rattle.cm_language.specs.Listing.{hex_digit, table_word}

-- ---- bytes and words of a line

-- a byte that can stand in a word: it ends neither a word nor a line, and begins no comment
pub record IsPlain (byte : ℕ) : Type 0 where
  pub dark : 33 ≤ byte
  pub kept : byte ≢ 59

-- bytes of words alone
abbrev pub ArePlain : List ℕ → Type 0
ArePlain [] = Unit {0}
ArePlain (byte ∷ bytes) = IsPlain byte × ArePlain bytes

-- one byte or more, all of a word
pub record IsWord (word : List ℕ) : Type 0 where
  pub some : has_bytes word ≡ true
  pub plain : ArePlain word

-- ---- decimal numbers

-- a digit is a byte of words
plain_digit : (c : ℕ) → digit_value c < 10 → IsPlain c
plain_digit c h =
    let range = digit_from_value c h in
    record { dark = omega arith; kept = λ e. omega arith }

-- and digits are
plain_digits : (ds : List ℕ) → AllDigits 10 ds → ArePlain ds
plain_digits [] h = tt
plain_digits (c ∷ cs) h = (plain_digit c h.0, plain_digits cs h.1)

-- a length above 0 says that there are bytes
some_bytes : (bytes : List ℕ) → 0 < length bytes → has_bytes bytes ≡ true
some_bytes [] h = absurd (omega arith)
some_bytes (byte ∷ bytes) h = refl

-- the test of digits passes digits
all_digits : (base : ℕ) (ds : List ℕ) → AllDigits base ds → list_all (λ d. is_digit d base) ds ≡ true
all_digits base [] h = refl
all_digits base (c ∷ cs) h =
    let first : is_digit c base ≡ true = grind (arith, nat_tests, h.0) in
    λ i. first i && all_digits base cs h.1 i

-- digits that are read whole
read_in : (base n : ℕ) (ds : List ℕ) → IsNumeral base ds → digits_value base ds ≡ n → n < 2 ^ 64
    → number_in base ds ≡ Some n
read_in base n ds is value small =
    let some = some_bytes ds is.0 in
    let all = all_digits base ds is.1 in
    let fits : nat_lt (digits_value base ds) (2 ^ 64) ≡ true = grind (arith, nat_tests, value, small) in
    (λ i. if some i && all i && fits i then Some (digits_value base ds) else None) ∙ ap (λ (m : ℕ). Some m) value

-- no second byte of a decimal number is an x
no_x : (ds : List ℕ) → AllDigits 10 ds → (eqb (slice_index ds 1) 120) ≡ false
no_x [] h = refl
no_x (c ∷ []) h = refl
no_x (c ∷ d ∷ ds) h =
    let range = digit_from_value d h.1.0 in
    let other : d ≢ 120 = λ e. omega arith in
    grind (arith, nat_tests)

-- what is false makes both false
and_false : (a b : Bool) → b ≡ false → (a && b) ≡ false
and_false true b h = h
and_false false b h = refl

-- a number written in decimal is read as that number
pub number_of-decimal : (n : ℕ) → n < 2 ^ 64 → number_of (decimal n) ≡ Some n
number_of-decimal n small =
    let is = decimal_is_IsNumeral n small in
    let plain : is_hex (decimal n) ≡ false = and_false (eqb (slice_index (decimal n) 0) 48)
    (eqb (slice_index (decimal n) 1) 120) (no_x (decimal n) is.0.1) in
    ap (λ (hex : Bool). if hex then number_in 16 (drop 2 (decimal n)) else number_in 10 (decimal n)) plain
    ∙ read_in 10 n (decimal n) is.0 is.1 small

-- and is a word
pub word-decimal : (n : ℕ) → n < 2 ^ 64 → IsWord (decimal n)
word-decimal n small =
    let is = decimal_is_IsNumeral n small in
    record { some = some_bytes (decimal n) is.0.0; plain = plain_digits (decimal n) is.0.1 }

-- ---- truth tables

-- a hexadecimal digit's value is its number
pub digit_value-hex_digit : (d : ℕ) → d < 16 → digit_value (hex_digit d) ≡ d
digit_value-hex_digit d small = grind (arith, nat_tests)

-- a truth table is read as that table
pub number_of-table_word : (table : ℕ) → table < 256 → number_of (table_word table) ≡ Some table
number_of-table_word table small =
    let high = digit_value-hex_digit (table / 16) (omega arith) in
    let low = digit_value-hex_digit (table % 16) (omega arith) in
    read_in 16 table (hex_digit (table / 16) ∷ hex_digit (table % 16) ∷ [])
    (omega arith, (omega (arith, high), (omega (arith, low), tt))) (omega (arith, high, low)) (omega arith)
