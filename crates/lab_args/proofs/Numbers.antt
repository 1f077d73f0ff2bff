-- What words are read as, where they are parsed as numbers.
use Rattle.std.proofs.Common.{◌≡◌, ℕ, ◌<◌, ◌^◌, Bool, true, false, ◌&&◌, ◌⊎◌, None, Some, Option, Result, Ok, Err}
use Rattle.std.proofs.Common.{List, [], ◌∷◌, length, refl, sym, ap, ◌∙◌, arith, inl, inr}
use Rattle.std.specs.Prelude.{if◌then◌else◌, nat_lt, cond, drop, slice_index, ◌==◌}
use Rattle.std.specs.List.{list_all}
use Rattle.std.specs.Char.{digit_value, is_digit}
use Rattle.std.specs.Option.{ok_or}
use Rattle.std.specs.Str.Parse.{AllDigits, IsNumeral, ParsesUnsigned, digits_value, without_leading_plus}
use Rattle.std.specs.Result.{result_ok}
use Rattle.std.proofs.lemmas.Bool.Decides.{nat_tests}
use Rattle.cm_bits.specs.Text.{has_bytes}
use Rattle.lab_args.specs.declared.operands.Operand.{Operand}
use Rattle.lab_args.specs.declared.fault.CommandFault.{CommandFault}
use Rattle.lab_args.specs.Refusals.{Text, Refusal, Wanted, Memory, reported_refusal, Reports}
use Rattle.lab_args.specs.Operands.{digits_below, operand_below}

-- a length above 0 says that there are bytes
some_bytes : (bytes : List ℕ) → 0 < length bytes → has_bytes bytes ≡ true
some_bytes [] h = absurd (omega arith)
some_bytes (byte ∷ bytes) h = refl

-- and bytes that there are have a length
bytes_some : (bytes : List ℕ) → has_bytes bytes ≡ true → 0 < length bytes
bytes_some [] h = absurd (cc)
bytes_some (byte ∷ bytes) h = omega arith

-- the test of digits passes digits
all_digits : (ds : List ℕ) → AllDigits 10 ds → list_all (λ d. is_digit d 10) ds ≡ true
all_digits [] h = refl
all_digits (c ∷ cs) h =
    let first : is_digit c 10 ≡ true = grind (arith, nat_tests, h.0) in
    λ i. first i && all_digits cs h.1 i

-- both are true
both_true : (a b : Bool) → (a && b) ≡ true → (a ≡ true) × (b ≡ true)
both_true true b h = (refl, h)
both_true false b h = absurd (cc)

-- and nothing else
digits_all : (ds : List ℕ) → list_all (λ d. is_digit d 10) ds ≡ true → AllDigits 10 ds
digits_all [] h = tt
digits_all (c ∷ cs) h =
    let parts = both_true (is_digit c 10) (list_all (λ d. is_digit d 10) cs) h in
    let first : digit_value c < 10 = grind (arith, nat_tests, parts.0) in
    (first, digits_all cs parts.1)

-- a numeral below the limit is its number
pub digits_are : (limit n : ℕ) (ds : List ℕ) → IsNumeral 10 ds → n ≡ digits_value 10 ds → n < limit
    → digits_below limit ds ≡ Some n
digits_are limit n ds is value small =
    let some = some_bytes ds is.0 in
    let all = all_digits ds is.1 in
    let fits : nat_lt (digits_value 10 ds) limit ≡ true = grind (arith, nat_tests, value, small) in
    (λ i. if some i && all i && fits i then Some (digits_value 10 ds) else None) ∙ ap (λ (m : ℕ). Some m) (sym value)

-- and nothing else is a number below it
pub digits_are_not : (limit : ℕ) (ds : List ℕ) → (IsNumeral 10 ds × (digits_value 10 ds < limit) → ⊥)
    → digits_below limit ds ≡ None
digits_are_not limit ds wrong =
    by (has_bytes ds) (list_all (λ d. is_digit d 10) ds) (nat_lt (digits_value 10 ds) limit) refl refl refl where
      by : (some all fits : Bool) → has_bytes ds ≡ some → list_all (λ d. is_digit d 10) ds ≡ all
          → nat_lt (digits_value 10 ds) limit ≡ fits
          → (if some && all && fits then Some (digits_value 10 ds) else None) ≡ None
      by true true true e f g =
          let small : digits_value 10 ds < limit = grind (arith, nat_tests, g) in
          absurd (wrong ((bytes_some ds e, digits_all ds f), small))
      by true true false e f g = refl
      by true false fits e f g = refl
      by false all fits e f g = refl

-- so is a word, without a plus before it
pub number_is : (limit n : ℕ) (operand : Operand) (word : Text) → IsNumeral 10 (without_leading_plus word)
    → n ≡ digits_value 10 (without_leading_plus word) → n < limit → operand_below limit operand word ≡ Ok n
number_is limit n operand word is value small =
    ap (λ (o : Option ℕ). ok_or o (Wanted operand word)) (digits_are limit n (without_leading_plus word) is value small)

-- what is no numeral below the limit is wanted
pub number_is_not : (limit : ℕ) (operand : Operand) (word : Text)
    → (IsNumeral 10 (without_leading_plus word) × (digits_value 10 (without_leading_plus word) < limit) → ⊥)
    → operand_below limit operand word ≡ Err (Wanted operand word)
number_is_not limit operand word wrong =
    ap (λ (o : Option ℕ). ok_or o (Wanted operand word)) (digits_are_not limit (without_leading_plus word) wrong)

-- a word that does not begin with a plus begins with no sign
pub no_plus : (word : Text) → (slice_index word 0 == 43) ≡ false → without_leading_plus word ≡ word
no_plus word is = ap (λ (b : Bool). drop (cond b 1 0) word) is ∙ drop_none word where
  drop_none : (w : Text) → drop 0 w ≡ w
  drop_none [] = refl
  drop_none (c ∷ cs) = refl

-- what is parsed of a word without a plus before it
pub parsed_digits : {E : Type 0} (word : Text) (parsed : Result ℕ E) → (slice_index word 0 == 43) ≡ false
    → ParsesUnsigned 16 10 word parsed → result_ok parsed ≡ digits_below (2 ^ 16) word
parsed_digits word (Ok n) plain is =
    sym (digits_are (2 ^ 16) n (without_leading_plus word) is.0.0 is.1 (omega (arith, is.0.1, is.1)))
    ∙ ap (digits_below (2 ^ 16)) (no_plus word plain)
parsed_digits word (Err e) plain is =
    sym (digits_are_not (2 ^ 16) (without_leading_plus word) is) ∙ ap (digits_below (2 ^ 16)) (no_plus word plain)

-- a fault that tells what was read in vain, or want of memory
pub tells : {A : Type 0} (reading : Result A Refusal) (fault : CommandFault) (refusal : Refusal)
    → reading ≡ Err refusal → (reported_refusal fault ≡ Memory) ⊎ (reported_refusal fault ≡ refusal) → Reports reading fault
tells reading fault refusal is (inl memory) = inl memory
tells reading fault refusal is (inr same) = inr (is ∙ ap (λ (r : Refusal). Err r) (sym same))
