-- The rates that a word says, in hundredths of a message: ours.
use Rattle.std.specs.Prelude.{◌≡◌, ℕ, ◌+◌, ◌<◌, ◌*◌, ◌^◌, ◌==◌, Bool, nat_lt, if◌then◌else◌, Option, Some, None}
use Rattle.std.specs.Prelude.{option_map, Result, Ok}
use Rattle.std.specs.Prelude.{List, [], ◌∷◌, ◌++◌, length}
use Rattle.std.specs.List.{after_first, before_first, position_or_len, slice_split}
use Rattle.std.specs.Option.{ok_or}
use Rattle.cm_bits.specs.Text.{is_comma, is_point}
use Rattle.lab_args.specs.declared.operands.Operand.TheVariants as operand
use Rattle.lab_args.specs.Refusals.{Text, Refusal, Wanted, ◌>>=◌}
use Rattle.lab_args.specs.Operands.{digits_below}

-- a number of at most sixteen bits
abbrev pub fitting : ℕ → Option ℕ
fitting number = if nat_lt number (2 ^ 16) then Some number else None

-- so many hundredths are a whole number and these
abbrev pub in_hundredths : Option ℕ → Option ℕ → Option ℕ
in_hundredths None part = None
in_hundredths (Some whole) None = None
in_hundredths (Some whole) (Some part) = fitting (whole * 100 + part)

-- so many hundredths are one digit or two behind a point
abbrev pub behind_point : Text → Option ℕ
behind_point [] = None
behind_point (tenths ∷ []) = option_map (λ number. number * 10) (digits_below (2 ^ 16) (tenths ∷ []))
behind_point (tenths ∷ hundredths ∷ []) = digits_below (2 ^ 16) (tenths ∷ hundredths ∷ [])
behind_point (tenths ∷ hundredths ∷ more ∷ rest) = None

-- the hundredths of digits, among which a point may stand
abbrev pub hundredths_in : Text → Option ℕ
hundredths_in word =
    if nat_lt (position_or_len is_point word) (length word)
    then in_hundredths (digits_below (2 ^ 16) (before_first is_point word)) (behind_point (after_first is_point word))
    else in_hundredths (digits_below (2 ^ 16) word) (Some 0)

-- a rate
abbrev pub rate : Text → Result ℕ Refusal
rate word = ok_or (hundredths_in word) (Wanted operand.Rate word)

-- a word is cut at its first comma
pub record IsSplitAtComma (word part after : Text) : Type 0 where
  pub there : position_or_len is_comma word < length word
  pub before : part ≡ before_first is_comma word
  pub behind : after ≡ after_first is_comma word

-- the rates that are known, with one more
abbrev pub with_rate : List ℕ → Text → Result (List ℕ) Refusal
with_rate known word = rate word >>= λ one. Ok (known ++ one ∷ [])

-- each a rate
abbrev pub all_rates : List Text → Result (List ℕ) Refusal
all_rates [] = Ok []
all_rates (part ∷ parts) = rate part >>= λ first. all_rates parts >>= λ others. Ok (first ∷ others)

-- rates with a comma between two
abbrev pub rates : Text → Result (List ℕ) Refusal
rates word = all_rates (slice_split is_comma word)
