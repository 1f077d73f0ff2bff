-- The operands of a session's commands, and the order in which they are judged: ours.
use Rattle.std.specs.Prelude.{ℕ, ◌^◌, ◌==◌, Bool, nat_lt, if◌then◌else◌, Option, Some, None, Result, Ok, Err}
use Rattle.std.specs.Prelude.{List, [], ◌∷◌}
use Rattle.std.specs.Option.{ok_or}
use Rattle.cm_bits.specs.Span.{Span}
use Rattle.cm_bits.specs.Text.{number_of}
use Rattle.cm_bits.specs.declared.field.FieldFault.{FieldFault}
use Rattle.cm_bits.specs.declared.field.FieldFault.TheVariants as field
use Rattle.cm_bits.specs.declared.place.Place.{Place}
use Rattle.cm_model.specs.Processor.{ZERO}
use Rattle.cm_session.specs.declared.command.Refusal.{Refusal}
use Rattle.cm_session.specs.declared.command.Refusal.TheVariants.{Operands, Width, Range, ZeroFlag, Number}

infixl 10 ◌>>=◌
-- what comes after, unless a fault came before
abbrev pub ◌>>=◌ : {A B : Type 0} → Result A Refusal → (A → Result B Refusal) → Result B Refusal
(Ok x) >>= f = f x
(Err refusal) >>= f = Err refusal

-- the number that a word writes
abbrev pub number_in_word : List ℕ → Result ℕ Refusal
number_in_word word = ok_or (number_of word) Number

-- ---- all operands of a command: each is a number before one is judged by its range

-- the numbers of three words, of which there are no more
abbrev pub three_numbers : List (List ℕ) → Result (ℕ × ℕ × ℕ) Refusal
three_numbers (a ∷ b ∷ c ∷ []) =
    number_in_word a >>= λ a'. number_in_word b >>= λ b'. number_in_word c >>= λ c'. Ok (a', b', c')
three_numbers _ = Err Operands

-- the numbers of four words, of which there are no more
abbrev pub four_numbers : List (List ℕ) → Result (ℕ × ℕ × ℕ × ℕ) Refusal
four_numbers (a ∷ b ∷ c ∷ d ∷ []) =
    number_in_word a >>= λ a'. number_in_word b >>= λ b'. number_in_word c >>= λ c'. number_in_word d >>= λ d'.
    Ok (a', b', c', d')
four_numbers _ = Err Operands

-- ---- one operand by its number

-- a number below a limit
abbrev pub below_limit : ℕ → ℕ → Result ℕ Refusal
below_limit limit x = if nat_lt x limit then Ok x else Err Range

-- a bit
abbrev pub one_bit : ℕ → Result Bool Refusal
one_bit b = below_limit 2 b >>= λ b'. Ok (b' == 1)

-- a place of a cube of n dimensions: its chip is judged first
abbrev pub place : ℕ → ℕ → ℕ → Result Place Refusal
place n c p = below_limit (2 ^ n) c >>= λ c'. below_limit 16 p >>= λ p'. Ok (record { chip = c'; proc = p' })

-- a field's fault as that of a line
abbrev pub refusal_of_field : FieldFault → Refusal
refusal_of_field field.Width = Width
refusal_of_field field.Range = Range

-- the field of an address and a length, unless it has a fault
abbrev pub command_field_unless : ℕ → ℕ → Option FieldFault → Result Span Refusal
command_field_unless at len (Some fault) = Err (refusal_of_field fault)
command_field_unless at len None = Ok (record { at = at; len = len })

-- a flag that a bit can be put into
abbrev pub pokeable : ℕ → Result ℕ Refusal
pokeable f = if f == ZERO then Err ZeroFlag else Ok f
