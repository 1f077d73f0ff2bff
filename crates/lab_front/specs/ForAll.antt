-- What a line asks of all processors at once, by its words. Ours.
use Rattle.std.specs.Prelude.{◌≡◌, ℕ, ◌+◌, ◌^◌, ◌==◌, ◌||◌, Bool, false, nat_lt, if◌then◌else◌, Result, Ok, Err}
use Rattle.std.specs.Prelude.{List, [], ◌∷◌, ◌++◌, length, codes, bytes_eq}
use Rattle.std.specs.List.{list_all}
use Rattle.cm_bits.specs.Span.{Span}
use Rattle.cm_bits.specs.Field.{field_fault}
use Rattle.cm_language.specs.declared.fault.AsmKind.{AsmKind}
use Rattle.cm_language.specs.declared.fault.AsmKind.TheVariants.{Range, Lengths, Word, Operands}
use Rattle.cm_language.specs.Lines.{◌>>=◌, number_operand, field_unless}
use Rattle.lab_data.specs.Data.{processors}
use Rattle.lab_front.specs.declared.for_all.Asked.{Asked}
use Rattle.lab_front.specs.declared.for_all.Asked.TheVariants.{Get, GetFlag, GetBuffers, Put, Standing, Clock, Image}
use Rattle.lab_front.specs.declared.for_all.Asked.TheVariants.{Forget}

-- the line is one for all processors
abbrev pub is_for_all : List (List ℕ) → Bool
is_for_all [] = false
is_for_all (word ∷ operands) =
    bytes_eq word (codes "get") || bytes_eq word (codes "put") || bytes_eq word (codes "standing")
    || bytes_eq word (codes "clock")
    || bytes_eq word (codes "image")
    || bytes_eq word (codes "forget")

-- ---- operands

-- a number below a limit
abbrev pub in_range : ℕ → ℕ → Result ℕ AsmKind
in_range limit x = if nat_lt x limit then Ok x else Err Range

-- the same: the address is judged first, then the length, then where the field ends
abbrev pub asked_field : ℕ → ℕ → Result Span AsmKind
asked_field at len = in_range 4096 at >>= λ at'. field_unless at' len (field_fault at' len)

-- the numbers so far and those of these words
unfoldable pub with_numbers : List ℕ → List (List ℕ) → Result (List ℕ) AsmKind
with_numbers numbers [] = Ok numbers
with_numbers numbers (word ∷ words) = number_operand word >>= λ number. with_numbers (numbers ++ number ∷ []) words

-- numbers, none of which has more bits
abbrev pub within : ℕ → List ℕ → Bool
within len numbers = list_all (λ number. nat_lt number (2 ^ len)) numbers

-- ---- a line

-- what has no operand
abbrev pub asked_alone : Asked → List (List ℕ) → Result Asked AsmKind
asked_alone asked [] = Ok asked
asked_alone asked (word ∷ words) = Err Operands

-- what is told of a field of this address and length
abbrev pub get_of_two : List ℕ → List ℕ → Result Asked AsmKind
get_of_two at len =
    number_operand at >>= λ at'. number_operand len >>= λ len'. asked_field at' len' >>= λ bits. Ok (Get bits)

-- the same of a flag
abbrev pub get_of_flag : List ℕ → Result Asked AsmKind
get_of_flag flag = number_operand flag >>= λ flag'. in_range 16 flag' >>= λ number. Ok (GetFlag number)

-- by the words after `get`
abbrev pub get_of : List (List ℕ) → Result Asked AsmKind
get_of (what ∷ []) = if bytes_eq what (codes "buffers") then Ok GetBuffers else Err Operands
get_of (first ∷ second ∷ []) =
    if bytes_eq first (codes "flag") then get_of_flag second else get_of_two first second
get_of _ = Err Operands

-- numbers into the field of an address and a length, each of no more bits
abbrev pub put_into : ℕ → ℕ → List ℕ → Result (Asked × List ℕ) AsmKind
put_into at len numbers =
    asked_field at len >>= λ bits. if within bits.len numbers then Ok (Put bits, numbers) else Err Lengths

-- by the words after `put`
abbrev pub put_words : List (List ℕ) → Result (Asked × List ℕ) AsmKind
put_words (at ∷ len ∷ values) =
    number_operand at >>= λ at'. number_operand len >>= λ len'. with_numbers [] values >>= λ numbers.
    put_into at' len' numbers
put_words _ = Err Operands

-- the same: address, length, and one for each processor of a cube of n dimensions
abbrev pub put_of : ℕ → List (List ℕ) → Result (Asked × List ℕ) AsmKind
put_of n operands = if length operands == processors n + 2 then put_words operands else Err Operands

-- what a first word asks for that is not `put`
abbrev pub asked_by : List ℕ → List (List ℕ) → Result Asked AsmKind
asked_by word operands =
    if bytes_eq word (codes "get") then get_of operands
    else (if bytes_eq word (codes "standing") then asked_alone Standing operands
    else (if bytes_eq word (codes "clock") then asked_alone Clock operands
    else (if bytes_eq word (codes "image") then asked_alone Image operands
    else (if bytes_eq word (codes "forget") then asked_alone Forget operands
    else Err Word))))

-- no numbers are given
abbrev pub bare : Result Asked AsmKind → Result (Asked × List ℕ) AsmKind
bare asked = asked >>= λ it. Ok (it, [])

-- what a first word and its operands ask for, with the numbers that are given
abbrev pub asked_named : ℕ → List ℕ → List (List ℕ) → Result (Asked × List ℕ) AsmKind
asked_named n word operands =
    if bytes_eq word (codes "put") then put_of n operands else bare (asked_by word operands)

-- what the words of a line ask for, on a cube of n dimensions
abbrev pub asked_of : ℕ → List (List ℕ) → Result (Asked × List ℕ) AsmKind
asked_of n [] = Err Word
asked_of n (word ∷ operands) = asked_named n word operands

-- there is a number for each processor, if some are to be put
abbrev pub AreFor : ℕ → Asked → List ℕ → Type 0
AreFor n (Put bits) numbers = length numbers ≡ processors n
AreFor n _ numbers = Unit {0}
