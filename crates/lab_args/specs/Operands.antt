-- What the words say that commands take: ours.
use Rattle.std.specs.Prelude.{ℕ, ◌^◌, ◌==◌, ◌&&◌, Bool, slice_index, nat_lt, if◌then◌else◌}
use Rattle.std.specs.Prelude.{Option, Some, None, Result, Ok, Err, ◌++◌, codes, bytes_eq}
use Rattle.std.specs.List.{list_all}
use Rattle.std.specs.Char.{is_digit}
use Rattle.std.specs.Option.{ok_or}
use Rattle.std.specs.Str.Parse.{digits_value, without_leading_plus}
use Rattle.cm_bits.specs.Text.{has_bytes}
use Rattle.cm_bits.specs.Span.{Span}
use Rattle.cm_bits.specs.Field.{field_fault}
use Rattle.cm_bits.specs.declared.field.FieldFault.{FieldFault}
use Rattle.lab_figures.specs.declared.palettes.Palette.{Palette}
use Rattle.lab_figures.specs.declared.palettes.Palette.TheVariants as palette
use Rattle.lab_load.specs.declared.offers.Pattern.{Pattern}
use Rattle.lab_load.specs.declared.offers.Pattern.TheVariants as pattern
use Rattle.lab_load.specs.declared.trials.LoadTable.{LoadTable}
use Rattle.lab_load.specs.declared.trials.LoadTable.TheVariants as load_table
use Rattle.lab_args.specs.declared.operands.Operand.{Operand}
use Rattle.lab_args.specs.declared.operands.Operand.TheVariants as operand
use Rattle.lab_args.specs.Refusals.{Text, Refusal, Wanted, Words, Field, ◌>>=◌}

-- ---- how they are told of

-- the name of an operand in the help
abbrev pub operand_name : Operand → Text
operand_name operand.Address = codes "ADDRESS"
operand_name operand.Length = codes "LENGTH"
operand_name operand.Flag = codes "NUMBER"
operand_name operand.Proc = codes "PROC"
operand_name operand.Cycle = codes "CYCLE"
operand_name operand.Bound = codes "T"
operand_name operand.Chip = codes "CHIP"
operand_name operand.Dim = codes "DIM"
operand_name operand.Count = codes "K"
operand_name operand.N = codes "N"
operand_name operand.Cap = codes "CAP"
operand_name operand.Rule = codes "R"
operand_name operand.Rate = codes "RATE"
operand_name operand.Cycles = codes "CYCLES"
operand_name operand.Pattern = codes "P"
operand_name operand.Background = codes "H"
operand_name operand.Until = codes "T"
operand_name operand.Skip = codes "T"
operand_name operand.Seeds = codes "K"
operand_name operand.Seed = codes "S"
operand_name operand.Depth = codes "LENGTH"
operand_name operand.Scale = codes "K"
operand_name operand.Palette = codes "NAME"
operand_name operand.Table = codes "NAME"

-- a number of a range
abbrev pub from_to : Text → Text → Text
from_to least most = codes "a decimal number from " ++ least ++ codes " to " ++ most

-- what is wanted in its place
abbrev pub wanted_of : Operand → Text
wanted_of operand.Address = from_to (codes "0") (codes "4095")
wanted_of operand.Length = from_to (codes "1") (codes "64")
wanted_of operand.Flag = from_to (codes "0") (codes "15")
wanted_of operand.Proc = from_to (codes "0") (codes "15")
wanted_of operand.Cycle = codes "the decimal number of a petit cycle"
wanted_of operand.Bound = codes "the decimal number of a petit cycle"
wanted_of operand.Chip = from_to (codes "0") (codes "4095")
wanted_of operand.Dim = from_to (codes "0") (codes "11")
wanted_of operand.Count = from_to (codes "0") (codes "24576")
wanted_of operand.N = from_to (codes "0") (codes "12")
wanted_of operand.Cap = from_to (codes "1") (codes "15")
wanted_of operand.Rule = codes "0 or 1"
wanted_of operand.Rate = codes "0 to 16 with at most two digits behind a point, as 0.25, or some with commas between"
wanted_of operand.Cycles = from_to (codes "1") (codes "1000000")
wanted_of operand.Pattern = codes "uniform, transpose, reversal or hotspot"
wanted_of operand.Background = from_to (codes "0") (codes "100")
wanted_of operand.Until = from_to (codes "0") (codes "4294967295")
wanted_of operand.Skip = from_to (codes "0") (codes "999999")
wanted_of operand.Seeds = from_to (codes "1") (codes "1000")
wanted_of operand.Seed = from_to (codes "0") (codes "18446744073709551615")
wanted_of operand.Depth = from_to (codes "1") (codes "16 for a picture")
wanted_of operand.Scale = from_to (codes "1") (codes "64")
wanted_of operand.Palette = codes "heat or viridis"
wanted_of operand.Table = codes "crossings, dimensions, chips or latencies"

-- ---- what they say

-- a word that begins with two dashes
abbrev pub is_option : Text → Bool
is_option word = slice_index word 0 == 45 && slice_index word 1 == 45

-- the name of a file that is written, which no option is: one that stands in a wrong place shall make no file
abbrev pub file_named : Text → Result Text Refusal
file_named word = if is_option word then Err Words else Ok word

-- the number that decimal digits write, where it is below a limit
abbrev pub digits_below : ℕ → Text → Option ℕ
digits_below limit digits =
    if has_bytes digits && list_all (λ digit. is_digit digit 10) digits && nat_lt (digits_value 10 digits) limit
    then Some (digits_value 10 digits) else None

-- a decimal number below a limit, before which a plus may stand
abbrev pub operand_below : ℕ → Operand → Text → Result ℕ Refusal
operand_below limit operand word = ok_or (digits_below limit (without_leading_plus word)) (Wanted operand word)

-- a decimal number that is told of by another crate where it is too large
abbrev pub wanted_number : Operand → Text → Result ℕ Refusal
wanted_number operand word = operand_below (2 ^ 16) operand word

-- one of sixteen
abbrev pub of_sixteen : Operand → Text → Result ℕ Refusal
of_sixteen operand word = operand_below 16 operand word

-- the field of an address and a length, unless it has a fault
abbrev pub operand_field_unless : ℕ → ℕ → Option FieldFault → Result Span Refusal
operand_field_unless at len (Some fault) = Err (Field fault)
operand_field_unless at len None = Ok (record { at = at; len = len })

-- the field of these words
abbrev pub field : Text → Text → Result Span Refusal
field at len =
    wanted_number operand.Address at >>= λ at'. wanted_number operand.Length len >>= λ len'.
    operand_field_unless at' len' (field_fault at' len')

-- how many dots wide and high a dot becomes: 1 to 64
abbrev pub small_scale : Text → ℕ → Result ℕ Refusal
small_scale word k = if nat_lt 0 k && nat_lt k 65 then Ok k else Err (Wanted operand.Scale word)

-- the same, by its word
abbrev pub scale_of : Text → Result ℕ Refusal
scale_of word = wanted_number operand.Scale word >>= λ k. small_scale word k

-- the palette of this name
abbrev pub palette_named : Text → Result Palette Refusal
palette_named word =
    if bytes_eq word (codes "heat") then Ok palette.Heat
    else (if bytes_eq word (codes "viridis") then Ok palette.Viridis else Err (Wanted operand.Palette word))

-- the pattern of this name
abbrev pub pattern_named : Text → Result Pattern Refusal
pattern_named word =
    if bytes_eq word (codes "uniform") then Ok pattern.Uniform
    else (if bytes_eq word (codes "transpose") then Ok pattern.Transpose
    else (if bytes_eq word (codes "reversal") then Ok pattern.Reversal
    else (if bytes_eq word (codes "hotspot") then Ok pattern.HotSpot
    else Err (Wanted operand.Pattern word))))

-- the table of loads of this name
abbrev pub table_named : Text → Result LoadTable Refusal
table_named word =
    if bytes_eq word (codes "crossings") then Ok load_table.Crossings
    else (if bytes_eq word (codes "dimensions") then Ok load_table.Dimensions
    else (if bytes_eq word (codes "chips") then Ok load_table.Chips
    else (if bytes_eq word (codes "latencies") then Ok load_table.Latencies
    else Err (Wanted operand.Table word))))
