-- Lines, words and numbers of the text languages: ours.
use Rattle.std.specs.Prelude.{◌≡◌, ℕ, ◌^◌, ◌<◌, Bool, true, false, ◌==◌, ◌||◌, ◌&&◌, nat_lt, if◌then◌else◌, Option, Some, None}
use Rattle.std.specs.Prelude.{List, [], ◌∷◌, ◌++◌, length, drop, slice_index, decimal}
use Rattle.std.specs.List.{filter, list_all, before_first, slice_split}
use Rattle.std.specs.Char.{is_digit}
use Rattle.std.specs.Str.Parse.{digits_value}
use Rattle.cm_bits.specs.declared.text.Lines.{Lines}
use Rattle.cm_bits.specs.declared.text.Words.{Words}

-- LF
abbrev pub is_line_end : ℕ → Bool
is_line_end byte = byte == 10

-- there are bytes
abbrev pub has_bytes : List ℕ → Bool
has_bytes [] = false
has_bytes (byte ∷ bytes) = true

-- the parts without the last one where that is empty
abbrev pub without_empty_last : List (List ℕ) → List (List ℕ)
without_empty_last [] = []
without_empty_last (part ∷ []) = if has_bytes part then part ∷ [] else []
without_empty_last (part ∷ next ∷ parts) = part ∷ without_empty_last (next ∷ parts)

-- the lines of a text, blank ones too: bytes after the last LF are a line only if there are any
abbrev pub lines_of : List ℕ → List (List ℕ)
lines_of text = without_empty_last (slice_split is_line_end text)

-- a comment begins with a semicolon
abbrev pub is_comment_start : ℕ → Bool
is_comment_start byte = byte == 59

-- space, tab and CR stand between words
abbrev pub is_blank : ℕ → Bool
is_blank byte = byte == 32 || byte == 9 || byte == 13

-- the longest runs of bytes that are not blank
abbrev pub words_in : List ℕ → List (List ℕ)
words_in bytes = filter has_bytes (slice_split is_blank bytes)

-- the words of a line before its comment
abbrev pub words_of : List ℕ → List (List ℕ)
words_of line = words_in (before_first is_comment_start line)

-- the number that digits of a base write, where there are any and it is below 2^64
abbrev pub number_in : ℕ → List ℕ → Option ℕ
number_in base digits =
    if has_bytes digits && list_all (λ digit. is_digit digit base) digits && nat_lt (digits_value base digits) (2 ^ 64)
    then Some (digits_value base digits) else None

-- the word begins with `0x`
abbrev pub is_hex : List ℕ → Bool
is_hex word = slice_index word 0 == 48 && slice_index word 1 == 120

-- the number that a word writes: hexadecimal digits of either case after `0x`, else decimal digits
abbrev pub number_of : List ℕ → Option ℕ
number_of word = if is_hex word then number_in 16 (drop 2 word) else number_in 10 word

-- the lines that are left
abbrev pub lines_left : Lines → List (List ℕ)
lines_left lines = lines_of lines.rest.now

-- the words that are left
abbrev pub words_left : Words → List (List ℕ)
words_left words = words_in words.rest.now

-- no byte ends a line
abbrev pub IsUnended : List ℕ → Type 0
IsUnended bytes = (k : ℕ) → k < length bytes → is_line_end (slice_index bytes k) ≡ false

-- ---- tables

-- a comma
abbrev pub is_comma : ℕ → Bool
is_comma byte = byte == 44

-- a point
abbrev pub is_point : ℕ → Bool
is_point byte = byte == 46

-- a number and the comma behind it
abbrev pub number_cell : ℕ → List ℕ
number_cell x = decimal x ++ 44 ∷ []

-- the last number of a line, and its end
abbrev pub last_number_cell : ℕ → List ℕ
last_number_cell x = decimal x ++ 10 ∷ []
