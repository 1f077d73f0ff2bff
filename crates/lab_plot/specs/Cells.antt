-- The cells of a table's line, and their numbers, which are counted in thousandths. Ours.
use Rattle.std.specs.Prelude.{ℕ, ◌+◌, ◌-◌, ◌*◌, ◌^◌, ◌==◌, ◌&&◌, ◌||◌, not, Bool, nat_le, nat_lt, if◌then◌else◌, Option, Some, None}
use Rattle.std.specs.Prelude.{List, [], ◌∷◌, ◌++◌, take, drop, length, is_some, codes}
use Rattle.std.specs.Char.{is_ascii_whitespace}
use Rattle.std.specs.List.{flat_map, list_all, slice_get, slice_split, before_first, after_first, prefix_len, suffix_len}
use Rattle.cm_bits.specs.Text.{has_bytes, number_of, is_comma, is_point}

-- ---- blanks

-- the bytes from the first on that is no blank: no space, tab, CR, LF or form feed
abbrev pub past_blanks : List ℕ → List ℕ
past_blanks bytes = drop (prefix_len is_ascii_whitespace bytes) bytes

-- the bytes up to the last that is no blank
abbrev pub up_to_blanks : List ℕ → List ℕ
up_to_blanks bytes = take (length bytes - suffix_len is_ascii_whitespace bytes) bytes

-- without the blanks before and behind them
unfoldable pub trimmed : List ℕ → List ℕ
trimmed bytes = up_to_blanks (past_blanks bytes)

-- a line has something but blanks
abbrev pub has_words : List ℕ → Bool
has_words line = has_bytes (trimmed line)

-- ---- cells

-- what stands between commas, if there is such a place
abbrev pub trimmed_or_none : Option (List ℕ) → List ℕ
trimmed_or_none None = []
trimmed_or_none (Some bytes) = trimmed bytes

-- what stands in a column of a line, counted from 0, without the blanks around it
abbrev pub cell : List ℕ → ℕ → List ℕ
cell line c = trimmed_or_none (slice_get (slice_split is_comma line) c)

-- a byte is a decimal digit
abbrev pub is_decimal : ℕ → Bool
is_decimal byte = nat_lt 47 byte && nat_lt byte 58

-- the number that decimal digits write
abbrev pub digits_of : List ℕ → Option ℕ
digits_of bytes = if list_all is_decimal bytes then number_of bytes else None

-- a digit behind a point, or 0 where there is none
abbrev pub digit_or_zero : Option ℕ → ℕ
digit_or_zero None = 0
digit_or_zero (Some digit) = digit - 48

-- the thousandths that digits behind a point count: what stands behind the third is less than one
abbrev pub thousandths_of : List ℕ → ℕ
thousandths_of digits =
    100 * digit_or_zero (slice_get digits 0) + 10 * digit_or_zero (slice_get digits 1) + digit_or_zero (slice_get digits 2)

-- the thousandths behind a point, if nothing but digits stands there
abbrev pub thousandths_behind : List ℕ → Option ℕ
thousandths_behind digits = if list_all is_decimal digits then Some (thousandths_of digits) else None

-- whole ones and thousandths, below 2^63 in all
abbrev pub whole_and_part : Option ℕ → Option ℕ → Option ℕ
whole_and_part None part = None
whole_and_part (Some whole) None = None
whole_and_part (Some whole) (Some part) = if nat_lt (1000 * whole + part) (2 ^ 63) then Some (1000 * whole + part) else None

-- the number of a cell, in thousandths, rounded down: digits, and maybe a point and more digits
unfoldable pub cell_number : List ℕ → Option ℕ
cell_number bytes = whole_and_part (digits_of (before_first is_point bytes)) (thousandths_behind (after_first is_point bytes))

-- a cell is written as a number, which may be too large
abbrev pub is_written : List ℕ → Bool
is_written bytes =
    has_bytes (before_first is_point bytes) && list_all is_decimal (before_first is_point bytes)
    && list_all is_decimal (after_first is_point bytes)

-- a cell has a number, or nothing
abbrev pub is_cell : List ℕ → Bool
is_cell bytes = not (has_bytes bytes) || is_some (cell_number bytes)

-- how many cells a line has
abbrev pub width_of : List ℕ → ℕ
width_of line = length (slice_split is_comma line)

-- ---- names

-- a byte of a name in XML; what is no plain letter or sign is a question mark
abbrev pub escaped_byte : ℕ → List ℕ
escaped_byte byte =
    if byte == 38 then codes "&amp;"
    else (if byte == 60 then codes "&lt;"
    else (if byte == 62 then codes "&gt;" else (if nat_lt 31 byte && nat_lt byte 127 then byte ∷ [] else 63 ∷ [])))

-- a name, as XML writes it
unfoldable pub escaped : List ℕ → List ℕ
escaped bytes = flat_map escaped_byte bytes

-- a name of which so many letters are shown at the most: of a longer one all but the last of these, and an ellipsis
abbrev pub shortened : ℕ → List ℕ → List ℕ
shortened most bytes =
    if nat_le (length bytes) most then escaped bytes else escaped (take (most - 1) bytes) ++ codes "&#8230;"

-- a byte is a colon
abbrev pub is_colon : ℕ → Bool
is_colon byte = byte == 58
