-- Pictures: dots in rows, and their texts in Netpbm's forms PBM (one bit) and PGM. The forms are Netpbm's.
use Rattle.std.specs.Prelude.{ℕ, ◌+◌, ◌*◌, ◌/◌, ◌%◌, ◌==◌, nat_lt, if◌then◌else◌, min, List, [], ◌∷◌, ◌++◌, map}
use Rattle.std.specs.Prelude.{slice_index, decimal}
use Rattle.std.specs.List.{flat_map, range_with_len}
use Rattle.lab_figures.specs.declared.picture.Form.{Form}
use Rattle.lab_figures.specs.declared.picture.Form.TheVariants.{Raw, Plain}
use Rattle.lab_figures.specs.Numbers.{numbers_text}

-- dots in rows, the upper row first, each from the left: a dot is a number, at most the greatest
pub record Dots : Type 0 where
  pub width : ℕ
  pub height : ℕ
  pub greatest : ℕ
  pub dots : List ℕ

-- the dot in a row and a column
abbrev pub dot_at : Dots → ℕ → ℕ → ℕ
dot_at picture y x = slice_index picture.dots (y * picture.width + x)

-- ---- the header

-- the digit behind the P: dots of one bit are a PBM, others a PGM
abbrev pub digit_of : Form → ℕ → ℕ
digit_of Plain greatest = if greatest == 1 then 49 else 50
digit_of Raw greatest = if greatest == 1 then 52 else 53

-- a PBM tells no greatest number
abbrev pub greatest_text : ℕ → List ℕ
greatest_text greatest = if greatest == 1 then [] else decimal greatest ++ 10 ∷ []

-- the bytes before the dots: what it is, width and height, the greatest number
abbrev pub header_text : Form → Dots → List ℕ
header_text form picture =
    80 ∷ digit_of form picture.greatest ∷ 10 ∷ [] ++ decimal picture.width ++ 32 ∷ []
    ++ decimal picture.height ++ 10 ∷ [] ++ greatest_text picture.greatest

-- ---- the dots

-- so many numbers stand in a line of a plain picture, which has at most 70 bytes
abbrev pub numbers_in_line : Dots → ℕ
numbers_in_line picture = if picture.greatest == 1 then min picture.width 32 else min picture.width 8

-- a dot of a raw PGM: one byte, or two where numbers may be above 255, the higher first
abbrev pub dot_bytes : ℕ → ℕ → List ℕ
dot_bytes greatest dot =
    if nat_lt greatest 256 then dot % 256 ∷ [] else dot / 256 % 256 ∷ dot % 256 ∷ []

-- so many bytes has a row of a raw PBM
abbrev pub row_bytes : ℕ → ℕ
row_bytes width = (width + 7) / 8

-- a dot of a raw PBM: behind the end of its row it is 0
abbrev pub bit_at : Dots → ℕ → ℕ → ℕ
bit_at picture y x = if nat_lt x picture.width then dot_at picture y x % 2 else 0

-- eight dots of a row from a column on, the leftmost in the highest bit
abbrev pub eight_dots : Dots → ℕ → ℕ → ℕ
eight_dots picture y x =
    128 * bit_at picture y x + 64 * bit_at picture y (x + 1) + 32 * bit_at picture y (x + 2)
    + 16 * bit_at picture y (x + 3) + 8 * bit_at picture y (x + 4) + 4 * bit_at picture y (x + 5)
    + 2 * bit_at picture y (x + 6) + bit_at picture y (x + 7)

-- the byte at a place of a raw PBM: its rows follow each other, each of whole bytes
abbrev pub packed_byte : Dots → ℕ → ℕ
packed_byte picture b = eight_dots picture (b / row_bytes picture.width) (8 * (b % row_bytes picture.width))

-- the dots of a raw PBM
unfoldable pub packed_text : Dots → List ℕ
packed_text picture = map (packed_byte picture) (range_with_len 0 (picture.height * row_bytes picture.width))

-- the dots of a raw PGM
unfoldable pub bytes_text : Dots → List ℕ
bytes_text picture = flat_map (dot_bytes picture.greatest) picture.dots

-- the dots, as numbers or as bytes
abbrev pub raster_text : Form → Dots → List ℕ
raster_text Plain picture = numbers_text (numbers_in_line picture) 0 picture.dots
raster_text Raw picture = if picture.greatest == 1 then packed_text picture else bytes_text picture

-- a picture in a form
unfoldable pub picture_text : Form → Dots → List ℕ
picture_text form picture = header_text form picture ++ raster_text form picture
