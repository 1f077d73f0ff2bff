-- What `cm1 chip` prints of a chip. Ours.
use Rattle.std.specs.Prelude.{ℕ, ◌/◌, ◌%◌, ◌==◌, if◌then◌else◌, List, [], ◌∷◌, ◌++◌, flat_map, codes}
use Rattle.std.specs.Prelude.{decimal}
use Rattle.std.specs.List.{range_with_len}
use Rattle.cm_model.specs.Processor.{Processor, memory_bit, flag}
use Rattle.cm_model.specs.Chip.{processor_at, plane_number}
use Rattle.cm_language.specs.Listing.{hex_digit}

-- a plane as four hexadecimal digits
abbrev pub plane_text : ℕ → List ℕ
plane_text plane =
    hex_digit (plane / 4096 % 16) ∷ hex_digit (plane / 256 % 16) ∷ hex_digit (plane / 16 % 16)
    ∷ hex_digit (plane % 16) ∷ []

-- a line of a name, a number and a plane
unfoldable pub plane_line : List ℕ → ℕ → ℕ → List ℕ
plane_line name number plane = name ++ decimal number ++ codes " " ++ plane_text plane ++ codes "\n"

-- a flag of all processors
abbrev pub flag_plane : List Processor → ℕ → ℕ
flag_plane chip number = plane_number (λ p. flag (processor_at chip p) number)

-- a memory bit of all processors
abbrev pub memory_plane : List Processor → ℕ → ℕ
memory_plane chip address = plane_number (λ p. memory_bit (processor_at chip p) address)

-- the line of a flag
abbrev pub flag_line : List Processor → ℕ → List ℕ
flag_line chip number = plane_line (codes "flag ") number (flag_plane chip number)

-- a plane of memory that is 0 has no line
abbrev pub memory_line : List Processor → ℕ → List ℕ
memory_line chip address =
    if memory_plane chip address == 0 then [] else plane_line (codes "plane ") address (memory_plane chip address)

-- so many lines, of the first numbers
unfoldable pub lines_below : ℕ → (ℕ → List ℕ) → List ℕ
lines_below count line = flat_map line (range_with_len 0 count)

-- the flags, then the planes of memory that are not 0
unfoldable pub chip_session_text : List Processor → List ℕ
chip_session_text chip = lines_below 16 (flag_line chip) ++ lines_below 4096 (memory_line chip)
