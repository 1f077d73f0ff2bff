-- What a front end tells of all processors and of the whole machine, in lines. Ours.
use Rattle.std.specs.Prelude.{ℕ, ◌+◌, ◌/◌, ◌%◌, ◌^◌, ◌==◌, ◌||◌, if◌then◌else◌, List, [], ◌∷◌, ◌++◌, length, sum, codes, decimal}
use Rattle.cm_model.specs.Each.{tabulate}
use Rattle.cm_model.specs.Machine.{Machine}
use Rattle.cm_language.specs.Listing.{hex_digit}
use Rattle.cm_session.specs.Answer.{line}
use Rattle.lab_figures.specs.Numbers.{numbers_text}
use Rattle.lab_study.specs.Counts.{standing_count_at, asking_at}

-- numbers, so many in a line, after a line that tells how many lines they are
abbrev pub numbers_lines : ℕ → ℕ → List ℕ → List ℕ
numbers_lines count width numbers = line (codes "numbers" ∷ decimal count ∷ []) ++ numbers_text width 0 numbers

-- how many messages stand in all routers
abbrev pub standing_count : ℕ → Machine → ℕ
standing_count n machine = sum (tabulate 0 (2 ^ n) (standing_count_at machine))

-- how many processors ask
abbrev pub asking : ℕ → Machine → ℕ
asking n machine = sum (tabulate 0 (2 ^ n) (asking_at machine))

-- both
abbrev pub standing_counts_line : ℕ → Machine → List ℕ
standing_counts_line n machine = line (codes "standing" ∷ decimal (standing_count n machine) ∷ decimal (asking n machine) ∷ [])

-- what stands behind byte i of so many: the end of a line behind each thirty-second and the last
abbrev pub behind_byte : ℕ → ℕ → List ℕ
behind_byte count i = if (i + 1) % 32 == 0 || i + 1 == count then 10 ∷ [] else []

-- bytes in hexadecimal digits from byte i of so many on, thirty-two in a line
unfoldable pub hex_text : ℕ → ℕ → List ℕ → List ℕ
hex_text count i [] = []
hex_text count i (byte ∷ bytes) =
    hex_digit (byte / 16) ∷ hex_digit (byte % 16) ∷ behind_byte count i ++ hex_text count (i + 1) bytes

-- an image, after a line that tells how many lines it is
abbrev pub image_lines : List ℕ → List ℕ
image_lines image =
    line (codes "image" ∷ decimal ((length image + 31) / 32) ∷ []) ++ hex_text (length image) 0 image
