-- Texts of numbers: words that are numbers, separated by blanks and the ends of lines. Ours.
use Rattle.std.specs.Prelude.{ℕ, ◌+◌, ◌^◌, ◌%◌, ◌==◌, nat_lt, if◌then◌else◌, Option, Some, None, Result, Ok, Err, List, []}
use Rattle.std.specs.Prelude.{◌∷◌, ◌++◌, length, decimal, codes}
use Rattle.cm_bits.specs.Text.{lines_of, words_of, number_of}
use Rattle.lab_figures.specs.declared.numbers.NumbersFault.{NumbersFault}
use Rattle.lab_figures.specs.declared.numbers.NumbersFault.TheVariants.{NotNumber, TooLarge, TooMany, TooFew}

-- ---- reading

infixl 10 ◌>>=◌
-- what comes after, unless a fault came before
abbrev pub ◌>>=◌ : {A B : Type 0} → Result A NumbersFault → (A → Result B NumbersFault) → Result B NumbersFault
(Ok x) >>= f = f x
(Err fault) >>= f = Err fault

-- the numbers so far and one more, of so many bits, where there are to be so many: at a line with this number
abbrev pub one_number_more : ℕ → ℕ → ℕ → List ℕ → Option ℕ → Result (List ℕ) NumbersFault
one_number_more len count line numbers None = Err (NotNumber line)
one_number_more len count line numbers (Some x) =
    if nat_lt x (2 ^ len)
    then (if nat_lt (length numbers) count then Ok (numbers ++ x ∷ []) else Err (TooMany line))
    else Err (TooLarge line)

-- the numbers so far and those of these words
unfoldable pub numbers_after_words : ℕ → ℕ → ℕ → List ℕ → List (List ℕ) → Result (List ℕ) NumbersFault
numbers_after_words len count line numbers [] = Ok numbers
numbers_after_words len count line numbers (word ∷ words) =
    one_number_more len count line numbers (number_of word) >>= λ more. numbers_after_words len count line more words

-- the numbers so far and those of the lines from this one on, at the end of which there are to be so many
unfoldable pub numbers_after_lines : ℕ → ℕ → ℕ → List ℕ → List (List ℕ) → Result (List ℕ) NumbersFault
numbers_after_lines len count line numbers [] = if length numbers == count then Ok numbers else Err (TooFew (length numbers))
numbers_after_lines len count line numbers (text ∷ texts) =
    numbers_after_words len count line numbers (words_of text) >>= λ more. numbers_after_lines len count (line + 1) more texts

-- the numbers of a text, which is to have so many, each of so many bits; or its first fault, lines counted from 1
abbrev pub numbers_in : ℕ → ℕ → List ℕ → Result (List ℕ) NumbersFault
numbers_in len count text = numbers_after_lines len count 1 [] (lines_of text)

-- what a noun ends in that so many are counted of
abbrev pub plural : ℕ → List ℕ
plural count = if count == 1 then [] else codes "s"

-- ---- writing

-- what stands behind a number: the end of the line after so many, else a blank
abbrev pub separator_behind : ℕ → ℕ → ℕ
separator_behind width before = if (before + 1) % width == 0 then 10 else 32

-- numbers in lines of so many, where so many stand before
unfoldable pub numbers_text : ℕ → ℕ → List ℕ → List ℕ
numbers_text width before [] = []
numbers_text width before (x ∷ xs) = decimal x ++ separator_behind width before ∷ numbers_text width (before + 1) xs
