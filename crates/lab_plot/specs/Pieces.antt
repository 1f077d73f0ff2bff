-- Numbers as texts, with a point where they are not whole. Ours.
use Rattle.std.specs.Prelude.{ℕ, ◌/◌, ◌%◌, ◌==◌, if◌then◌else◌, List, [], ◌∷◌, ◌++◌, decimal}

-- the digits behind the point of so many thousandths, without zeros at the end
abbrev pub part_text : ℕ → List ℕ
part_text x =
    if x % 1000 == 0 then []
    else (if x % 100 == 0 then 46 ∷ decimal (x / 100 % 10)
    else (if x % 10 == 0 then 46 ∷ decimal (x / 100 % 10) ++ decimal (x / 10 % 10)
    else 46 ∷ decimal (x / 100 % 10) ++ decimal (x / 10 % 10) ++ decimal (x % 10)))

-- a number of so many thousandths
abbrev pub number_text : ℕ → List ℕ
number_text x = decimal (x / 1000) ++ part_text x

-- words, and a number behind them
abbrev pub piece : List ℕ → ℕ → List ℕ
piece words number = words ++ decimal number
