-- The numbers that a lane carries. Ours.
use Rattle.std.specs.Prelude.{ℕ, zero, suc, ◌+◌, List, [], ◌∷◌}
use Rattle.cm_board.specs.Courses.{Course}

-- so many numbers, from one on
unfoldable pub rising : ℕ → ℕ → List ℕ
rising first zero = []
rising first (suc count) = first ∷ rising (first + 1) count

-- an end of a lane of so many, after so many uses
abbrev pub after : ℕ → ℕ → Course ℕ
after count uses = record { due = rising 1 count; blank = 0; uses = uses }
