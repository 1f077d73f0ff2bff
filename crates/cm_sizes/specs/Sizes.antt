-- Sizes of the programs' own machines. Ours.
use Rattle.std.specs.Prelude.{ℕ, ◌==◌, ◌||◌, Bool}

-- the rooms of the programs' own machines
abbrev pub is_own_room : ℕ → Bool
is_own_room cap = cap == 1 || cap == 7
