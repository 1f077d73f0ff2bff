-- The bits of a number: bit 0 is the lowest. Ours.
use Rattle.std.specs.Prelude.{ℕ, Bool, true, false, not, ◌==◌}
use Rattle.std.specs.Bool.{beq}
use Rattle.std.specs.Int.{bit_at}

-- bit i of a number
abbrev pub bit : ℕ → ℕ → Bool
bit number i = bit_at number i == 1

-- a bit as a number
abbrev pub bit_number : Bool → ℕ
bit_number false = 0
bit_number true = 1

-- exclusive or
abbrev pub differ : Bool → Bool → Bool
differ x y = not (beq x y)
