-- Lists that a function of the number makes, which is how every step of the machine is told. Ours.
use Rattle.std.specs.Prelude.{ℕ, List, map}
use Rattle.std.specs.List.{range_with_len}

-- what a function gives for each of so many numbers from the first on
unfoldable pub tabulate : {X : Type 0} → ℕ → ℕ → (ℕ → X) → List X
tabulate first count f = map f (range_with_len first count)
