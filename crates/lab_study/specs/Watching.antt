-- Who looks on while a program runs, and is told of its acts, one after another. Ours.
use Rattle.std.specs.Prelude.{◌≡◌, ℕ, zero, suc}

-- it was told of so many of all acts, from the first on, each in its turn, and came from one state to another
abbrev pub WasTold : {W : Type 0} → (W → ℕ → ℕ → W → Type 0) → ℕ → W → ℕ → W → Type 0
WasTold sees all from zero to = from ≡ to
WasTold {W} sees all from (suc done) to = (before : W) × WasTold sees all from done before × sees before (suc done) all to
