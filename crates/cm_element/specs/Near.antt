-- A run some of whose chips are kept in another run: ours.
use Rattle.std.specs.Prelude.{◌≡◌, ℕ, ◌+◌, ◌<◌, ◌≤◌, ◌++◌, length, take, drop}
use Rattle.cm_model.specs.Array.{Chips}

-- the chips of one run, with those of another in their places from the first on
unfoldable pub with_near : Chips → Chips → ℕ → Chips
with_near far near first = take first far ++ (near ++ drop (first + length near) far)

-- so many chips, of which some are in a run of their own
pub record AreNear (far near : Chips) (first width chips : ℕ) : Type 0 where
  pub far_count : length far ≡ chips
  pub near_count : length near ≡ width
  pub within : first + width ≤ chips
  pub some : 0 < chips → 0 < width
