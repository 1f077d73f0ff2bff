-- Things of blocks that go to others in a round. Ours.
use Rattle.std.specs.Prelude.{◌≡◌, ℕ, ◌+◌, ◌-◌, ◌%◌, ◌^◌, ◌<◌, ◌≤◌, bit_xor, List, length, get_or}
use Rattle.cm_subcube.specs.declared.round.Kind.{Kind}
use Rattle.cm_subcube.specs.declared.round.Kind.TheVariants as kind

-- from which of 2 ^ k blocks block b gets what it takes in, in a round of a kind
abbrev pub giver_of_kind : ℕ → ℕ → Kind → ℕ → ℕ
giver_of_kind n k kind.North b = (b + 1) % 2 ^ k
giver_of_kind n k kind.South b = (b + 2 ^ k - 1) % 2 ^ k
giver_of_kind n k (kind.Dim d) b = bit_xor b (2 ^ (d - (n - k)))

-- each block has what its giver had
pub record AreHandedOver {X : Type 0} (n k : ℕ) (round : Kind) (old new : List X) : Type 0 where
  pub len : length new ≡ length old
  pub each : (b : ℕ) (d : X) → b < 2 ^ k → get_or new b d ≡ get_or old (giver_of_kind n k round b) d

-- a power of two below another that is not large
pub record IsBitBelow (one many : ℕ) : Type 0 where
  pub place : ℕ
  pub power : ℕ
  pub below : place < power
  pub few : power ≤ 12
  pub bit : one ≡ 2 ^ place
  pub count : many ≡ 2 ^ power
