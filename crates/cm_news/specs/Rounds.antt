-- What comes in at chips that stand on a round, each next to the one before it: Hillis 1985; the numbering is ours.
use Rattle.std.specs.Prelude.{◌≡◌, ℕ, ◌+◌, ◌-◌, ◌<◌, ◌≤◌, List, slice_index, if◌then◌else◌}
use Rattle.cm_bits.specs.Bit.{bit}
use Rattle.cm_bits.specs.declared.plane.Dir.{Dir}
use Rattle.cm_model.specs.Chip.{IsPlane}
use Rattle.cm_news.specs.Moves.{is_entry, one_back, at_edge, bit_along_edge}

-- the plane has what comes in at a chip from its own plane and from that of the chip whose edge leads to it
abbrev pub IsJoined : Dir → ℕ → ℕ → ℕ → Type 0
IsJoined dir own before plane =
    IsPlane plane (λ p. if is_entry dir p then bit before (at_edge dir (bit_along_edge dir p)) else bit own (one_back dir p))

-- of so many chips from a place on: what comes in at the one at k from the one so many places on, round their end
pub record IsTurned (dir : Dir) (planes : List ℕ) (from count by k plane : ℕ) : Type 0 where
  pub straight : k + by < count
      → IsJoined dir (slice_index planes (from + k)) (slice_index planes (from + (k + by))) plane
  pub over : count ≤ k + by
      → IsJoined dir (slice_index planes (from + k)) (slice_index planes (from + (k - (count - by)))) plane

-- so at each of them, and the others are as they were
pub record AreTurned (dir : Dir) (planes : List ℕ) (from count by : ℕ) (old new : List ℕ) : Type 0 where
  pub each : (k : ℕ) → k < count → IsTurned dir planes from count by k (slice_index new (from + k))
  pub below : (i : ℕ) → i < from → slice_index new i ≡ slice_index old i
  pub above : (i : ℕ) → from + count ≤ i → slice_index new i ≡ slice_index old i
