use Rattle.std.proofs.Common.{◌≡◌, ℕ, ◌+◌, ◌*◌, ◌<◌, ◌≤◌, Ok, drop, length, get_or}
use Rattle.std.specs.Int.{w16}
use Rattle.cm_image_format.specs.Reading.{number_at}
use Rattle.cm_image_load.proofs.waiting_chips.take_planes.Given as goal

-- the numbers that were read so far: where a lane of `off` is 0, its addresses are those that are due, and no plane is
-- less than that of its lane in `least`
abbrev pub invariant-loop-k : goal.invariant-loop-k
invariant-loop-k l = record {
  lanes : (length l.off ≡ 8) × (length l.least ≡ 8);
  addresses : (m j : ℕ) → m < l.k → j < 8 → get_or l.off j 0 ≡ 0
      → number_at w16 (drop (4 * (8 * m + j)) l.bytes) ≡ Ok (8 * m + j, drop (4 * (8 * m + j) + 2) l.bytes);
  planes : (m j : ℕ) → m < l.k → j < 8
      → number_at w16 (drop (4 * (8 * m + j) + 2) l.bytes)
      ≡ Ok (get_or l.memory (l.place + (8 * m + j)) 0, drop (4 * (8 * m + j + 1)) l.bytes);
  least : (m j : ℕ) → m < l.k → j < 8 → get_or l.least j 0 ≤ get_or l.memory (l.place + (8 * m + j)) 0;
  below : (i : ℕ) → i < l.place → get_or l.memory i 0 ≡ get_or l.initial.memory i 0;
}
