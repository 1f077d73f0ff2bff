use Rattle.std.proofs.Common.{◌≡◌, ◌⊎◌, ℕ, ◌<◌, ◌≤◌, ◌+◌, ◌*◌, length, get_or}
use Rattle.cm_element.proofs.run.memory.MemoryRows.lay_room.Given as goal

-- the rows of the room that were laid, and all else as it was
abbrev pub invariant-loop-k : goal.invariant-loop-k
invariant-loop-k l = record {
  words : length l.self ≡ 4096 * l.here.stride;
  laid : (k c : ℕ) → k < l.k → c < l.some
      → get_or l.self ((l.at + k) * l.here.stride + (l.here.first + c)) 0 ≡ get_or l.room (k * 256 + c) 0;
  others : (i k : ℕ) → k < l.here.stride
      → ((i < l.at) ⊎ (l.at + 8 ≤ i)) ⊎ ((k < l.here.first) ⊎ (l.here.first + l.some ≤ k))
      → get_or l.self (i * l.here.stride + k) 0 ≡ get_or l.fn.self (i * l.here.stride + k) 0;
}
