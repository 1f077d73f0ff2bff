use Rattle.std.proofs.Common.{◌≡◌, ◌⊎◌, ℕ, ◌<◌, ◌≤◌, ◌+◌, ◌*◌, length, get_or}
use Rattle.cm_element.proofs.run.memory.MemoryRows.turn.Given as goal

-- the rows into which planes were put, and all else as it was
abbrev pub invariant-loop-g : goal.invariant-loop-g
invariant-loop-g l = record {
  words : length l.self ≡ 4096 * l.here.stride;
  laid : (i c : ℕ) → i < l.g * 8 → c < l.count
      → get_or l.self (i * l.here.stride + (l.here.first + c)) 0 ≡ get_or l.planes (c * 4128 + i) 0;
  others : (i k : ℕ) → k < l.here.stride → (l.g * 8 ≤ i) ⊎ ((k < l.here.first) ⊎ (l.here.first + l.count ≤ k))
      → get_or l.self (i * l.here.stride + k) 0 ≡ get_or l.fn.self (i * l.here.stride + k) 0;
}
