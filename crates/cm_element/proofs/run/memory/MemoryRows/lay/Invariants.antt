use Rattle.std.proofs.Common.{◌≡◌, ◌⊎◌, ℕ, ◌<◌, ◌≤◌, ◌+◌, ◌-◌, ◌*◌, length, get_or}
use Rattle.cm_element.proofs.run.memory.MemoryRows.lay.Given as goal

-- the rows that were laid, and all else as it was
abbrev pub invariant-loop-row : goal.invariant-loop-row
invariant-loop-row l = record {
  most : l.row ≤ 4096;
  words : length l.self ≡ 4096 * l.here.stride;
  laid : (i c : ℕ) → i < l.row → c < l.count → get_or l.self (i * l.here.stride + (l.here.first + c)) 0
      ≡ get_or l.from (i * l.there.stride + (l.there.first + c)) 0;
  others : (i k : ℕ) → k < l.here.stride → (l.row ≤ i) ⊎ ((k < l.here.first) ⊎ (l.here.first + l.count ≤ k))
      → get_or l.self (i * l.here.stride + k) 0 ≡ get_or l.fn.self (i * l.here.stride + k) 0;
}

abbrev pub decreases-loop-row : goal.decreases-loop-row
decreases-loop-row l = 4096 - l.row
