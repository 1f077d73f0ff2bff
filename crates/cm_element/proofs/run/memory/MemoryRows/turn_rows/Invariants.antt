use Rattle.std.proofs.Common.{◌≡◌, ◌⊎◌, ℕ, ◌<◌, ◌≤◌, ◌+◌, ◌-◌, ◌*◌, length, get_or}
use Rattle.cm_element.proofs.run.memory.MemoryRows.turn_rows.Given as goal

-- the chips whose planes were put, and all else as it was
abbrev pub invariant-loop-done : goal.invariant-loop-done
invariant-loop-done l = record {
  most : l.done ≤ l.count;
  words : length l.self ≡ 4096 * l.here.stride;
  laid : (k c : ℕ) → k < 8 → c < l.done
      → get_or l.self ((l.at + k) * l.here.stride + (l.here.first + c)) 0 ≡ get_or l.planes (c * 4128 + (l.at + k)) 0;
  others : (i k : ℕ) → k < l.here.stride
      → ((i < l.at) ⊎ (l.at + 8 ≤ i)) ⊎ ((k < l.here.first) ⊎ (l.here.first + l.done ≤ k))
      → get_or l.self (i * l.here.stride + k) 0 ≡ get_or l.fn.self (i * l.here.stride + k) 0;
}

abbrev pub decreases-loop-done : goal.decreases-loop-done
decreases-loop-done l = l.count - l.done
