use Rattle.std.proofs.Common.{◌≡◌, ℕ, ◌<◌, ◌≤◌, ◌+◌, ◌*◌, get_or}
use Rattle.cm_element.proofs.run.memory.MemoryRows.write_rest.Given as goal

-- the rows whose words were written, and the words of other chips as they were
abbrev pub invariant-loop-row : goal.invariant-loop-row
invariant-loop-row l = record {
  done : (i c : ℕ) → i < l.row → l.done ≤ c → c < l.count
      → get_or l.planes (c * 4128 + i) 0 ≡ get_or l.self (i * l.there.stride + (l.there.first + c)) 0;
  others : (i c : ℕ) → i < 4096 → c < l.done
      → get_or l.planes (c * 4128 + i) 0 ≡ get_or l.initial.planes (c * 4128 + i) 0;
}
