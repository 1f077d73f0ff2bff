use Rattle.std.proofs.Common.{◌≡◌, ◌≢◌, ℕ, ◌<◌, ◌+◌, ◌*◌, get_or}
use Rattle.cm_element.proofs.run.room.put_chip.Given as goal

-- the words that were put, and all other columns as they were
abbrev pub invariant-loop-k : goal.invariant-loop-k
invariant-loop-k l = record {
  done : (k : ℕ) → k < l.k → get_or l.room (k * 256 + l.column) 0 ≡ get_or l.planes (l.chip * 4128 + (l.at + k)) 0;
  others : (k c : ℕ) → c < 256 → c ≢ l.column
      → get_or l.room (k * 256 + c) 0 ≡ get_or l.initial.room (k * 256 + c) 0;
}
