use Rattle.std.proofs.Common.{◌≡◌, ℕ, ◌<◌, ◌+◌, ◌*◌, get_or}
use Rattle.cm_element.proofs.run.memory.read_square.Given as goal

-- the rows whose words were read
abbrev pub invariant-loop-k : goal.invariant-loop-k
invariant-loop-k l = record {
  done : (k c : ℕ) → k < l.k → c < 8
      → get_or l.square (k * 8 + c) 0 ≡ get_or l.words (get_or l.slots (l.at + k) 0 * l.chips.stride + (l.chips.first + c)) 0;
}
