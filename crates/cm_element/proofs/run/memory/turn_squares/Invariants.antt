use Rattle.std.proofs.Common.{◌≡◌, ℕ, ◌<◌, ◌+◌, ◌*◌, get_or}
use Rattle.cm_element.proofs.run.memory.turn_squares.Given as goal

-- the addresses whose words were written
abbrev pub invariant-loop-g : goal.invariant-loop-g
invariant-loop-g l = record {
  done : (c k : ℕ) → c < 8 → k < l.g * 8
      → get_or l.planes (c * 64 + k) 0 ≡ get_or l.words (get_or l.slots (l.at + k) 0 * l.stride + c) 0;
}
