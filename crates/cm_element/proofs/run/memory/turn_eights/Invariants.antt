use Rattle.std.proofs.Common.{◌≡◌, ℕ, ◌<◌, ◌+◌, ◌*◌, get_or}
use Rattle.cm_element.proofs.run.memory.turn_eights.Given as goal

-- the addresses whose words were written
abbrev pub invariant-loop-g : goal.invariant-loop-g
invariant-loop-g l = record {
  done : (i c : ℕ) → i < l.g * 8 → c < l.eights * 8
      → get_or l.planes (c * 4128 + i) 0 ≡ get_or l.words (get_or l.slots i 0 * l.stride + c) 0;
}
