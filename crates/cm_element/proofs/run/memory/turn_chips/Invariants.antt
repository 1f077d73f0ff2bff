use Rattle.std.proofs.Common.{◌≡◌, ◌⊎◌, ℕ, ◌<◌, ◌≤◌, ◌+◌, ◌*◌, get_or}
use Rattle.cm_element.proofs.run.memory.turn_chips.Given as goal

-- the chips whose words were written, and the words of other addresses as they were
abbrev pub invariant-loop-q : goal.invariant-loop-q
invariant-loop-q l = record {
  done : (c k : ℕ) → c < l.q * 8 → k < 8
      → get_or l.planes (c * 4128 + (l.at + k)) 0 ≡ get_or l.words (get_or l.slots (l.at + k) 0 * l.stride + c) 0;
  others : (c i : ℕ) → i < 4128 → (i < l.at) ⊎ (l.at + 8 ≤ i)
      → get_or l.planes (c * 4128 + i) 0 ≡ get_or l.initial.planes (c * 4128 + i) 0;
}
