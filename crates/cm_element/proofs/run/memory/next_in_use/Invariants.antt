use Rattle.std.proofs.Common.{◌≡◌, ℕ, ◌-◌, ◌<◌, ◌≤◌, get_or}
use Rattle.cm_element.proofs.run.memory.next_in_use.Given as goal

-- no address that was passed has a row
abbrev pub invariant-loop-at : goal.invariant-loop-at
invariant-loop-at l = record {
  none : (i : ℕ) → l.from ≤ i → i < l.at → get_or l.slots i 0 ≡ 0;
  none_there : (i : ℕ) → l.from ≤ i → i < l.at → get_or l.others i 0 ≡ 0;
  from : l.from ≤ l.at;
  most : l.at ≤ 4096;
}

abbrev pub decreases-loop-at : goal.decreases-loop-at
decreases-loop-at l = 4096 - l.at
