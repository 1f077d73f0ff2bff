use Rattle.std.proofs.Common.{◌≡◌, ℕ, ◌<◌, ◌+◌, ◌*◌, get_or}
use Rattle.cm_element.proofs.run.room.read_chips.Given as goal

-- the chips whose words were read
abbrev pub invariant-loop-c : goal.invariant-loop-c
invariant-loop-c l = record {
  done : (c k : ℕ) → c < l.c → k < 8
      → get_or l.square (c * 8 + k) 0 ≡ get_or l.planes ((l.chip + c) * 4128 + (l.at + k)) 0;
}
