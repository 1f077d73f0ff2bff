use Rattle.std.proofs.Common.{◌≡◌, ℕ, ◌<◌, ◌+◌, ◌*◌, get_or}
use Rattle.cm_element.proofs.run.room.fill_room.Given as goal

-- the chips whose words were put, eight at once
abbrev pub invariant-loop-q : goal.invariant-loop-q
invariant-loop-q l = record {
  done : (k c : ℕ) → k < 8 → c < l.q * 8
      → get_or l.room (k * 256 + c) 0 ≡ get_or l.planes ((l.chip + c) * 4128 + (l.at + k)) 0;
}

-- and one by one
abbrev pub invariant-loop-c : goal.invariant-loop-c
invariant-loop-c l = record {
  done : (k c : ℕ) → k < 8 → c < l.c
      → get_or l.room (k * 256 + c) 0 ≡ get_or l.planes ((l.chip + c) * 4128 + (l.at + k)) 0;
}
