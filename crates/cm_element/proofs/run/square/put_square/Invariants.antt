use Rattle.std.proofs.Common.{◌≡◌, ◌⊎◌, ℕ, ◌<◌, ◌≤◌, ◌+◌, ◌*◌, get_or}
use Rattle.cm_element.proofs.run.square.put_square.Given as goal

-- the chips whose words were put, and all else as it was
abbrev pub invariant-loop-c : goal.invariant-loop-c
invariant-loop-c g l = record {
  done : (c k : ℕ) → c < l.c → k < 8
      → get_or l.planes ((l.chip + c) * g.row.PITCH + (l.to + k)) 0 ≡ get_or l.square (c * 8 + k) 0;
  others : (c i : ℕ) → i < g.row.PITCH → ((c < l.chip) ⊎ (l.chip + 8 ≤ c)) ⊎ ((i < l.to) ⊎ (l.to + 8 ≤ i))
      → get_or l.planes (c * g.row.PITCH + i) 0 ≡ get_or l.initial.planes (c * g.row.PITCH + i) 0;
}
