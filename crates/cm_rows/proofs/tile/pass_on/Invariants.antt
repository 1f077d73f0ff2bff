use Rattle.std.proofs.Common.{◌≡◌, ℕ, ◌<◌, ◌≤◌, get_or}
use Rattle.cm_model.specs.Chip.{IsPlane, plane_bit}
use Rattle.cm_model.specs.Place.{predecessor}
use Rattle.cm_rows.proofs.tile.pass_on.Given as goal

-- the words so far, and the others as they were
abbrev pub invariant-loop-k : goal.invariant-loop-k
invariant-loop-k l = record {
  done : (j : ℕ) → j < l.k
      → IsPlane (get_or l.planes j 0) (λ p. plane_bit (get_or l.initial.planes j 0) (predecessor p));
  rest : (j : ℕ) → l.k ≤ j → get_or l.planes j 0 ≡ get_or l.initial.planes j 0;
}
