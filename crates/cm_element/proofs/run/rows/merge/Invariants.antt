use Rattle.std.proofs.Common.{◌≡◌, ℕ, ◌<◌, ◌≤◌, ◌+◌, cond, get_or}
use Rattle.std.specs.Bool.{beq}
use Rattle.cm_bits.specs.Bit.{bit}
use Rattle.cm_model.specs.Chip.{IsPlane}
use Rattle.cm_element.proofs.run.rows.merge.Given as goal

-- the planes that were merged, and the others as they were
abbrev pub invariant-loop-c : goal.invariant-loop-c
invariant-loop-c l = record {
  done : (k : ℕ) → k < l.c → IsPlane (get_or l.incoming k 0)
      (λ p. cond (beq (bit (get_or l.flags (l.at.cond + k) 0) p) l.sense) (bit (get_or l.initial.incoming k 0) p)
      (bit (get_or l.flags (l.at.write + k) 0) p));
  rest : (k : ℕ) → l.c ≤ k → get_or l.incoming k 0 ≡ get_or l.initial.incoming k 0;
}
