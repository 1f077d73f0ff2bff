use Rattle.std.proofs.Common.{◌≡◌, ℕ, ◌<◌, ◌≤◌, get_or}
use Rattle.cm_bits.specs.Bit.{bit}
use Rattle.cm_model.specs.Processor.{entry}
use Rattle.cm_model.specs.Chip.{IsPlane}
use Rattle.cm_truth.proofs.wide.apply_wide.Given as goal

-- the places that were looked up, and the others as they were
abbrev pub invariant-loop-k : goal.invariant-loop-k
invariant-loop-k l = record {
  done : (k : ℕ) → k < l.k → IsPlane (get_or l.a k 0)
      (λ p. entry l.table (bit (get_or l.initial.a k 0) p) (bit (get_or l.b k 0) p) (bit (get_or l.f k 0) p));
  rest : (k : ℕ) → l.k ≤ k → get_or l.a k 0 ≡ get_or l.initial.a k 0;
}
