use Rattle.std.proofs.Common.{ℕ, ◌<◌, ◌+◌, get_or}
use Rattle.cm_bits.specs.Bit.{bit}
use Rattle.cm_model.specs.Chip.{IsPlane}
use Rattle.cm_rows.specs.Rows.{stores}
use Rattle.cm_rows.proofs.tile.choose.Given as goal

-- the words so far
abbrev pub invariant-loop-k : goal.invariant-loop-k
invariant-loop-k l = (j : ℕ) → j < l.k
    → IsPlane (get_or l.choice j 0) (λ p. stores l.always l.sense (bit (get_or l.flags (l.at + j) 0) p))
