use Rattle.std.proofs.Common.{◌≡◌, ◌≤◌, sum}
use Rattle.cm_bits.specs.Bit.{bit, bit_number}
use Rattle.cm_model.specs.Each.{tabulate}
use Rattle.lab_front.proofs.telling.ones.Given as goal

-- those of so many bits
abbrev pub invariant-loop-p : goal.invariant-loop-p
invariant-loop-p l = record {
  so_far : l.total ≡ sum (tabulate 0 l.p (λ p. bit_number (bit l.plane p)));
  within : l.total ≤ l.p;
}
