use Rattle.std.proofs.Common.{◌≡◌, ◌≤◌, sum}
use Rattle.cm_bits.specs.Bit.{bit_number}
use Rattle.cm_model.specs.Each.{tabulate}
use Rattle.cm_model.specs.Processor.{SEND, flag}
use Rattle.cm_model.specs.Chip.{processor_at}
use Rattle.lab_study.proofs.counting.asking.Given as goal

-- those of so many processors
abbrev pub invariant-loop-p : goal.invariant-loop-p
invariant-loop-p l = record {
  so_far : l.total ≡ sum (tabulate 0 l.p (λ k. bit_number (flag (processor_at l.chip k) SEND)));
  within : l.total ≤ l.p;
}
