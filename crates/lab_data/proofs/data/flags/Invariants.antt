use Rattle.std.proofs.Common.{◌≡◌}
use Rattle.cm_bits.specs.Bit.{bit_number}
use Rattle.cm_model.specs.Each.{tabulate}
use Rattle.cm_model.specs.Processor.{flag}
use Rattle.cm_model.specs.Array.{processor_of}
use Rattle.lab_data.specs.Data.{place_in}
use Rattle.lab_data.proofs.data.flags.Given as goal

-- the flags of so many processors
abbrev pub invariant-loop-index : goal.invariant-loop-index
invariant-loop-index g l = l.flags.items
    ≡ tabulate 0 l.index
    (λ i. bit_number (flag (processor_of l.fn.machine.machine.chips (place_in g.S.Sizes.n l.fn.order i)) l.fn.number))
