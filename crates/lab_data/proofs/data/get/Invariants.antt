use Rattle.std.proofs.Common.{◌≡◌}
use Rattle.cm_model.specs.Each.{tabulate}
use Rattle.cm_model.specs.Processor.{field_value}
use Rattle.cm_model.specs.Array.{processor_of}
use Rattle.lab_data.specs.Data.{place_in}
use Rattle.lab_data.proofs.data.get.Given as goal

-- the numbers of so many processors
abbrev pub invariant-loop-index : goal.invariant-loop-index
invariant-loop-index g l = l.numbers.items
    ≡ tabulate 0 l.index (λ i. field_value (processor_of l.fn.machine.machine.chips (place_in g.S.Sizes.n l.fn.order i))
    l.fn.field.at l.fn.field.len)
