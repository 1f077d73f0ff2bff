use Rattle.std.proofs.Common.{◌≡◌, ◌+◌, ◌-◌, ◌*◌, ◌%◌}
use Rattle.cm_model.specs.Processor.{field_value}
use Rattle.cm_model.specs.Chip.{processor_at}
use Rattle.cm_model.specs.Array.{chip_at}
use Rattle.cm_element.proofs.run.Run.field.Given as goal

-- the value of the field's topmost bits
abbrev pub invariant-loop-below_top : goal.invariant-loop-below_top
invariant-loop-below_top l =
    l.value ≡ field_value (processor_at (chip_at l.self l.chip) l.proc) (l.at + (l.sixteens - l.below_top) * 16)
    (l.below_top * 16 + l.len % 16)
