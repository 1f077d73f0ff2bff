use Rattle.std.proofs.Common.{◌≡◌, set}
use Rattle.cm_model.specs.Array.{chip_at}
use Rattle.cm_element.specs.Wide.{with_memory_field}
use Rattle.cm_element.proofs.run.Run.poke_field.Given as goal

-- the lowest bits of the number stand in the field
abbrev pub invariant-loop-i : goal.invariant-loop-i
invariant-loop-i l = l.self ≡ set l.fn.self l.chip (with_memory_field (chip_at l.fn.self l.chip) l.proc l.at l.i l.value)
