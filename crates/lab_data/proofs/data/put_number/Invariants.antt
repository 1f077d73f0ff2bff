use Rattle.std.proofs.Common.{◌≡◌, set}
use Rattle.cm_model.specs.Array.{chip_at}
use Rattle.cm_model.specs.Keeping.{IsMachine}
use Rattle.cm_element.specs.Wide.{with_memory_field}
use Rattle.lab_data.proofs.Putting.{with_chips}
use Rattle.lab_data.proofs.data.put_number.Given as goal

-- the lowest bits of the number stand in the field
abbrev pub invariant-loop-i : goal.invariant-loop-i
invariant-loop-i g l = record {
  value : l.machine ≡ with_chips l.fn.machine
      (set l.fn.machine.machine.chips l.chip
      (with_memory_field (chip_at l.fn.machine.machine.chips l.chip) l.proc l.at l.i l.number));
  whole : IsMachine g.S.Sizes.n g.S.Sizes.cap l.machine.machine;
}
