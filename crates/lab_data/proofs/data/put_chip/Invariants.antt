use Rattle.std.proofs.Common.{◌≡◌, set}
use Rattle.cm_model.specs.Array.{chip_at}
use Rattle.cm_model.specs.Keeping.{IsMachine}
use Rattle.lab_data.proofs.Putting.{with_chips, chip_filled}
use Rattle.lab_data.proofs.data.put_chip.Given as goal

-- so many processors of the chip have their numbers
abbrev pub invariant-loop-p : goal.invariant-loop-p
invariant-loop-p g l = record {
  value : l.machine ≡ with_chips l.fn.machine
      (set l.fn.machine.machine.chips l.chip
      (chip_filled g.S.Sizes.n l.order l.field.at l.field.len l.numbers l.chip
      (chip_at l.fn.machine.machine.chips l.chip) l.p));
  whole : IsMachine g.S.Sizes.n g.S.Sizes.cap l.machine.machine;
}
