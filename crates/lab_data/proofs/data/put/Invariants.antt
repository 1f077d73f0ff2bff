use Rattle.std.proofs.Common.{◌≡◌}
use Rattle.cm_model.specs.Keeping.{IsMachine}
use Rattle.lab_data.proofs.Putting.{with_chips, chips_filled}
use Rattle.lab_data.proofs.data.put.Given as goal

-- so many chips have their numbers
abbrev pub invariant-loop-chip : goal.invariant-loop-chip
invariant-loop-chip g l = record {
  value : l.machine ≡ with_chips l.fn.machine
      (chips_filled g.S.Sizes.n l.order l.field.at l.field.len l.numbers l.fn.machine.machine.chips l.chip);
  whole : IsMachine g.S.Sizes.n g.S.Sizes.cap l.machine.machine;
}
