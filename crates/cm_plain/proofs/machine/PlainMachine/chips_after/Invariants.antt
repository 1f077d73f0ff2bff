use Rattle.std.proofs.Common.{◌≡◌, ◌^◌, ◌≤◌, vec_len, vec_capacity}
use Rattle.cm_model.specs.Each.{tabulate}
use Rattle.cm_model.specs.Chip.{chip_after}
use Rattle.cm_model.specs.Array.{chip_at, incoming}
use Rattle.cm_plain.proofs.machine.PlainMachine.chips_after.Given as goal

abbrev pub invariant-loop-chip : goal.invariant-loop-chip
invariant-loop-chip g l = record {
  items : l.chips.items ≡ tabulate 0 l.chip
      (λ c. chip_after l.nano (incoming g.row.N l.nano l.self c) (chip_at l.self c));
  len : vec_len l.chips ≡ l.chip;
  room : 2 ^ g.row.N ≤ vec_capacity l.chips;
}
