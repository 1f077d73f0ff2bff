use Rattle.std.proofs.Common.{sym, ◌∙◌, ap, length, arith}
use Rattle.cm_model.proofs.Each.{length-tabulate}
use Rattle.cm_plain.proofs.Made.{tabulate-zero, pushed}
use Rattle.cm_plain.proofs.machine.PlainMachine.blank.Goals as goal

pub loop-chip-init : goal.loop-chip-init
loop-chip-init g c = c.new-chips.ensures.items ∙ sym (tabulate-zero _)

pub loop-chip-preserved : goal.loop-chip-preserved
loop-chip-preserved g c =
    pushed c.loop-chip._chip _ c.loop-chip.chips.items c.push.new.self.items c.in_ok-chip.chip c.loop-chip.invariant
    c.in-Ok.ensures.items c.in_ok-chip.ensures.value

pub invariant_of-result : goal.invariant_of-result
invariant_of-result g c = (
  c.requires.dimension,
  ap length c.loop-chip.invariant ∙ length-tabulate 0 c.loop-chip._chip _ ∙ omega arith
      ∙ c.chip_count-chip-end.ensures.value,
)
