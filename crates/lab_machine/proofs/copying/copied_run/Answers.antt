use Rattle.std.proofs.Common.{length, sym, ap, ◌∙◌, arith}
use Rattle.cm_model.specs.Chip.{blank_chip}
use Rattle.cm_model.proofs.Each.{length-tabulate}
use Rattle.cm_array.proofs.Laying.{chips_cut, cut_all}
use Rattle.lab_machine.proofs.copying.copied_run.Goals as goal

pub copy_chips-requires : goal.copy_chips-requires
copy_chips-requires g c =
    let count = c.chip_count-chips.result in
    record {
      there = omega (arith, c.chip_count-chips.ensures.value);
      room = omega (
        arith,
        ap length c.in_ok-run.ensures.value,
        length-tabulate 0 count (λ k. blank_chip),
      );
    }

pub returns : goal.returns
returns g c =
    let from = c.args.machine.now.machine.chips in
    let count = c.chip_count-chips.result in
    record {
      value = chips_cut 0 count from c.in_ok-run.run' c.copy_chips.new.to
          (ap length c.in_ok-run.ensures.value ∙ length-tabulate 0 count (λ k. blank_chip))
          (omega (arith, c.clock-clock.ensures.whole.chip_count, c.chip_count-chips.ensures.value))
          c.copy_chips.ensures.value
          ∙ cut_all count from (c.chip_count-chips.ensures.value ∙ sym c.clock-clock.ensures.whole.chip_count);
    }
