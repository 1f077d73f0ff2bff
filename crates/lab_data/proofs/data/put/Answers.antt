use Rattle.std.proofs.Common.{◌≡◌, ℕ, ◌^◌, set, ap, ◌∙◌, arith}
use Rattle.cm_model.specs.Array.{chip_at}
use Rattle.lab_data.specs.Data.{chip_with_numbers}
use Rattle.lab_data.proofs.Putting.{with_chips, chips_filled, chips_filled-none, chips_filled-all, chips_filled-more}
use Rattle.lab_data.proofs.data.put.Goals as goal

pub loop-chip-init : goal.loop-chip-init
loop-chip-init g c = record {
  value = ap (with_chips c.args.machine.now)
      (chips_filled-none g.S.Sizes.n c.args.order c.args.field.at c.args.field.len c.args.numbers.now
      c.args.machine.now.machine.chips c.clock-clock.ensures.whole.chip_count);
  whole = c.clock-clock.ensures.whole;
}

pub loop-chip-preserved : goal.loop-chip-preserved
loop-chip-preserved g c =
    let chips = c.args.machine.now.machine.chips in
    record {
      value = c.put_chip.ensures.value
          ∙ (λ j. with_chips (c.loop-chip.invariant.value j)
          (set (c.loop-chip.invariant.value j).machine.chips c.loop-chip.chip
          (chip_with_numbers g.S.Sizes.n c.args.order c.args.field.at c.args.field.len c.args.numbers.now c.loop-chip.chip
          (chip_at (c.loop-chip.invariant.value j).machine.chips c.loop-chip.chip))))
          ∙ ap (with_chips c.args.machine.now)
          (chips_filled-more g.S.Sizes.n c.args.order c.args.field.at c.args.field.len c.args.numbers.now chips
          c.loop-chip.chip (omega (arith, c.loop-chip-test.true, c.chip_count-chips.ensures.value)));
      whole = c.put_chip.ensures.whole;
    }

pub returns : goal.returns
returns g c =
    let chips = c.args.machine.now.machine.chips in
    let all : c.loop-chip.chip ≡ 2 ^ g.S.Sizes.n = omega (
      arith,
      c.loop-chip-test.false,
      c.loop-chip.auto.chip-end,
      c.chip_count-chips.ensures.value,
    ) in
    record {
      value = c.loop-chip.invariant.value
          ∙ ap (λ (done : ℕ). with_chips c.args.machine.now
          (chips_filled g.S.Sizes.n c.args.order c.args.field.at c.args.field.len c.args.numbers.now chips done)) all
          ∙ ap (with_chips c.args.machine.now)
          (chips_filled-all g.S.Sizes.n c.args.order c.args.field.at c.args.field.len c.args.numbers.now chips);
    }
