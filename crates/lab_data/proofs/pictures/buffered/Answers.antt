use Rattle.std.proofs.Common.{◌≡◌, ℕ, ◌^◌, ◌++◌, ◌∷◌, [], length, ap, ◌∙◌, sym, arith}
use Rattle.cm_model.specs.Each.{tabulate}
use Rattle.cm_model.specs.Array.{nth_or_nil}
use Rattle.cm_model.proofs.Each.{length-tabulate}
use Rattle.lab_data.specs.Pictures.{buffered}
use Rattle.lab_data.proofs.Orders.{chips_in_columns}
use Rattle.lab_data.proofs.Filling.{tabulate-more}
use Rattle.lab_data.proofs.pictures.buffered.Goals as goal

pub loop-chip-init : goal.loop-chip-init
unfolding tabulate
loop-chip-init g c = c.in_ok-dots.ensures.items

pub loop-chip-preserved : goal.loop-chip-preserved
loop-chip-preserved g c =
    let count = λ (k : ℕ). length (nth_or_nil c.args.machine.now.machine.buffers k) in
    c.in-Ok.ensures.items
    ∙ (λ j. c.loop-chip.invariant j ++ ap length c.buffer.ensures.value j ∷ [])
    ∙ sym (tabulate-more count c.loop-chip.chip)

pub returns : goal.returns
unfolding buffered
returns g c =
    let count = λ (k : ℕ). length (nth_or_nil c.args.machine.now.machine.buffers k) in
    let all : c.loop-chip.chip ≡ 2 ^ g.S.Sizes.n = omega (
      arith,
      c.loop-chip-test.false,
      c.loop-chip.auto.chip-end,
      c.chip_count-chips.ensures.value,
    ) in
    let value : c.loop-chip.dots.items ≡ tabulate 0 (2 ^ g.S.Sizes.n) count =
    c.loop-chip.invariant ∙ ap (λ (chips : ℕ). tabulate 0 chips count) all in
    record { value = value; count = ap length value ∙ length-tabulate 0 (2 ^ g.S.Sizes.n) count ∙ chips_in_columns g.S.Sizes.n }
