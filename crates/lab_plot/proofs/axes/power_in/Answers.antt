use Rattle.std.proofs.Common.{◌≡◌, ℕ, suc, ◌+◌, refl, sym, ap, ◌∙◌, arith}
use Rattle.lab_plot.specs.Axes.{power_in, wider}
use Rattle.lab_plot.proofs.axes.power_in.Goals as goal

-- one zero more
power_in-more : (range zeros : ℕ) → power_in range (zeros + 1) ≡ wider range (power_in range zeros)
unfolding power_in
power_in-more range zeros =
    let next : zeros + 1 ≡ suc zeros = omega arith in
    ap (power_in range) next

pub loop-zeros-init : goal.loop-zeros-init
unfolding power_in
loop-zeros-init c = record { value = refl; some = omega arith }

pub loop-zeros-preserved : goal.loop-zeros-preserved
loop-zeros-preserved c = record {
  value = c.wider-power.ensures.value ∙ ap (wider c.args.range) c.loop-zeros.invariant.value
      ∙ sym (power_in-more c.args.range c.loop-zeros._zeros);
  some = c.wider-power.ensures.some;
}
