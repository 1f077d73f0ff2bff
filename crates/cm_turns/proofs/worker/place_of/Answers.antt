use Rattle.std.proofs.Common.{◌≡◌, ◌+◌, ◌-◌, suc, sym, ap, ◌∙◌, arith}
use Rattle.cm_turns.specs.Lanes.{place_of_kind}
use Rattle.cm_turns.proofs.Powers.{log_of_power, log_below}
use Rattle.cm_turns.proofs.worker.place_of.Goals as goal

pub overflow_sub-result : goal.overflow_sub-result
overflow_sub-result c =
    let below = log_below c.ilog2.result c.in-Dim.dim c.args.chips c.ilog2.ensures.power_le
    (c.requires.outer c.in-Dim.dim c.in-Dim.is) in
    omega (arith, below, c.from.ensures)

pub returns-in-Dim : goal.returns-in-Dim
returns-in-Dim c = record {
  value = λ n k is.
      let same : c.ilog2.result ≡ n - k =
      log_of_power c.ilog2.result (n - k) (omega (arith, c.ilog2.ensures.power_le, is))
      (omega (arith, c.ilog2.ensures.next_power_gt, is)) in
      let place : c.from.result - c.ilog2.result + 2 ≡ suc (suc (c.in-Dim.dim - (n - k))) =
      omega (arith, same, c.from.ensures) in
      place ∙ ap (place_of_kind n k) (sym c.in-Dim.is);
}
