use Rattle.std.proofs.Common.{◌≡◌, ◌+◌, ◌-◌, ◌*◌, ◌/◌, length, sym, ap, ◌∙◌, arith}
use Rattle.lab_load.specs.Figures.{is_reached}
use Rattle.lab_load.proofs.Finding.{first_at, first_nowhere, not_reached}
use Rattle.lab_load.proofs.figures.most_of.Goals as goal

pub loop-low-preserved : goal.loop-low-preserved
loop-low-preserved c = record {
  below = λ k h. not_reached c.args.latencies.now (95 * length c.args.latencies.now) k
      (c.loop-low.low + (c.loop-low.high - c.loop-low.low) / 2) (omega (arith, h))
      (sym c.is_reached.ensures.value ∙ c.if-is_reached.false);
  there = c.loop-low.invariant.there;
  order = omega arith;
  within = c.loop-low.invariant.within;
}

pub returns-then-low-cycles : goal.returns-then-low-cycles
returns-then-low-cycles c =
    let same : c.loop-low.low ≡ c.loop-low.high = omega arith in
    record {
      value = sym (first_at (is_reached c.args.latencies.now (95 * length c.args.latencies.now)) (c.args.cycles + 1)
          c.loop-low.low (omega arith) c.loop-low.invariant.below
          (ap (is_reached c.args.latencies.now (95 * length c.args.latencies.now)) same
          ∙ c.loop-low.invariant.there (omega (arith, same))));
    }

pub returns-else-low-cycles : goal.returns-else-low-cycles
returns-else-low-cycles c = record {
  value = sym (first_nowhere (is_reached c.args.latencies.now (95 * length c.args.latencies.now)) (c.args.cycles + 1)
      c.loop-low.low (omega arith) c.loop-low.invariant.below);
}
