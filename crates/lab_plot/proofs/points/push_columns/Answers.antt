use Rattle.std.proofs.Common.{◌≡◌, ℕ, ◌+◌, ◌-◌, ◌++◌, ap, ◌∙◌, arith}
use Rattle.std.specs.List.{flat_map, range_with_len}
use Rattle.lab_plot.specs.Points.{point_in, point_of}
use Rattle.lab_plot.proofs.Growing.{number-more}
use Rattle.lab_plot.proofs.points.push_columns.Goals as goal

pub loop-k-preserved : goal.loop-k-preserved
loop-k-preserved c =
    number-more (point_in c.args.line.now) c.args.points.now.items c.loop-k.points.items c.push_point.new.points.items 1
    c.loop-k.k (c.loop-k.k + 1) (omega arith) c.loop-k.invariant
    (c.in_ok-push_point.ensures.ok
    ∙ (λ j. c.loop-k.points.items
    ++ point_of (c.loop-k.k + 1) (c.number_at-x.ensures.value j) (c.number_at.ensures.value j)))

pub returns : goal.returns
returns c =
    let all : c.loop-k.k ≡ c.args.columns - 1 =
    omega (arith, c.loop-k-test.false, c.loop-k.auto.k-end, c.saturating_sub-behind.ensures) in
    record {
      ok = c.loop-k.invariant
          ∙ ap (λ (k : ℕ). c.args.points.now.items ++ flat_map (point_in c.args.line.now) (range_with_len 1 k)) all;
    }
