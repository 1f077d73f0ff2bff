use Rattle.std.proofs.Common.{◌≡◌, ℕ, [], ap, ◌∙◌, arith}
use Rattle.std.specs.List.{flat_map, range_with_len}
use Rattle.lab_plot.specs.Bins.{bin, bins_to}
use Rattle.lab_plot.proofs.Growing.{next-more}
use Rattle.lab_plot.proofs.bins.bins_to.Goals as goal

pub loop-k-preserved : goal.loop-k-preserved
loop-k-preserved c =
    next-more (bin c.args.points.now c.args.most c.args.width) [] c.loop-k.bins.items c.push_bin.new.bins.items c.loop-k.k
    c.loop-k.invariant c.in_ok-push_bin.ensures.ok

pub returns : goal.returns
unfolding bins_to
returns c =
    let all : c.loop-k.k ≡ c.args.count = omega (arith, c.loop-k-test.false, c.loop-k.auto.k-end) in
    record {
      value = c.loop-k.invariant
          ∙ ap (λ (k : ℕ). flat_map (bin c.args.points.now c.args.most c.args.width) (range_with_len 0 k)) all;
    }
