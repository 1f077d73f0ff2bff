use Rattle.std.proofs.Common.{◌≢◌, ℕ, ◌+◌, ◌<◌, length, arith, below_more, get_or, get_or-set_same, get_or-set_other}
use Rattle.cm_news.proofs.Banding.{entered}
use Rattle.cm_news.proofs.row.enter.Goals as goal

pub loop-k-preserved : goal.loop-k-preserved
loop-k-preserved c =
    let k : ℕ = c.loop-k.k in
    let from : ℕ = c.args.from in
    let now = c.loop-k.invariant in
    record {
      each = below_more _ _ (λ j h. let ne : from + j ≢ from + k = omega arith in rw get_or-set_other (now.each j h))
          (let lt : from + k < length c.loop-k.out = omega arith in
          rw get_or-set_same (entered c.args.dir (get_or c.args.planes.now (from + k) 0) (get_or c.args.edge.now k 0)
          c.over_edge.result c.over_edge.ensures.value));
      below = λ i h. let ne : i ≢ from + k = omega arith in rw get_or-set_other (now.below i h);
      above = λ i h. let ne : i ≢ from + k = omega arith in rw get_or-set_other (now.above i (omega arith));
    }
