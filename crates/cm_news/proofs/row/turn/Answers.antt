use Rattle.std.proofs.Common.{◌≢◌, ℕ, ◌+◌, ◌<◌, length, arith, below_more, get_or-set_same, get_or-set_other}
use Rattle.cm_news.proofs.row.turn.Goals as goal

pub loop-k-preserved : goal.loop-k-preserved
loop-k-preserved c =
    let k : ℕ = c.loop-k.k in
    let from : ℕ = c.args.from in
    let now = c.loop-k.invariant in
    record {
      each = below_more _ _ (λ j h. let ne : from + j ≢ from + k = omega arith in rw get_or-set_other (now.each j h))
          (let lt : from + k < length c.loop-k.out = omega arith in
          rw get_or-set_same (record { straight = λ l. c.joined.ensures.value; over = λ l. absurd (omega arith) }));
      below = λ i h. let ne : i ≢ from + k = omega arith in rw get_or-set_other (now.below i h);
      above = λ i h. let ne : i ≢ from + k = omega arith in rw get_or-set_other (now.above i (omega arith));
    }

pub loop-k-2-preserved : goal.loop-k-2-preserved
loop-k-2-preserved c =
    let k : ℕ = c.loop-k-2.k in
    let from : ℕ = c.args.from in
    let now = c.loop-k-2.invariant in
    record {
      each = below_more _ _ (λ j h. let ne : from + j ≢ from + k = omega arith in rw get_or-set_other (now.each j h))
          (let lt : from + k < length c.loop-k-2.out = omega arith in rw get_or-set_same
          (record { straight = λ l. absurd (omega arith); over = λ l. c.joined-in-loop-k-2.ensures.value }));
      below = λ i h. let ne : i ≢ from + k = omega arith in rw get_or-set_other (now.below i h);
      above = λ i h. let ne : i ≢ from + k = omega arith in rw get_or-set_other (now.above i (omega arith));
    }
