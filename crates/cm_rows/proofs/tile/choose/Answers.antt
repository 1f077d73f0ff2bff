use Rattle.std.proofs.Common.{◌≢◌, ◌<◌, length, arith, below_more, get_or-set_same, get_or-set_other}
use Rattle.cm_rows.proofs.tile.choose.Goals as goal

pub loop-k-preserved : goal.loop-k-preserved
loop-k-preserved c =
    let k = c.loop-k.k in
    below_more _ _ (λ j h. let ne : j ≢ k = omega arith in rw get_or-set_other (c.loop-k.invariant j h))
    (let lt : k < length c.loop-k.choice = omega arith in λ p h. rw get_or-set_same (c.choice_of.ensures.value p h))
