use Rattle.std.proofs.Common.{◌≢◌, ◌<◌, length, refl, arith, below_more, get_or-set_same, get_or-set_other}
use Rattle.cm_truth.proofs.wide.apply_wide.Goals as goal

pub loop-k-preserved : goal.loop-k-preserved
loop-k-preserved c =
    let k = c.loop-k.k in
    let now = c.loop-k.invariant in
    record {
      done = below_more _ _ (λ j h. let ne : j ≢ k = omega arith in rw get_or-set_other (now.done j h))
          (let lt : k < length c.loop-k.a = omega arith in
          λ p h. rw (get_or-set_same, c.apply.ensures.value p h, now.rest k (omega arith)) refl);
      rest = λ j h. let ne : j ≢ k = omega arith in rw get_or-set_other (now.rest j (omega arith));
    }
