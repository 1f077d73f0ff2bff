use Rattle.std.proofs.Common.{◌≢◌, ◌<◌, length, arith, below_more, get_or-set_same, get_or-set_other}
use Rattle.cm_image_dump.proofs.counts.count_row.Goals as goal

pub loop-c-preserved : goal.loop-c-preserved
loop-c-preserved c =
    let k = c.loop-c.c in
    let now = c.loop-c.invariant in
    record {
      done = below_more _ _ (λ j h. let ne : j ≢ k = omega arith in rw get_or-set_other (now.done j h))
          (let lt : k < length c.loop-c.counts = omega arith in rw get_or-set_same
          (omega (arith, now.rest k (omega arith), c.count_listings.ensures.value)));
      rest = λ j h. let ne : j ≢ k = omega arith in rw get_or-set_other (now.rest j (omega arith));
    }
