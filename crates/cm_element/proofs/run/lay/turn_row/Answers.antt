use Rattle.std.proofs.Common.{◌≢◌, ℕ, ◌+◌, ◌<◌, length, refl, arith, below_more, get_or-set_same, get_or-set_other}
use Rattle.cm_element.proofs.run.lay.turn_row.Goals as goal

pub loop-c-preserved : goal.loop-c-preserved
loop-c-preserved g c =
    let k : ℕ = c.loop-c.c in
    let at : ℕ = c.args.at in
    let now = c.loop-c.invariant in
    record {
      done = below_more _ _ (λ j h. let ne : at + j ≢ at + k = omega arith in rw get_or-set_other (now.done j h))
          (let lt : at + k < length c.loop-c.rows = omega arith in rw get_or-set_same refl);
      below = λ i h. let ne : i ≢ at + k = omega arith in rw get_or-set_other (now.below i h);
      above = λ i h. let ne : i ≢ at + k = omega arith in rw get_or-set_other (now.above i (omega arith));
    }
