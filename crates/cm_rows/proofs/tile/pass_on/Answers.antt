use Rattle.std.proofs.Common.{◌≢◌, ◌<◌, ℕ, length, ap, ◌∙◌, arith, below_more, get_or-set_same, get_or-set_other}
use Rattle.cm_model.specs.Chip.{plane_bit}
use Rattle.cm_model.specs.Place.{predecessor}
use Rattle.cm_rows.proofs.tile.pass_on.Goals as goal

pub loop-k-preserved : goal.loop-k-preserved
loop-k-preserved c =
    let k = c.loop-k.k in
    let now = c.loop-k.invariant in
    record {
      done = below_more _ _ (λ j h. let ne : j ≢ k = omega arith in rw get_or-set_other (now.done j h))
          (let lt : k < length c.loop-k.planes = omega arith in λ p h. rw get_or-set_same
          (c.previous.ensures.value p h
          ∙ ap (λ (w : ℕ). plane_bit w (predecessor p)) (now.rest k (omega arith))));
      rest = λ j h. let ne : j ≢ k = omega arith in rw get_or-set_other (now.rest j (omega arith));
    }
