use Rattle.std.proofs.Common.{◌≢◌, ℕ, ◌+◌, ◌<◌, cond, length, get_or, ap, ◌∙◌, arith}
use Rattle.std.proofs.Common.{below_more, get_or-set_same, get_or-set_other}
use Rattle.cm_bits.specs.Bit.{bit}
use Rattle.cm_rows.proofs.tile.merge.Goals as goal

pub loop-k-preserved : goal.loop-k-preserved
loop-k-preserved c =
    let k : ℕ = c.loop-k.k in
    let at : ℕ = c.args.at in
    let now = c.loop-k.invariant in
    record {
      each = below_more _ _ (λ j h. let ne : at + j ≢ at + k = omega arith in rw get_or-set_other (now.each j h))
          (let lt : at + k < length c.loop-k.row = omega arith in λ p. rw get_or-set_same
          (c.chosen.ensures.value p ∙ ap (λ (w : ℕ). cond (bit (get_or c.args.choice.now k 0) p)
          (bit (get_or c.args.planes.now k 0) p) (bit w p)) (now.above (at + k) (omega arith))));
      below = λ i h. let ne : i ≢ at + k = omega arith in rw get_or-set_other (now.below i h);
      above = λ i h. let ne : i ≢ at + k = omega arith in rw get_or-set_other (now.above i (omega arith));
    }
