use Rattle.std.proofs.Common.{◌≢◌, ◌+◌, ◌<◌, false, length, cond, get_or, sym, ap, ◌∙◌, arith}
use Rattle.std.proofs.Common.{below_more, get_or-set_same, get_or-set_other}
use Rattle.std.specs.Bool.{beq}
use Rattle.cm_bits.specs.Bit.{bit}
use Rattle.cm_model.proofs.Bits.{bit-zero}
use Rattle.cm_element.proofs.run.rows.merge.Goals as goal

pub returns-then-always : goal.returns-then-always
returns-then-always c =
    let all = c.requires.all c.if-always.true in
    record {
      value = record {
        each = λ k h p below.
            let now = bit (get_or c.args.incoming.now k 0) p in
            let old = bit (get_or c.args.flags.now (c.args.at.write + k) 0) p in
            sym ((λ j. cond (beq (bit (all.1 k h j) p) (all.0 j)) now old)
            ∙ ap (λ v. cond (beq v false) now old) (bit-zero p));
      };
    }

pub loop-c-preserved : goal.loop-c-preserved
loop-c-preserved c =
    let k = c.loop-c.c in
    let now = c.loop-c.invariant in
    record {
      done = below_more _ _ (λ j h. let ne : j ≢ k = omega arith in rw get_or-set_other (now.done j h))
          (let lt : k < length c.loop-c.incoming = omega arith in λ p h. rw get_or-set_same
          (c.chosen.ensures.value p ∙ (λ j. cond (c.holding-holds.ensures.value p h j)
          (bit (now.rest k (omega arith) j) p) (bit (get_or c.args.flags.now (c.args.at.write + k) 0) p))));
      rest = λ j h. let ne : j ≢ k = omega arith in rw get_or-set_other (now.rest j (omega arith));
    }
