use Rattle.std.proofs.Common.{refl, sym, ◌∙◌, arith, div-one}
use Rattle.cm_element.proofs.Putting.{none_put, next_bits, bits_left, retold_put}
use Rattle.cm_element.proofs.run.memory.put_sixteens.Goals as goal

pub loop-put-init : goal.loop-put-init
loop-put-init c = record {
  put = none_put c.args.words.now c.args.slots.now c.args.spot.stride c.args.spot.place c.args.proc c.from-at.result
      c.args.number;
  rest = sym (div-one c.args.number);
  within = omega arith;
  long = refl;
}

pub loop-put-preserved : goal.loop-put-preserved
loop-put-preserved c =
    let was = c.loop-put.invariant in
    record {
      put = c.put_sixteen.ensures.value c.args.words.now c.from-at.result c.loop-put.put c.args.number refl
          (λ k h. next_bits c.args.number c.loop-put.put c.loop-put.rest k was.rest h) was.put;
      rest = bits_left c.args.number c.loop-put.put c.loop-put.rest was.rest;
      within = omega arith;
      long = c.put_sixteen.ensures.words ∙ was.long;
    }

pub returns-after-loop-put-clause-value : goal.returns-after-loop-put-clause-value
returns-after-loop-put-clause-value c =
    retold_put c.args.words.now c.args.slots.now c.args.spot.stride c.args.spot.place c.args.proc c.from-at.result
    c.args.field.at c.loop-put.put c.loop-put.put c.args.number c.loop-put.words c.loop-put.invariant.put
    (c.from-at.ensures ∙ c.at.ensures.value) refl

pub returns-else-are_in_use-clause-value : goal.returns-else-are_in_use-clause-value
returns-else-are_in_use-clause-value c =
    retold_put c.args.words.now c.args.slots.now c.args.spot.stride c.args.spot.place c.args.proc c.from-at.result
    c.args.field.at c.loop-put.put c.loop-put.put c.args.number c.loop-put.words c.loop-put.invariant.put
    (c.from-at.ensures ∙ c.at.ensures.value) refl
