use Rattle.std.proofs.Common.{ℕ, ◌+◌, ◌-◌, List, ◌∷◌, [], Bool, Ok, Err, length, sym, ap, ◌∙◌, arith, length-append}
use Rattle.std.proofs.Common.{if◌then◌else◌}
use Rattle.lab_figures.specs.declared.picture_reading.PictureFault.TheVariants.{TooMany}
use Rattle.lab_figures.specs.PictureReading.{after_dots}
use Rattle.lab_figures.proofs.Dots.{after_one_dot, after_all_dots, plain_dots_are}
use Rattle.lab_figures.proofs.picture_reading.read_plain.Goals as goal

pub returns-in-Err-clause-value : goal.returns-in-Err-clause-value
returns-in-Err-clause-value c = λ _.
    plain_dots_are c.args.text.now c.args.greatest c.args.count c.args.bytes.now (Err c.in-Err.fault)
    (sym c.loop-i.invariant.read
    ∙ after_one_dot c.args.text.now c.args.greatest c.args.count c.loop-i.i c.loop-i.dots.items c.loop-i.rest.now
    (Err c.in-Err.fault) c.loop-i-test.true c.in-Err.ensures.value)

pub loop-i-preserved : goal.loop-i-preserved
loop-i-preserved c = record {
  counted = omega (
    arith,
    ap length c.in-Ok-push.ensures.items,
    length-append c.loop-i.dots.items (c.in-Ok-take_dot.read.0 ∷ []),
    c.loop-i.invariant.counted,
  );
  read = ap (λ (dots : List ℕ). after_dots c.args.text.now c.args.greatest (c.args.count - (c.loop-i.i + 1)) dots
      c.in-Ok-take_dot.read.1.now) c.in-Ok-push.ensures.items
      ∙ sym (after_one_dot c.args.text.now c.args.greatest c.args.count c.loop-i.i c.loop-i.dots.items
      c.loop-i.rest.now (Ok (c.in-Ok-take_dot.read.0, c.in-Ok-take_dot.read.1.now)) c.loop-i-test.true
      c.in-Ok-take_dot.ensures.value)
      ∙ c.loop-i.invariant.read;
}

pub returns-then-has_more-clause-value : goal.returns-then-has_more-clause-value
returns-then-has_more-clause-value c = λ _.
    plain_dots_are c.args.text.now c.args.greatest c.args.count c.args.bytes.now (Ok (c.loop-i.dots.items, c.loop-i.rest.now))
    (sym c.loop-i.invariant.read
    ∙ after_all_dots c.args.text.now c.args.greatest c.args.count c.loop-i.i c.loop-i.dots.items c.loop-i.rest.now
    (omega (arith, c.loop-i-test.false, c.loop-i.auto.i-end)))
    ∙ ap (λ (b : Bool). if b then Err TooMany else Ok c.loop-i.dots.items) (sym c.has_more.ensures.value ∙ c.if-has_more.true)

pub returns-else-has_more-clause-value : goal.returns-else-has_more-clause-value
returns-else-has_more-clause-value c =
    plain_dots_are c.args.text.now c.args.greatest c.args.count c.args.bytes.now (Ok (c.loop-i.dots.items, c.loop-i.rest.now))
    (sym c.loop-i.invariant.read
    ∙ after_all_dots c.args.text.now c.args.greatest c.args.count c.loop-i.i c.loop-i.dots.items c.loop-i.rest.now
    (omega (arith, c.loop-i-test.false, c.loop-i.auto.i-end)))
    ∙ ap (λ (b : Bool). if b then Err TooMany else Ok c.loop-i.dots.items) (sym c.has_more.ensures.value ∙ c.if-has_more.false)
