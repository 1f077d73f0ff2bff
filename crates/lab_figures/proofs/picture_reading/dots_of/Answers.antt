use Rattle.std.proofs.Common.{◌≡◌, ℕ, ◌*◌, [], length, map, ap, ◌∙◌, arith}
use Rattle.std.specs.List.{range_with_len}
use Rattle.std.proofs.lemmas.List.FromFn.{length-map-range_with_len}
use Rattle.lab_figures.specs.PictureReading.{raw_dot}
use Rattle.lab_figures.proofs.Growing.{each_more}
use Rattle.lab_figures.proofs.picture_reading.dots_of.Goals as goal

pub loop-i-preserved : goal.loop-i-preserved
loop-i-preserved c =
    each_more (raw_dot c.args.raster.now c.args.greatest c.args.width) [] c.loop-i.dots.items c.push.new.self.items
    c.loop-i.i c.raw_dot-dot.result c.loop-i.invariant c.in-Ok-push.ensures.items c.raw_dot-dot.ensures.value

pub returns-clause-value : goal.returns-clause-value
returns-clause-value c =
    let all : c.loop-i.i ≡ c.from.result * c.from-2.result = omega (arith, c.loop-i-test.false, c.loop-i.auto.i-end) in
    c.loop-i.invariant
    ∙ ap (λ (count : ℕ). map (raw_dot c.args.raster.now c.args.greatest c.args.width) (range_with_len 0 count))
    (all ∙ (λ j. c.from.ensures j * c.from-2.ensures j))

pub returns-clause-count : goal.returns-clause-count
returns-clause-count c =
    let all : c.loop-i.i ≡ c.from.result * c.from-2.result = omega (arith, c.loop-i-test.false, c.loop-i.auto.i-end) in
    ap length c.loop-i.invariant
    ∙ length-map-range_with_len (raw_dot c.args.raster.now c.args.greatest c.args.width) 0 c.loop-i.i
    ∙ all ∙ (λ j. c.from.ensures j * c.from-2.ensures j)
