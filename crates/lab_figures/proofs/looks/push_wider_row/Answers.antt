use Rattle.std.proofs.Common.{◌≡◌, ℕ, ◌*◌, ◌/◌, ◌++◌, map, length, ap, ◌∙◌, arith}
use Rattle.std.specs.List.{range_with_len}
use Rattle.lab_figures.specs.Pictures.{dot_at}
use Rattle.lab_figures.specs.Looks.{wider_row}
use Rattle.lab_figures.proofs.Enlarging.{one_longer}
use Rattle.lab_figures.proofs.Growing.{each_more}
use Rattle.lab_figures.proofs.looks.push_wider_row.Goals as goal

pub loop-x-preserved : goal.loop-x-preserved
loop-x-preserved c =
    let dots = λ (x : ℕ). dot_at c.args.picture.now (c.args.y / c.args.k) (x / c.args.k) in
    record {
      value = each_more dots c.args.dots.now.items c.loop-x.dots.items c.push.new.self.items c.loop-x.x
          c.dot_at.result c.loop-x.invariant.value c.in-Ok.ensures.items c.dot_at.ensures.value;
      count = one_longer c.loop-x.dots.items c.push.new.self.items c.dot_at.result (length c.args.dots.now.items) c.loop-x.x
          c.loop-x.invariant.count c.in-Ok.ensures.items;
    }

pub returns-clause-ok : goal.returns-clause-ok
unfolding wider_row
returns-clause-ok c =
    let dots = λ (x : ℕ). dot_at c.args.picture.now (c.args.y / c.args.k) (x / c.args.k) in
    let all : c.loop-x.x ≡ c.args.k * c.from.result = omega (arith, c.loop-x-test.false, c.loop-x.auto.x-end) in
    c.loop-x.invariant.value
    ∙ ap (λ (count : ℕ). c.args.dots.now.items ++ map dots (range_with_len 0 count))
    (all ∙ ap (λ (width : ℕ). c.args.k * width) (c.from.ensures ∙ c.width.ensures.value))
