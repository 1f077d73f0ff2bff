use Rattle.std.proofs.Common.{◌≡◌, ℕ, suc, ◌+◌, List, length, ap, ◌∙◌, arith}
use Rattle.lab_fresh.specs.declared.blanks.WireEnd.{WireEnd}
use Rattle.lab_fresh.specs.Drawn.{with_drawn, drawn_of_first}
use Rattle.lab_fresh.proofs.wires.drawn_wires.Goals as goal

one_more : (n count seed i : ℕ) (ends more : List WireEnd) → ends ≡ drawn_of_first n count seed i
    → more ≡ with_drawn n count seed i ends → more ≡ drawn_of_first n count seed (i + 1)
unfolding drawn_of_first
one_more n count seed i ends more before is =
    let next : suc i ≡ i + 1 = omega arith in
    is ∙ (ap (with_drawn n count seed i) before ∙ ap (drawn_of_first n count seed) next)

pub loop-i-init : goal.loop-i-init
unfolding drawn_of_first
loop-i-init c = record {
  value = c.new-ends.ensures.items;
  few = omega (arith, ap (λ (xs : List WireEnd). length xs) c.new-ends.ensures.items);
  left = omega (arith, ap (λ (xs : List WireEnd). length xs) c.new-ends.ensures.items, c.requires.count);
}

pub loop-i-preserved : goal.loop-i-preserved
loop-i-preserved c = record {
  value = one_more c.args.n c.args.count c.args.seed c.loop-i.i c.loop-i.ends.items c.push_drawn.new.ends.items
      c.loop-i.invariant.value c.in_ok-push_drawn.ensures.ok;
  few = c.in_ok-push_drawn.ensures.few;
  left = omega (arith, c.in_ok-push_drawn.ensures.left);
}
