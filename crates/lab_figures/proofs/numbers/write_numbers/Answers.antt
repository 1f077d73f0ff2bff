use Rattle.std.proofs.Common.{ℕ, [], ◌∷◌, ◌++◌, get_or, decimal, ap, sym, ◌∙◌, append_assoc, arith}
use Rattle.lab_figures.specs.Numbers.{separator_behind}
use Rattle.lab_figures.proofs.Texts.{one_more_written, all_written}
use Rattle.lab_figures.proofs.numbers.write_numbers.Goals as goal

pub loop-index-preserved : goal.loop-index-preserved
loop-index-preserved c =
    let before = c.loop-index.text.items in
    let number = decimal (get_or c.args.numbers.now c.loop-index.index 0) in
    one_more_written c.args.width c.args.numbers.now before c.push_number.new.text.items c.loop-index.index
    c.loop-index-test.true c.loop-index.invariant
    (c.in_ok-push_number.ensures.ok ∙ ap (λ (b : ℕ). before ++ (number ++ b ∷ [])) c.behind.ensures.value
    ∙ sym (append_assoc before number (separator_behind c.args.width c.loop-index.index ∷ [])))

pub returns : goal.returns
returns c = record {
  value = all_written c.args.width c.args.numbers.now c.loop-index.text.items c.loop-index.index
      (omega (arith, c.loop-index-test.false, c.loop-index.auto.index-end)) c.loop-index.invariant;
}
