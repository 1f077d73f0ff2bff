use Rattle.std.proofs.Common.{◌++◌, ◌∙◌, append_assoc}
use Rattle.cm_bits.specs.Text.{words_left}
use Rattle.lab_route_plot.specs.Legs.{chip_of_word, next_chip, legs_at, legs_from}
use Rattle.lab_route_plot.proofs.legs.push_chips.Goals as goal

pub loop-word-preserved : goal.loop-word-preserved
unfolding legs_from
loop-word-preserved c =
    let before = c.loop-word.legs.items in
    let words = words_left c.next.new.self in
    let chip = chip_of_word c.in-Some.word.now in
    let leg = legs_at c.args.cycle c.args.line.now c.loop-word.from chip in
    let rest = legs_from c.args.cycle c.args.line.now (next_chip c.loop-word.from chip) words in
    (λ j. c.in_ok-from.ensures.legs j ++ legs_from c.args.cycle c.args.line.now (c.in_ok-from.ensures.next j) words)
    ∙ append_assoc before leg rest
    ∙ (rw c.in-Some.ensures.steps at c.loop-word.invariant)

pub returns : goal.returns
unfolding legs_from
returns c = record {
  ok = c.in_ok-push_end.ensures.ok ∙ (rw c.in-None.ensures.steps.0 at c.loop-word.invariant);
}
