use Rattle.std.proofs.Common.{◌≡◌, ℕ, Option, Ok, Err, sym, ap, ◌∙◌}
use Rattle.cm_bits.specs.Text.{words_left, number_of}
use Rattle.lab_figures.specs.Numbers.{one_number_more, numbers_after_words}
use Rattle.lab_figures.proofs.Texts.{after_one_word}
use Rattle.lab_figures.proofs.numbers.push_words.Goals as goal

pub loop-word-preserved : goal.loop-word-preserved
loop-word-preserved c =
    let before = c.loop-word.numbers.items in
    let step : one_number_more c.args.len c.args.count c.args.line before (number_of c.in-Some.word.now)
    ≡ Ok c.push_one.new.numbers.items =
    ap (λ (o : Option ℕ). one_number_more c.args.len c.args.count c.args.line before o) (sym c.read_number.ensures)
    ∙ c.in-Ok.ensures.ok in
    sym (after_one_word c.args.len c.args.count c.args.line before c.in-Some.word.now (words_left c.next.new.self)
    (Ok c.push_one.new.numbers.items) step)
    ∙ (rw c.in-Some.ensures.steps at c.loop-word.invariant)

pub returns-in-Err-clause-err : goal.returns-in-Err-clause-err
returns-in-Err-clause-err c = λ other.
    let before = c.loop-word.numbers.items in
    let step : one_number_more c.args.len c.args.count c.args.line before (number_of c.in-Some.word.now) ≡ Err c.in-Err.fault =
    ap (λ (o : Option ℕ). one_number_more c.args.len c.args.count c.args.line before o) (sym c.read_number.ensures)
    ∙ c.in-Err.ensures.err other in
    sym (rw c.in-Some.ensures.steps at c.loop-word.invariant)
    ∙ after_one_word c.args.len c.args.count c.args.line before c.in-Some.word.now (words_left c.next.new.self)
    (Err c.in-Err.fault) step

pub returns-clause-ok : goal.returns-clause-ok
unfolding numbers_after_words
returns-clause-ok c = sym (rw c.in-None.ensures.steps.0 at c.loop-word.invariant)
