use Rattle.std.proofs.Common.{◌≡◌, ◌+◌, length, sym, ap, ◌∙◌, arith}
use Rattle.std.proofs.lemmas.Result.{MatchResult-weaker}
use Rattle.cm_bits.specs.Text.{lines_left, lines_of}
use Rattle.lab_plot.specs.Pictures.{fault_of, head_fault, of_header, of_lines, table_picture}
use Rattle.lab_plot.specs.Points.{table_kind}
use Rattle.lab_digits.proofs.Counting.{few_lines}
use Rattle.lab_plot.proofs.Reading.{of_lines-words, of_lines-blank, head_fault-words, head_fault-blank, fault_of-some}
use Rattle.lab_plot.proofs.pictures.plot.Goals as goal

pub loop-line-init : goal.loop-line-init
loop-line-init c = record {
  counted = omega (arith, few_lines c.args.text.now, ap length c.new-lines.ensures);
  rest = ap (of_lines 1) c.new-lines.ensures;
  head = ap (head_fault 1) c.new-lines.ensures;
}

pub loop-line-preserved : goal.loop-line-preserved
loop-line-preserved c = record {
  counted = omega (arith, c.loop-line.invariant.counted, ap length c.in-Some.ensures.steps);
  rest = sym (of_lines-blank (c.loop-line.before + 1) c.in-Some.line.now (lines_left c.next.new.self)
      (sym c.has_words.ensures.value ∙ c.if-has_words.false))
      ∙ (rw c.in-Some.ensures.steps at c.loop-line.invariant.rest);
  head = sym (head_fault-blank (c.loop-line.before + 1) c.in-Some.line.now (lines_left c.next.new.self)
      (sym c.has_words.ensures.value ∙ c.if-has_words.false))
      ∙ (rw c.in-Some.ensures.steps at c.loop-line.invariant.head);
}

pub returns-clause-refused : goal.returns-clause-refused
unfolding table_picture of_lines
returns-clause-refused c = λ other. sym (rw c.in_default.ensures.steps.0 at c.loop-line.invariant.rest)

pub returns-then-has_words-clause-value : goal.returns-then-has_words-clause-value
unfolding table_picture
returns-then-has_words-clause-value c =
    let first : of_lines 1 (lines_of c.args.text.now)
    ≡ of_header (c.loop-line.before + 1) c.in-Some.line.now (lines_left c.next.new.self) =
    sym (rw c.in-Some.ensures.steps at c.loop-line.invariant.rest)
    ∙ of_lines-words (c.loop-line.before + 1) c.in-Some.line.now (lines_left c.next.new.self)
    (sym c.has_words.ensures.value ∙ c.if-has_words.true) in
    rw first (MatchResult-weaker c.plot_table.result c.plot_table.ensures.value (λ x is. is) (λ fault is. tt))

pub returns-then-has_words-clause-refused : goal.returns-then-has_words-clause-refused
unfolding table_picture
returns-then-has_words-clause-refused c =
    let first : of_lines 1 (lines_of c.args.text.now)
    ≡ of_header (c.loop-line.before + 1) c.in-Some.line.now (lines_left c.next.new.self) =
    sym (rw c.in-Some.ensures.steps at c.loop-line.invariant.rest)
    ∙ of_lines-words (c.loop-line.before + 1) c.in-Some.line.now (lines_left c.next.new.self)
    (sym c.has_words.ensures.value ∙ c.if-has_words.true) in
    rw first (MatchResult-weaker c.plot_table.result c.plot_table.ensures.value (λ x is. tt) (λ fault is. is))

pub returns-clause-head : goal.returns-clause-head
unfolding head_fault
returns-clause-head c = λ fault is.
    let first = rw c.in_default.ensures.steps.0 at c.loop-line.invariant.head in
    grind (arith, first, is)

pub returns-then-has_words-clause-head : goal.returns-then-has_words-clause-head
returns-then-has_words-clause-head c = λ fault is.
    c.plot_table.ensures.head fault (fault_of-some (table_kind (c.loop-line.before + 1) c.in-Some.line.now) fault
    (sym (head_fault-words (c.loop-line.before + 1) c.in-Some.line.now (lines_left c.next.new.self)
    (sym c.has_words.ensures.value ∙ c.if-has_words.true))
    ∙ (rw c.in-Some.ensures.steps at c.loop-line.invariant.head) ∙ is))
