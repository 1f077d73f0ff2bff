use Rattle.std.proofs.Common.{◌≡◌, ℕ, ◌+◌, Bool, Ok, Err, length, refl, sym, ap, ◌∙◌, arith, eq-eqb, ne_eqb}
use Rattle.std.proofs.Common.{if◌then◌else◌}
use Rattle.cm_bits.specs.Text.{lines_left, lines_of}
use Rattle.lab_figures.specs.declared.numbers.NumbersFault.TheVariants.{TooFew}
use Rattle.lab_figures.specs.Numbers.{numbers_after_lines}
use Rattle.lab_digits.proofs.Counting.{few_lines}
use Rattle.lab_figures.proofs.Texts.{after_one_line}
use Rattle.lab_figures.proofs.numbers.read_numbers.Goals as goal

pub loop-bytes-init : goal.loop-bytes-init
loop-bytes-init c =
    let lines : lines_left c.into_iter-bytes-iterator.result ≡ lines_of c.args.text.now =
    ap lines_left c.into_iter-bytes-iterator.ensures.into_iter_gives ∙ c.new-bytes-items.ensures in
    record {
      counted = omega (arith, few_lines c.args.text.now, ap length lines);
      read = rw (lines, c.in-Ok.ensures.items) refl;
    }

pub loop-bytes-preserved : goal.loop-bytes-preserved
loop-bytes-preserved c = record {
  counted = omega (arith, c.loop-bytes.invariant.counted, ap length c.in-Some.ensures.steps);
  read = sym (after_one_line c.args.len c.args.count (c.loop-bytes.line + 1) c.loop-bytes.numbers.items
      c.in-Some.bytes.now (lines_left c.next.new.self) (Ok c.push_words.new.numbers.items) c.in-Ok-push_words.ensures.ok)
      ∙ (rw c.in-Some.ensures.steps at c.loop-bytes.invariant.read);
}

pub returns-in-Err-clause-refused : goal.returns-in-Err-clause-refused
returns-in-Err-clause-refused c = λ other.
    sym (rw c.in-Some.ensures.steps at c.loop-bytes.invariant.read)
    ∙ after_one_line c.args.len c.args.count (c.loop-bytes.line + 1) c.loop-bytes.numbers.items
    c.in-Some.bytes.now (lines_left c.next.new.self) (Err c.in-Err.fault) (c.in-Err.ensures.err other)

pub returns-then-len-count-clause-value : goal.returns-then-len-count-clause-value
unfolding numbers_after_lines
returns-then-len-count-clause-value c =
    let numbers = c.loop-bytes.numbers in
    sym (rw c.in-None.ensures.steps.0 at c.loop-bytes.invariant.read)
    ∙ ap (λ (b : Bool). if b then Ok numbers.items else Err (TooFew (length numbers.items)))
    (eq-eqb (length numbers.items) c.args.count (sym numbers.ok.0 ∙ sym c.len.ensures ∙ c.if-len-count.true))

pub returns-else-len-count-clause-refused : goal.returns-else-len-count-clause-refused
unfolding numbers_after_lines
returns-else-len-count-clause-refused c = λ other.
    let numbers = c.loop-bytes.numbers in
    sym (rw c.in-None.ensures.steps.0 at c.loop-bytes.invariant.read)
    ∙ ap (λ (b : Bool). if b then Ok numbers.items else Err (TooFew (length numbers.items)))
    (ne_eqb (length numbers.items) c.args.count (λ e. c.if-len-count.false (c.len.ensures ∙ numbers.ok.0 ∙ e)))
    ∙ ap (λ (k : ℕ). Err (TooFew k)) (sym (c.len-else-len-count.ensures ∙ numbers.ok.0))
