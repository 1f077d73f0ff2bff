use Rattle.std.proofs.Common.{◌≡◌, ℕ, ◌<◌, ◌≤◌, ◌^◌, List, Option, Some, None, sym, ap, ◌∙◌, arith, subst}
use Rattle.std.specs.Str.Parse.{IsNumeral, digits_value, without_leading_plus}
use Rattle.clap.specs.Walk.{Text, Row, first_of}
use Rattle.clap.specs.Matches.{found_of}
use Rattle.clap.proofs.WalkLemmas.{first_value-rows}
use Rattle.cm_args.specs.Lines.{IsNumberOperand}
use Rattle.cm_args.proofs.line.number_operand.Goals as goal

not_given : (name : Text) (found : List Row) (least most number : ℕ) → first_of name found ≡ None
    → IsNumberOperand name found least most number → ⊥
not_given name found least most number none operand =
    let wrong : ◌≡◌ {A = Option Text} None (Some operand.text) = sym none ∙ operand.given in absurd (cc)

-- the text of an operand that is a number, where this text was given
same_text : (name : Text) (found : List Row) (least most number : ℕ) (text : Text) → first_of name found ≡ Some text
    → (operand : IsNumberOperand name found least most number) → operand.text ≡ text
same_text name found least most number text given operand =
    let same : ◌≡◌ {A = Option Text} (Some operand.text) (Some text) = sym operand.given ∙ given in cc

not_in_range : (name : Text) (found : List Row) (least most number read : ℕ) (text : Text)
    → first_of name found ≡ Some text → read ≡ digits_value 10 (without_leading_plus text)
    → (least ≤ read → read ≤ most → ⊥) → IsNumberOperand name found least most number → ⊥
not_in_range name found least most number read text given is outside operand =
    let same : number ≡ read = sym operand.value ∙ (ap (λ (t : Text). digits_value 10 (without_leading_plus t))
    (same_text name found least most number text given operand) ∙ sym is) in
    outside (omega (arith, same, operand.not_less)) (omega (arith, same, operand.not_more))

not_a_number : (name : Text) (found : List Row) (least most number : ℕ) (text : Text)
    → first_of name found ≡ Some text → most < 256
    → (IsNumeral 10 (without_leading_plus text) × (digits_value 10 (without_leading_plus text) < 2 ^ 8) → ⊥)
    → IsNumberOperand name found least most number → ⊥
not_a_number name found least most number text given small wrong operand =
    let same : operand.text ≡ text = same_text name found least most number text given operand in
    let value : digits_value 10 (without_leading_plus text) ≡ number =
    ap (λ (t : Text). digits_value 10 (without_leading_plus t)) (sym same) ∙ operand.value in
    wrong (
      subst (λ (t : Text). IsNumeral 10 (without_leading_plus t)) same operand.digits,
      omega (arith, value, operand.not_more),
    )

pub returns-in_err-text-clause-none : goal.returns-in_err-text-clause-none
returns-in_err-text-clause-none c = λ e number.
    not_given c.args.name.now _ c.args.least c.args.most number
    (sym (first_value-rows (found_of c.args.operands.now) c.args.name.now) ∙ sym c.in_err-text.ensures)

pub returns-in-Ok-clause-some : goal.returns-in-Ok-clause-some
returns-in-Ok-clause-some c = record {
  text = c.in_ok-text.text.now;
  given = sym (first_value-rows (found_of c.args.operands.now) c.args.name.now) ∙ sym c.in_ok-text.ensures;
  digits = c.in-Ok.ensures.value.0.0.0;
  value = sym c.in-Ok.ensures.value.0.1;
  not_less = c.if-least-number.true;
  not_more = c.if-number-most.true;
}

pub returns-in_default-clause-none : goal.returns-in_default-clause-none
returns-in_default-clause-none c = λ e number.
    not_in_range c.args.name.now _ c.args.least c.args.most number c.in-Ok.number c.in_ok-text.text.now
    (sym (first_value-rows (found_of c.args.operands.now) c.args.name.now) ∙ sym c.in_ok-text.ensures)
    c.in-Ok.ensures.value.0.1 (λ low high. omega (arith, high, c.if-number-most.false))

pub returns-in_default-2-clause-none : goal.returns-in_default-2-clause-none
returns-in_default-2-clause-none c = λ e number.
    not_in_range c.args.name.now _ c.args.least c.args.most number c.in-Ok.number c.in_ok-text.text.now
    (sym (first_value-rows (found_of c.args.operands.now) c.args.name.now) ∙ sym c.in_ok-text.ensures)
    c.in-Ok.ensures.value.0.1 (λ low high. omega (arith, low, c.if-least-number.false))

pub returns-in_default-3-clause-none : goal.returns-in_default-3-clause-none
returns-in_default-3-clause-none c = λ e number.
    not_a_number c.args.name.now _ c.args.least c.args.most number c.in_ok-text.text.now
    (sym (first_value-rows (found_of c.args.operands.now) c.args.name.now) ∙ sym c.in_ok-text.ensures)
    c.ranges.most.fits c.in_default.ensures.value.0
