use Rattle.std.proofs.Common.{◌≡◌, ℕ, List, Option, Some, None, IfSome, inl, inr, refl, sym, ◌∙◌}
use Rattle.clap.specs.Walk.{Text, Row, first_of}
use Rattle.clap.specs.Matches.{found_of}
use Rattle.clap.proofs.WalkLemmas.{first_value-rows}
use Rattle.cm_args.specs.Lines.{IsNumberOperand, IsNumberOption}
use Rattle.cm_args.proofs.line.number_option.Goals as goal

-- a number that was found for it
as_option : (name : Text) (found : List Row) (least most usual : ℕ) (result : Option ℕ)
    → IfSome result (IsNumberOperand name found least most) → IfSome result (IsNumberOption name found least most usual)
as_option name found least most usual (Some number) operand = inr operand
as_option name found least most usual None operand = tt

-- where this text was given, it is no number that was left out
not_left_out : (name : Text) (found : List Row) (least most usual number : ℕ) (text : Text)
    → first_of name found ≡ Some text → ¬ IsNumberOperand name found least most number
    → IsNumberOption name found least most usual number → ⊥
not_left_out name found least most usual number text given other (inl (none, is)) =
    let wrong : ◌≡◌ {A = Option Text} None (Some text) = sym none ∙ given in absurd (cc)
not_left_out name found least most usual number text given other (inr operand) = other operand

pub returns-in-Some-clause-some : goal.returns-in-Some-clause-some
returns-in-Some-clause-some c = as_option _ _ _ _ c.args.usual _ c.number_operand.ensures.some

pub returns-in-Some-clause-none : goal.returns-in-Some-clause-none
returns-in-Some-clause-none c = λ e number.
    not_left_out c.args.name.now _ c.args.least c.args.most c.args.usual number _
    (sym (first_value-rows (found_of c.args.operands.now) c.args.name.now) ∙ sym c.in-Some.ensures)
    (c.number_operand.ensures.none e number)

pub returns-in-None-clause-some : goal.returns-in-None-clause-some
returns-in-None-clause-some c =
    inl (sym (first_value-rows (found_of c.args.operands.now) c.args.name.now) ∙ sym c.in-None.ensures, refl)
