-- What a line of a text says has fields, flags and numbers in their ranges.
use Rattle.std.proofs.Common.{◌≡◌, ℕ, ◌+◌, ◌<◌, Bool, true, false, not, ◌||◌, eqb, Option, None, Some, Ok, Err, List}
use Rattle.std.proofs.Common.{[], ◌∷◌, refl, arith}
use Rattle.std.specs.Result.{IfOk}
use Rattle.std.specs.Prelude.{if◌then◌else◌, nat_lt}
use Rattle.std.specs.Option.{is_some}
use Rattle.std.proofs.lemmas.Bool.Decides.{nat_tests}
use Rattle.cm_bits.specs.Span.{Span, IsField}
use Rattle.cm_bits.specs.Field.{field_fault}
use Rattle.cm_bits.specs.declared.field.FieldFault.TheVariants as field
use Rattle.cm_model.specs.declared.act.Act.TheVariants as act
use Rattle.cm_language.specs.declared.macros.Context.TheVariants as context
use Rattle.cm_language.specs.declared.macros.Macro.TheVariants as macro
use Rattle.cm_language.specs.declared.statement.Verb.{Verb}
use Rattle.cm_language.specs.declared.statement.Verb.TheVariants as verb
use Rattle.cm_language.specs.declared.statement.Statement.{Statement}
use Rattle.cm_language.specs.declared.statement.Statement.TheVariants as statement
use Rattle.cm_language.specs.declared.fault.AsmKind.TheVariants as kind
use Rattle.cm_language.specs.Names.{NamedField, is_name, field_named}
use Rattle.cm_language.specs.Lines.{◌>>=◌, no_operand, flag_operand, one_field, two_fields, nano_of, statement_of}
use Rattle.cm_language.specs.Lines.{operand_of, new_name, field_unless, definition_of}
use Rattle.cm_language.specs.Whole.{IsInstruction, MayFollow}
use Rattle.cm_language.proofs.ProgramParts.{AreFields}
use Rattle.cm_language.proofs.OperandsRead.{IsSaid, if_ok-then, any_ok, flag_ok, one_field_ok, two_fields_ok, choice_ok}
use Rattle.cm_language.proofs.OperandsRead.{constant_ok, product_ok, nano_ok}

-- ---- a statement

-- what a flag says
by_flag : (words : List (List ℕ)) (f : ℕ → Statement) → ((n : ℕ) → n < 16 → IsSaid (f n))
    → IfOk (flag_operand words >>= λ n. Ok (f n)) IsSaid
by_flag words f said = if_ok-then (flag_operand words) _ (λ n. n < 16) _ (flag_ok words) said

-- what two fields say
by_two : (fields : List NamedField) (words : List (List ℕ)) (f : Span × Span → Statement) → AreFields fields
    → ((both : Span × Span) → IsField both.0 × IsField both.1 → IsSaid (f both))
    → IfOk (two_fields fields words >>= λ both. Ok (f both)) IsSaid
by_two fields words f are said = if_ok-then (two_fields fields words) _ (λ both. IsField both.0 × IsField both.1) _
    (two_fields_ok fields words are) said

-- what a word by itself says
by_none : (words : List (List ℕ)) (s : Statement) → IsSaid s → IfOk (no_operand words >>= λ nothing. Ok s) IsSaid
by_none words s said = if_ok-then (no_operand words) _ (λ nothing. Unit {0}) _ (any_ok (no_operand words))
    (λ nothing any. said)

-- what any first word says
pub statement_ok : (fields : List NamedField) (v : Verb) (words : List (List ℕ)) → AreFields fields
    → IfOk (statement_of fields v words) IsSaid
statement_ok fields verb.Nano words are = if_ok-then (nano_of words) _ IsInstruction _ (nano_ok words) (λ nano is. is)
statement_ok fields verb.Add words are = by_two fields words (λ both. statement.Macro (macro.Add both.0 both.1)) are
    (λ both is. (is, tt))
statement_ok fields verb.Sub words are = by_two fields words (λ both. statement.Macro (macro.Sub both.0 both.1)) are
    (λ both is. (is, tt))
statement_ok fields verb.Less words are = by_two fields words (λ both. statement.Macro (macro.Less both.0 both.1)) are
    (λ both is. (is, tt))
statement_ok fields verb.Equal words are =
    by_two fields words (λ both. statement.Macro (macro.Equal both.0 both.1)) are (λ both is. (is, tt))
statement_ok fields verb.Move words are = by_two fields words (λ both. statement.Macro (macro.Move both.0 both.1)) are
    (λ both is. (is, tt))
statement_ok fields verb.Select words are = choice_ok fields words are
statement_ok fields verb.Const words are = constant_ok fields words are
statement_ok fields verb.Shift words are = if_ok-then (one_field fields words) _ IsField _
    (one_field_ok fields words are) (λ d is. (is, tt))
statement_ok fields verb.Mul words are = product_ok fields words are
statement_ok fields verb.Set words are = by_flag words (λ f. statement.Macro (macro.Set f)) (λ f small. (tt, small))
statement_ok fields verb.Clear words are = by_flag words (λ f. statement.Macro (macro.Clear f)) (λ f small. (tt, small))
statement_ok fields verb.If words are = by_flag words (λ f. statement.Context (context.On f)) (λ f small. small)
statement_ok fields verb.Unless words are = by_flag words (λ f. statement.Context (context.Off f)) (λ f small. small)
statement_ok fields verb.Always words are = by_none words (statement.Context context.Always) tt
statement_ok fields verb.Cycle words are = by_none words (statement.Act act.Cycle) tt
statement_ok fields verb.Sense words are = by_none words (statement.Act act.Sense) tt

-- ---- a definition

-- a name that a definition may give
abbrev IsNew : List NamedField → List ℕ → Type 0
IsNew fields name = (is_name name ≡ true) × (field_named fields name ≡ None)

-- a name that is taken is new
new_name_ok : (fields : List NamedField) (name : List ℕ) → IfOk (new_name fields name) (IsNew fields)
new_name_ok fields name = by (is_name name) (field_named fields name) refl refl where
  by : (b : Bool) (o : Option Span) → is_name name ≡ b → field_named fields name ≡ o
      → IfOk (if not b then Err kind.Name else (if is_some o then Err kind.Twice else Ok name)) (IsNew fields)
  by false o is new = tt
  by true (Some field) is new = tt
  by true None is new = (is, new)

-- a field that is taken is one
field_unless_ok : (at len : ℕ) → IfOk (field_unless at len (field_fault at len)) IsField
field_unless_ok at len = by (eqb len 0) (nat_lt 64 len) (nat_lt 4096 (at + len)) refl refl refl where
  by : (a b c : Bool) → eqb len 0 ≡ a → nat_lt 64 len ≡ b → nat_lt 4096 (at + len) ≡ c
      → IfOk (field_unless at len (if a || b then Some field.Width else (if c then Some field.Range else None))) IsField
  by true b c empty wide beyond = tt
  by false true c empty wide beyond = tt
  by false false true empty wide beyond = tt
  by false false false empty wide beyond =
      record {
        some = grind (arith, nat_tests, empty);
        narrow = grind (arith, nat_tests, wide);
        within = grind (arith, nat_tests, beyond);
      }

-- a definition may follow the fields before it
pub definition_ok : (fields : List NamedField) (words : List (List ℕ))
    → IfOk (definition_of fields words) (MayFollow fields)
definition_ok fields (name ∷ at ∷ len ∷ []) =
    if_ok-then (new_name fields name) _ (IsNew fields) _ (new_name_ok fields name) (λ name' is.
    if_ok-then (operand_of 65536 at) _ (λ n. Unit {0}) _ (any_ok (operand_of 65536 at)) (λ at' any.
    if_ok-then (operand_of 65536 len) _ (λ n. Unit {0}) _ (any_ok (operand_of 65536 len)) (λ len' some.
    if_ok-then (field_unless at' len' (field_fault at' len')) _ IsField _ (field_unless_ok at' len') (λ field' right.
    record { name = is.0; new = is.1; field = right }))))
definition_ok fields _ = tt
