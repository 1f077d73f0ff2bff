-- What a text has said, line by line, is a program.
use Rattle.std.proofs.Common.{◌≡◌, ℕ, ◌+◌, ◌≤◌, Bool, true, false, Option, None, Some, Result, Ok, Err, List, [], ◌∷◌}
use Rattle.std.proofs.Common.{◌++◌, length, refl, arith}
use Rattle.std.specs.Prelude.{if◌then◌else◌, codes, bytes_eq, nat_lt}
use Rattle.std.specs.Option.{ok_or}
use Rattle.std.specs.Result.{IfOk}
use Rattle.std.proofs.lemmas.Bool.Decides.{nat_tests}
use Rattle.cm_bits.specs.Text.{words_of}
use Rattle.cm_model.specs.declared.act.Act.{Act}
use Rattle.cm_language.specs.declared.macros.Macro.{Macro}
use Rattle.cm_language.specs.declared.statement.Statement.{Statement}
use Rattle.cm_language.specs.declared.statement.Statement.TheVariants as statement
use Rattle.cm_language.specs.declared.fault.MacroFault.{MacroFault}
use Rattle.cm_language.specs.declared.fault.AsmKind.{AsmKind}
use Rattle.cm_language.specs.declared.fault.AsmKind.TheVariants as kind
use Rattle.cm_language.specs.declared.fault.AsmFault.{AsmFault}
use Rattle.cm_language.specs.Acts.{acts_of}
use Rattle.cm_language.specs.Faults.{first_fault}
use Rattle.cm_language.specs.Laws.{HasFields}
use Rattle.cm_language.specs.Lines.{◌>>=◌, verb_of, statement_of, definition_of}
use Rattle.cm_language.specs.Program.{MOST_ACTS, Reading, within_length, with_acts, with_macro, after_statement}
use Rattle.cm_language.specs.Program.{after_definition, reading_after_words, unless_faulty, reading_after_lines}
use Rattle.cm_language.specs.Whole.{AreProgramActs, MayFollow, AreNext}
use Rattle.cm_language.proofs.ProgramParts.{HasFlag, NamesFlags, are_fields, next-append, acts-append}
use Rattle.cm_language.proofs.MacroActs.{acts_of-program}
use Rattle.cm_language.proofs.OperandsRead.{IsSaid, if_ok-then, any_ok}
use Rattle.cm_language.proofs.StatementsRead.{statement_ok, definition_ok}

-- what holds of what a text has said so far
pub record IsReading (r : Reading) : Type 0 where
  pub fields : AreNext [] r.fields
  pub context : HasFlag r.context
  pub acts : AreProgramActs r.acts
  pub few : length r.acts ≤ MOST_ACTS

-- ---- statements

-- what is within the length has few acts
within_length_ok : (r : Reading) → AreNext [] r.fields → HasFlag r.context → AreProgramActs r.acts
    → IfOk (within_length r) IsReading
within_length_ok r fields context acts = by (nat_lt MOST_ACTS (length r.acts)) refl where
  by : (b : Bool) → nat_lt MOST_ACTS (length r.acts) ≡ b → IfOk (if b then Err kind.TooLong else Ok r) IsReading
  by true long = tt
  by false short = record { fields = fields; context = context; acts = acts; few = grind (arith, nat_tests, short) }

-- acts more
with_acts_ok : (r : Reading) (acts : List Act) → IsReading r → AreProgramActs acts → IfOk (with_acts r acts) IsReading
with_acts_ok r acts is are =
    within_length_ok (record { fields = r.fields; context = r.context; acts = r.acts ++ acts }) is.fields is.context
    (acts-append r.acts acts is.acts are)

-- a macro more
with_macro_ok : (r : Reading) (m : Macro) (o : Option MacroFault) → IsReading r → HasFields m → NamesFlags m
    → first_fault m r.context ≡ o → IfOk (with_macro r m o) IsReading
with_macro_ok r m (Some fault) is fields flags accept = tt
with_macro_ok r m None is fields flags accept =
    with_acts_ok r (acts_of m r.context) is (acts_of-program m r.context is.context fields flags accept)

-- a statement more
after_statement_ok : (r : Reading) (s : Statement) → IsReading r → IsSaid s → IfOk (after_statement r s) IsReading
after_statement_ok r (statement.Context c) is said = record {
  fields = is.fields;
  context = said;
  acts = is.acts;
  few = is.few;
}
after_statement_ok r (statement.Macro m) is said = with_macro_ok r m (first_fault m r.context) is said.0 said.1 refl
after_statement_ok r (statement.Act a) is said = with_acts_ok r (a ∷ []) is (said, tt)

-- ---- definitions

-- a definition more
after_definition_ok : (r : Reading) (words : List (List ℕ)) → IsReading r → IfOk (after_definition r words) IsReading
after_definition_ok r words is =
    if_ok-then (definition_of r.fields words) _ (MayFollow r.fields) _ (definition_ok r.fields words)
    (λ defined next. record {
      fields = next-append [] r.fields defined is.fields next;
      context = is.context;
      acts = is.acts;
      few = is.few;
    })

-- ---- lines

-- a line more
after_words_ok : (r : Reading) (words : List (List ℕ)) → IsReading r → IfOk (reading_after_words r words) IsReading
after_words_ok r [] is = is
after_words_ok r (word ∷ operands) is = by (bytes_eq word (codes "field")) where
  by : (b : Bool)
      → IfOk
      (if b then after_definition r operands else
      (ok_or (verb_of word) kind.Word >>= λ v. statement_of r.fields v operands >>= after_statement r)) IsReading
  by true = after_definition_ok r operands is
  by false =
      if_ok-then (ok_or (verb_of word) kind.Word) _ (λ v. Unit {0}) _ (any_ok (ok_or (verb_of word) kind.Word))
      (λ v any.
      if_ok-then (statement_of r.fields v operands) (after_statement r) IsSaid _
      (statement_ok r.fields v operands (are_fields [] r.fields is.fields))
      (λ s said. after_statement_ok r s is said))

-- the lines after one that is read
later_lines_ok : {X : Type 0} (n : ℕ) (q : Result Reading AsmKind) (after : Reading → Result X AsmFault)
    (P : X → Type 0) → IfOk q IsReading → ((r : Reading) → IsReading r → IfOk (after r) P)
    → IfOk (unless_faulty n q after) P
later_lines_ok n (Ok r) after P is step = step r is
later_lines_ok n (Err fault) after P is step = tt

-- all lines
pub after_lines_ok : (r : Reading) (n : ℕ) (lines : List (List ℕ)) → IsReading r
    → IfOk (reading_after_lines r n lines) IsReading
after_lines_ok r n [] is = is
after_lines_ok r n (line ∷ lines) is =
    later_lines_ok n (reading_after_words r (words_of line)) (λ r'. reading_after_lines r' (n + 1) lines) IsReading
    (after_words_ok r (words_of line) is)
    (λ r' is'. after_lines_ok r' (n + 1) lines is')
