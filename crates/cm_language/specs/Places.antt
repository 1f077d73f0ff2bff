-- Where the macro of a line stands in the program of its text; with a law, the contract of a function. Ours.
use Rattle.std.specs.Prelude.{◌≡◌, ℕ, false, None, Ok, List, [], ◌∷◌, ◌++◌, length, take, drop, codes, bytes_eq}
use Rattle.std.specs.Option.{ok_or}
use Rattle.cm_bits.specs.Text.{lines_of, words_of}
use Rattle.cm_model.specs.declared.act.Act.{Act}
use Rattle.cm_language.specs.declared.macros.Macro.{Macro}
use Rattle.cm_language.specs.declared.macros.Context.{Context}
use Rattle.cm_language.specs.declared.statement.Statement.TheVariants as statement
use Rattle.cm_language.specs.declared.fault.AsmKind.TheVariants as kind
use Rattle.cm_language.specs.Acts.{acts_of}
use Rattle.cm_language.specs.Faults.{first_fault}
use Rattle.cm_language.specs.Lines.{◌>>=◌, verb_of, statement_of}
use Rattle.cm_language.specs.Program.{Reading, ProgramText, nothing_read, reading_after_lines, program_of}
use Rattle.cm_language.specs.Laws.{HasFields}

-- the acts of a macro that is not refused under this context stand in a list of acts, the first of them at this place
pub record MacroStandsAt (acts : List Act) (at : ℕ) (m : Macro) (context : Context) : Type 0 where
  pub fields : HasFields m
  pub accepted : first_fault m context ≡ None
  pub there : take (length (acts_of m context)) (drop at acts) ≡ acts_of m context

-- the words of a line say this macro, after what the lines before it have said
abbrev pub Says : Reading → List (List ℕ) → Macro → Type 0
Says r [] m = ⊥
Says r (word ∷ operands) m =
    (bytes_eq word (codes "field") ≡ false)
    × ((ok_or (verb_of word) kind.Word >>= λ verb. statement_of r.fields verb operands) ≡ Ok (statement.Macro m))

-- a line of a text says this macro: these lines come before it, and this is what they have said
pub record IsMacroOf (text : List ℕ) (r : Reading) (m : Macro) : Type 0 where
  pub before : List (List ℕ)
  pub line : List ℕ
  pub after : List (List ℕ)
  pub lines : lines_of text ≡ before ++ line ∷ after
  pub read : reading_after_lines nothing_read 1 before ≡ Ok r
  pub says : Says r (words_of line) m

-- the acts of each macro of a text stand in its program after the acts of the lines before it
abbrev pub MacrosStandInTheirProgram : Type 0
MacrosStandInTheirProgram = (text : List ℕ) (program : ProgramText) (r : Reading) (m : Macro)
    → program_of text ≡ Ok program → IsMacroOf text r m → MacroStandsAt program.acts (length r.acts) m r.context
