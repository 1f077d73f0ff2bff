-- What a line of a front end is, by its words: a line of a program, or a question. Ours.
use Rattle.std.specs.Prelude.{ℕ, ◌==◌, ◌&&◌, ◌||◌, Bool, true, false, if◌then◌else◌, Option, Some, None}
use Rattle.std.specs.Prelude.{Result, Ok, Err, List, [], ◌∷◌, length, codes, bytes_eq}
use Rattle.std.specs.Option.{is_some}
use Rattle.cm_language.specs.Lines.{verb_of}
pub use Rattle.cm_refusals.specs.Refusals.{kind_number}
use Rattle.lab_source.specs.Says as says
use Rattle.cm_session.specs.declared.command.Command.{Command}
use Rattle.cm_session.specs.declared.command.Command.TheVariants as command
use Rattle.cm_session.specs.declared.command.Refusal.{Refusal}
use Rattle.cm_session.specs.declared.command.Refusal.TheVariants.{Word, Operands}
use Rattle.cm_session.specs.Commands.{command_of}

-- a line of the program language: `field` with a name, an address and a length, or what begins with any other of its words
abbrev pub is_of_language : List (List ℕ) → Bool
is_of_language [] = false
is_of_language (word ∷ operands) =
    is_some (verb_of word) || bytes_eq word (codes "field") && length operands == 3

-- a line of a program: one of the language, or a phrase as a source has it
abbrev pub is_of_program : List (List ℕ) → Bool
is_of_program words = is_some (says.phrase_verb_of words) || is_of_language words

-- a word that goes on in a program, or stops in it: here no acts are still to come
abbrev pub is_of_acts : List ℕ → Bool
is_of_acts word = bytes_eq word (codes "step") || (bytes_eq word (codes "run") || bytes_eq word (codes "break"))

-- a command that turns on or off that looks at the wire are told
abbrev pub is_report : Command → Bool
is_report command.WireOn = true
is_report command.WireOff = true
is_report _ = false

-- what a line asks that was read as a session reads it: each look is told at once here, and no word turns that off
abbrev pub as_question : Result (Option Command) Refusal → Result (Option Command) Refusal
as_question (Err refusal) = Err refusal
as_question (Ok None) = Ok None
as_question (Ok (Some it)) = if is_report it then Err Operands else Ok (Some it)

-- the question of the words of a line, on a cube of n dimensions; none where there are no words
abbrev pub question_of : ℕ → List (List ℕ) → Result (Option Command) Refusal
question_of n [] = Ok None
question_of n (word ∷ operands) =
    if is_of_acts word then Err Word else as_question (command_of n 0 (word ∷ operands))
