-- Laws over the definitions, each the contract of a function of its name. Ours.
use Rattle.std.specs.Prelude.{◌≡◌, ℕ, ◌+◌, false, Some, None, Ok, Err, List, [], ◌∷◌, ◌++◌, codes, bytes_eq}
use Rattle.std.specs.Prelude.{length, take, drop, slice_get}
use Rattle.std.specs.List.{AllByRecursion}
use Rattle.cm_bits.specs.Text.{lines_of, words_of}
use Rattle.cm_model.specs.declared.act.Act.{Act}
use Rattle.cm_model.specs.Machine.{Machine, run_of}
use Rattle.cm_model.specs.Keeping.{IsMachine}
use Rattle.cm_language.specs.declared.macros.Macro.{Macro}
use Rattle.cm_language.specs.declared.macros.Context.{Context}
use Rattle.cm_language.specs.Program.{Reading, ProgramText, nothing_read, program_of}
use Rattle.cm_language.specs.Places as places
use Rattle.cm_language.specs.Places.{Says}
use Rattle.lab_phrases.specs.declared.phrase.Phrase.{Phrase}
use Rattle.lab_phrases.specs.Acts.{phrase_acts}
use Rattle.lab_phrases.specs.Faults.{first_phrase_fault}
use Rattle.lab_phrases.specs.Laws.{HasPhraseFields, machine_after_phrase}
use Rattle.lab_source.specs.declared.fault.SourceKind.TheVariants.{TooLarge}
use Rattle.lab_source.specs.declared.fault.SourceFault.{SourceFault}
use Rattle.lab_source.specs.declared.verb.PhraseVerb.{PhraseVerb}
use Rattle.lab_source.specs.Says.{phrase_verb_of, phrase_of}
use Rattle.lab_source.specs.Layout.{Layout, layout_of}
use Rattle.lab_source.specs.Expansion.{expansion_of}
use Rattle.lab_meaning.specs.Meaning.{words_said, reading_after_places, meaning_of}

-- a source says a program, and a text is read as that
pub record IsTextOf (source text : List ℕ) : Type 0 where
  pub program : ProgramText
  pub said : meaning_of source ≡ Ok program
  pub read : program_of text ≡ Ok program

-- what comes out of a source is read as the program that it says
abbrev pub ExpansionsArePrograms : Type 0
ExpansionsArePrograms = (source text : List ℕ) → expansion_of source ≡ Ok text → IsTextOf source text

-- a fault with which it is refused is the first of what it says, unless too many bytes would come out
abbrev pub FaultsAreOfPrograms : Type 0
FaultsAreOfPrograms = (source : List ℕ) (fault : SourceFault) → expansion_of source ≡ Err fault
    → ¬ (fault.kind ≡ TooLarge) → meaning_of source ≡ Err fault

-- ---- sources that are programs

-- the words are none that sources have beside the program language
abbrev pub IsProgramLine : List (List ℕ) → Type 0
IsProgramLine [] = Unit {0}
IsProgramLine (word ∷ operands) =
    (bytes_eq word (codes "repeat") ≡ false) × (bytes_eq word (codes "end") ≡ false)
    × (bytes_eq word (codes "constant") ≡ false) × (phrase_verb_of (word ∷ operands) ≡ None)

-- a text without constants, repeated lines and phrases
abbrev pub IsPlainSource : List ℕ → Type 0
IsPlainSource source = AllByRecursion (λ line. IsProgramLine (words_of line)) (lines_of source)

-- what comes out of such a one is read as it is itself
abbrev pub PlainSourcesArePrograms : Type 0
PlainSourcesArePrograms = (source text : List ℕ) → IsPlainSource source → expansion_of source ≡ Ok text
    → program_of text ≡ program_of source

-- ---- where phrases and macros stand

-- these are the words of a line that is carried out, with constants' numbers, and this is what those before it have said
pub record IsCarriedOut (source : List ℕ) (r : Reading) (words : List (List ℕ)) : Type 0 where
  pub laid : Layout
  pub before : List ℕ
  pub place : ℕ
  pub after : List ℕ
  pub line : List ℕ
  pub layout : layout_of (lines_of source) ≡ Ok laid
  pub order : laid.order ≡ before ++ place ∷ after
  pub read : reading_after_places (lines_of source) laid.constants nothing_read before ≡ Ok r
  pub there : slice_get (lines_of source) place ≡ Some line
  pub said : words_said laid.constants (words_of line) ≡ words

-- the words say this phrase
pub record SaysPhrase (r : Reading) (words : List (List ℕ)) (phrase : Phrase) : Type 0 where
  pub verb : PhraseVerb
  pub asks : phrase_verb_of words ≡ Some verb
  pub says : phrase_of r.fields verb words ≡ Ok phrase

-- the acts of a phrase that is not refused under this context stand in a list of acts, the first of them at this place
pub record PhraseStandsAt (acts : List Act) (at : ℕ) (phrase : Phrase) (context : Context) : Type 0 where
  pub fields : HasPhraseFields phrase
  pub accepted : first_phrase_fault phrase context ≡ None
  pub there : take (length (phrase_acts phrase context)) (drop at acts) ≡ phrase_acts phrase context

-- the acts of each phrase of a source stand in the program of its expansion after the acts of the lines before it
abbrev pub PhrasesStandInTheirProgram : Type 0
PhrasesStandInTheirProgram =
    (source text : List ℕ) (program : ProgramText) (r : Reading) (words : List (List ℕ)) (phrase : Phrase)
    → expansion_of source ≡ Ok text → program_of text ≡ Ok program → IsCarriedOut source r words
    → SaysPhrase r words phrase → PhraseStandsAt program.acts (length r.acts) phrase r.context

-- and so do those of each macro
abbrev pub SourcesMacrosStand : Type 0
SourcesMacrosStand =
    (source text : List ℕ) (program : ProgramText) (r : Reading) (words : List (List ℕ)) (m : Macro)
    → expansion_of source ≡ Ok text → program_of text ≡ Ok program → IsCarriedOut source r words
    → phrase_verb_of words ≡ None → Says r words m → places.MacroStandsAt program.acts (length r.acts) m r.context

-- so on every machine, run up to there, its acts do what it says in all processors at once
abbrev pub ExpansionsDoPhrases : Type 0
ExpansionsDoPhrases = (n cap : ℕ) (machine : Machine) (source text : List ℕ) (program : ProgramText) (r : Reading)
    (words : List (List ℕ)) (phrase : Phrase) → IsMachine n cap machine
    → expansion_of source ≡ Ok text → program_of text ≡ Ok program → IsCarriedOut source r words
    → SaysPhrase r words phrase
    → run_of n cap machine (take (length r.acts + length (phrase_acts phrase r.context)) program.acts)
    ≡ machine_after_phrase n phrase r.context (run_of n cap machine (take (length r.acts) program.acts))
