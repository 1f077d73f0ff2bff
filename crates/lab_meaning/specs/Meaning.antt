-- What a source says as a program, line by line as it is carried out, apart from any text that comes out: ours.
use Rattle.std.specs.Prelude.{Option, Some, None, Result, Ok, Err, List, [], ◌∷◌, ℕ, map, slice_get}
use Rattle.cm_bits.specs.Text.{lines_of, words_of}
use Rattle.cm_language.specs.declared.fault.AsmKind.{AsmKind}
use Rattle.cm_language.specs.Lines.{◌>>=◌}
use Rattle.cm_language.specs.Program.{Reading, ProgramText, nothing_read, reading_after_words}
use Rattle.lab_phrases.specs.declared.phrase.Phrase.{Phrase}
use Rattle.lab_phrases.specs.Faults.{first_phrase_fault}
use Rattle.lab_source.specs.declared.fault.SourceFault.{SourceFault}
use Rattle.lab_source.specs.declared.verb.PhraseVerb.{PhraseVerb}
use Rattle.lab_source.specs.Says.{phrase_verb_of, phrase_of}
use Rattle.lab_source.specs.Layout.{of_source, unless_faulty_at, NamedNumber, Layout, layout_of}
use Rattle.lab_source.specs.Expansion.{plain_word, with_phrase}

-- the words of a line, with its constants' numbers in place of their names: the first word is none
abbrev pub words_said : List NamedNumber → List (List ℕ) → List (List ℕ)
words_said constants [] = []
words_said constants (word ∷ operands) = word ∷ map (plain_word constants) operands

-- the acts of a phrase, under the context that stands, are the next ones, unless it is refused
abbrev pub reading_after_phrase : Reading → Phrase → Result Reading AsmKind
reading_after_phrase r phrase = with_phrase r phrase (first_phrase_fault phrase r.context)

-- after words that say a phrase, if they have this verb, or else what they say in the program language
abbrev pub after_said : Reading → List (List ℕ) → Option PhraseVerb → Result Reading AsmKind
after_said r words None = reading_after_words r words
after_said r words (Some verb) = phrase_of r.fields verb words >>= reading_after_phrase r

-- after the words of one line more
abbrev pub reading_after_said : List NamedNumber → Reading → List (List ℕ) → Result Reading AsmKind
reading_after_said constants r words = after_said r (words_said constants words) (phrase_verb_of (words_said constants words))

-- the same of the line at a place, if there is one
abbrev pub after_line_at : List NamedNumber → Reading → Option (List ℕ) → Result Reading AsmKind
after_line_at constants r None = Ok r
after_line_at constants r (Some line) = reading_after_said constants r (words_of line)

-- after the lines at these places, one after another, or the first that is faulty
unfoldable pub reading_after_places : List (List ℕ) → List NamedNumber → Reading → List ℕ → Result Reading SourceFault
reading_after_places lines constants r [] = Ok r
reading_after_places lines constants r (place ∷ places) =
    unless_faulty_at place (of_source (after_line_at constants r (slice_get lines place)))
    (λ r'. reading_after_places lines constants r' places)

-- what lines that are laid out so have said
abbrev pub said_by : List (List ℕ) → Result Layout SourceFault → Result Reading SourceFault
said_by lines (Ok laid) = reading_after_places lines laid.constants nothing_read laid.order
said_by lines (Err fault) = Err fault

-- its fields in order of definition, and its acts
abbrev pub program_said : Result Reading SourceFault → Result ProgramText SourceFault
program_said (Ok r) = Ok (record { fields = r.fields; acts = r.acts })
program_said (Err fault) = Err fault

-- the program of a source, or its first fault
unfoldable pub meaning_of : List ℕ → Result ProgramText SourceFault
meaning_of source = program_said (said_by (lines_of source) (layout_of (lines_of source)))
