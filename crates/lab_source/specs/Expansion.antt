-- What comes out of a source, line by line: ours.
use Rattle.std.specs.Prelude.{ℕ, ◌+◌, nat_lt, if◌then◌else◌, Option, Some, None, Result, Ok, Err, List, [], ◌∷◌, ◌++◌}
use Rattle.std.specs.Prelude.{length, slice_get, flat_map, decimal}
use Rattle.cm_bits.specs.Text.{lines_of, words_of}
use Rattle.cm_model.specs.declared.act.Act.{Act}
use Rattle.cm_language.specs.declared.fault.AsmKind.{AsmKind}
use Rattle.cm_language.specs.declared.fault.MacroFault.{MacroFault}
use Rattle.cm_language.specs.Faults.{kind_of_macro_fault}
use Rattle.cm_language.specs.Listing.{act_line}
use Rattle.cm_language.specs.Program as program
use Rattle.cm_language.specs.Program.{Reading, nothing_read, with_acts}
use Rattle.lab_phrases.specs.declared.phrase.Phrase.{Phrase}
use Rattle.lab_phrases.specs.Acts.{phrase_acts}
use Rattle.lab_phrases.specs.Faults.{first_phrase_fault}
use Rattle.lab_source.specs.declared.fault.SourceKind.{SourceKind}
use Rattle.lab_source.specs.declared.fault.SourceKind.TheVariants.{TooLarge}
use Rattle.lab_source.specs.declared.fault.SourceFault.{SourceFault}
use Rattle.lab_source.specs.declared.verb.PhraseVerb.{PhraseVerb}
use Rattle.lab_source.specs.Says.{phrase_verb_of, phrase_of}
use Rattle.lab_source.specs.Layout.{◌>>=◌, of_source, unless_faulty_at, NamedNumber, number_named, Layout, layout_of}

-- ---- a line with its constants' numbers

-- a number in decimal, or the word
abbrev pub number_or_word : Option ℕ → List ℕ → List ℕ
number_or_word None word = word
number_or_word (Some n) word = decimal n

-- a word, with a constant's number in place of its name
abbrev pub plain_word : List NamedNumber → List ℕ → List ℕ
plain_word constants word = number_or_word (number_named constants word) word

-- a line with its constants' numbers in place of their names, and its own number as a comment
abbrev pub plain_line : List NamedNumber → ℕ → List (List ℕ) → List ℕ
plain_line constants place [] = 59 ∷ 32 ∷ decimal (place + 1)
plain_line constants place (word ∷ operands) =
    word ++ (flat_map (λ operand. 32 ∷ plain_word constants operand) operands ++ 32 ∷ 59 ∷ 32 ∷ decimal (place + 1))

-- ---- what comes out

-- the most bytes that come out
abbrev pub MOST_BYTES : ℕ
MOST_BYTES = 16777216

-- what came out so far
pub record Expansion : Type 0 where
  -- what it says as a program
  pub reading : Reading
  pub text : List ℕ

-- before the first line
abbrev pub nothing_out : Expansion
nothing_out = record { reading = nothing_read; text = [] }

-- unless more bytes would come out than can
abbrev pub within_bytes : Expansion → Result Expansion SourceKind
within_bytes out = if nat_lt MOST_BYTES (length out.text) then Err TooLarge else Ok out

-- a line of the program language comes out as it is
abbrev pub expansion_after_line : Expansion → List ℕ → Result Expansion SourceKind
expansion_after_line out line =
    of_source (program.reading_after_words out.reading (words_of line)) >>= λ reading.
    within_bytes (record { reading = reading; text = out.text ++ line ++ 10 ∷ [] })

-- the acts of a phrase are the next ones, unless it is refused
abbrev pub with_phrase : Reading → Phrase → Option MacroFault → Result Reading AsmKind
with_phrase r said (Some fault) = Err (kind_of_macro_fault fault)
with_phrase r said None = with_acts r (phrase_acts said r.context)

-- the lines of a phrase's acts, each with the number of the line at this place as a comment
abbrev pub phrase_text : ℕ → List Act → List ℕ
phrase_text place acts = flat_map (act_line (place + 1)) acts

-- of a phrase its acts come out
abbrev pub expansion_after_phrase : Expansion → ℕ → Phrase → Result Expansion SourceKind
expansion_after_phrase out place said =
    of_source (with_phrase out.reading said (first_phrase_fault said out.reading.context)) >>= λ reading.
    within_bytes
    (record { reading = reading; text = out.text ++ phrase_text place (phrase_acts said out.reading.context) })

-- a line without constants, that says a phrase if it has this verb
abbrev pub after_plain : Expansion → ℕ → List ℕ → Option PhraseVerb → Result Expansion SourceKind
after_plain out place line None = expansion_after_line out line
after_plain out place line (Some asked) =
    of_source (phrase_of out.reading.fields asked (words_of line)) >>= λ said. expansion_after_phrase out place said

-- after one line more, the one at this place
unfoldable pub expansion_after_place : List NamedNumber → Expansion → ℕ → List ℕ → Result Expansion SourceKind
expansion_after_place constants out place line =
    after_plain out place (plain_line constants place (words_of line))
    (phrase_verb_of (words_of (plain_line constants place (words_of line))))

-- the same, if there is a line at this place
abbrev pub after_place_of : List NamedNumber → Expansion → ℕ → Option (List ℕ) → Result Expansion SourceKind
after_place_of constants out place None = Ok out
after_place_of constants out place (Some line) = expansion_after_place constants out place line

-- after the lines at these places, one after another
unfoldable pub expansion_after_places : List (List ℕ) → List NamedNumber → Expansion → List ℕ → Result Expansion SourceFault
expansion_after_places lines constants out [] = Ok out
expansion_after_places lines constants out (place ∷ places) =
    unless_faulty_at place (after_place_of constants out place (slice_get lines place))
    (λ next. expansion_after_places lines constants next places)

-- what comes out of lines that are laid out so
abbrev pub carried_out : List (List ℕ) → Result Layout SourceFault → Result Expansion SourceFault
carried_out lines (Ok laid) = expansion_after_places lines laid.constants nothing_out laid.order
carried_out lines (Err fault) = Err fault

-- all that comes out of a source
unfoldable pub expanded : List ℕ → Result Expansion SourceFault
expanded source = carried_out (lines_of source) (layout_of (lines_of source))

-- its text
abbrev pub expansion_text : Result Expansion SourceFault → Result (List ℕ) SourceFault
expansion_text (Ok out) = Ok out.text
expansion_text (Err fault) = Err fault

-- the program text of a source, or its first fault
abbrev pub expansion_of : List ℕ → Result (List ℕ) SourceFault
expansion_of source = expansion_text (expanded source)
