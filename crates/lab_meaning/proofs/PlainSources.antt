-- A source without constants, repeated lines and phrases says the program that it is itself.
use Rattle.std.proofs.Common.{◌≡◌, ℕ, suc, ◌+◌, Bool, true, false, None, Some, Result, Ok, Err, List, []}
use Rattle.std.proofs.Common.{◌∷◌, ◌++◌, length, map, refl, sym, ap, ◌∙◌, subst, arith, append_assoc, append-nil}
use Rattle.std.specs.Prelude.{if◌then◌else◌, nat_lt, slice_get}
use Rattle.std.specs.Result.{IfOk}
use Rattle.std.specs.List.{AllByRecursion}
use Rattle.cm_bits.specs.Text.{lines_of, words_of}
use Rattle.cm_language.specs.declared.fault.AsmKind.{AsmKind}
use Rattle.cm_language.specs.declared.fault.AsmFault.{AsmFault}
use Rattle.cm_language.specs.Program as program
use Rattle.cm_language.specs.Program.{Reading, ProgramText, nothing_read, program_read, program_of}
use Rattle.lab_source.specs.declared.fault.SourceKind.{SourceKind}
use Rattle.lab_source.specs.declared.fault.SourceKind.TheVariants.{TooMany}
use Rattle.lab_source.specs.declared.fault.SourceFault.{SourceFault}
use Rattle.lab_source.specs.Says.{phrase_verb_of}
use Rattle.lab_source.specs.Layout as layout
use Rattle.lab_source.specs.Layout.{MOST_LINES, Layout, nothing_laid, of_source, unless_faulty_at, layout_after_words}
use Rattle.lab_source.specs.Layout.{all_closed, layout_of}
use Rattle.lab_source.specs.Expansion.{plain_word}
use Rattle.lab_meaning.specs.Meaning.{words_said, after_said, after_line_at, reading_after_places, said_by, program_said, meaning_of}
use Rattle.lab_meaning.specs.Laws.{IsProgramLine, IsTextOf, PlainSourcesArePrograms}
use Rattle.lab_meaning.proofs.Programs.{expansions_are_programs}

-- ---- order

-- lines of programs alone
abbrev ArePlain : List (List ℕ) → Type 0
ArePlain lines = AllByRecursion (λ line. IsProgramLine (words_of line)) lines

-- a place before others, where its line has words
abbrev placed : ℕ → List (List ℕ) → List ℕ → List ℕ
placed place [] places = places
placed place (word ∷ words) places = place ∷ places

-- the places of lines that have words, the first line at this place
abbrev places_of : ℕ → List (List ℕ) → List ℕ
places_of place [] = []
places_of place (line ∷ lines) = placed place (words_of line) (places_of (place + 1) lines)

-- what is laid out without constants
abbrev in_order : List ℕ → Layout
in_order order = record { constants = []; opened = []; order = order }

-- a line is laid out where it stands
line_laid : (order : List ℕ) (place : ℕ) (words : List (List ℕ)) → IsProgramLine words
    → IfOk (layout_after_words (in_order order) place words) (λ laid. laid ≡ in_order (order ++ placed place words []))
line_laid order place [] is = ap in_order (sym (append-nil order))
line_laid order place (word ∷ operands) is =
    rw (is.0, is.1, is.2) (by (nat_lt MOST_LINES (length (order ++ place ∷ [])))) where
      by : (b : Bool)
          → IfOk (if b then Err TooMany else Ok (in_order (order ++ place ∷ [])))
          (λ laid. laid ≡ in_order (order ++ place ∷ []))
      by true = tt
      by false = refl

-- a place before others, once more
placed_behind : (order : List ℕ) (place : ℕ) (words : List (List ℕ)) (places : List ℕ)
    → (order ++ placed place words []) ++ places ≡ order ++ placed place words places
placed_behind order place [] places = ap (λ (front : List ℕ). front ++ places) (append-nil order)
placed_behind order place (word ∷ words) places = append_assoc order (place ∷ []) places

-- so are all lines
lines_laid : (order : List ℕ) (place : ℕ) (lines : List (List ℕ)) → ArePlain lines
    → IfOk (layout.layout_after_lines (in_order order) place lines) (λ laid. laid ≡ in_order (order ++ places_of place lines))
unfolding layout.layout_after_lines
lines_laid order place [] are = ap in_order (sym (append-nil order))
lines_laid order place (line ∷ lines) are =
    by (layout_after_words (in_order order) place (words_of line)) (line_laid order place (words_of line) are.0)
    (lines_laid (order ++ placed place (words_of line) []) (place + 1) lines are.1) where
      grown : List ℕ
      grown = order ++ placed place (words_of line) []

      all : List ℕ
      all = order ++ places_of place (line ∷ lines)

      by : (laid : Result Layout SourceKind) → IfOk laid (λ l. l ≡ in_order grown)
          → IfOk (layout.layout_after_lines (in_order grown) (place + 1) lines)
          (λ l. l ≡ in_order (grown ++ places_of (place + 1) lines))
          → IfOk (unless_faulty_at place laid (λ next. layout.layout_after_lines next (place + 1) lines))
          (λ l. l ≡ in_order all)
      by (Err kind) is rest = tt
      by (Ok next) is rest =
          let same = placed_behind order place (words_of line) (places_of (place + 1) lines) in
          subst (λ (l : Layout). IfOk (layout.layout_after_lines l (place + 1) lines) (λ z. z ≡ in_order all)) (sym is)
          (subst
          (λ (o : List ℕ). IfOk (layout.layout_after_lines (in_order grown) (place + 1) lines) (λ z. z ≡ in_order o)) same
          rest)

-- ---- what they say

-- no constant stands for a number
no_constants : (words : List (List ℕ)) → map (plain_word []) words ≡ words
no_constants [] = refl
no_constants (word ∷ words) = ap (λ (rest : List (List ℕ)). word ∷ rest) (no_constants words)

words_said-plain : (words : List (List ℕ)) → words_said [] words ≡ words
words_said-plain [] = refl
words_said-plain (word ∷ operands) = ap (λ (rest : List (List ℕ)). word ∷ rest) (no_constants operands)

-- a line that has words says what it says as one of a program
says_itself : (r : Reading) (words : List (List ℕ)) → phrase_verb_of words ≡ None
    → after_said r (words_said [] words) (phrase_verb_of (words_said [] words)) ≡ program.reading_after_words r words
says_itself r words none =
    ap (λ (said : List (List ℕ)). after_said r said (phrase_verb_of said)) (words_said-plain words)
    ∙ ap (after_said r words) none

-- lines one after another
lines_say : (lines later : List (List ℕ)) (r : Reading) (place n : ℕ) → ArePlain later
    → ((k : ℕ) → slice_get lines (place + k) ≡ slice_get later k)
    → IfOk (reading_after_places lines [] r (places_of place later)) (λ r'. program.reading_after_lines r n later ≡ Ok r')
unfolding reading_after_places
lines_say lines [] r place n are at = refl
lines_say lines (line ∷ later) r place n are at =
    let next_at : (k : ℕ) → slice_get lines (place + 1 + k) ≡ slice_get later k =
    λ k. let e : place + 1 + k ≡ place + suc k = omega arith in
    ap (slice_get lines) e ∙ at (suc k) in
    by (λ r'. lines_say lines later r' (place + 1) (n + 1) are.1 next_at) (words_of line) are.0 refl where
      Rest : Type 0
      Rest = (r' : Reading)
          → IfOk (reading_after_places lines [] r' (places_of (place + 1) later))
          (λ z. program.reading_after_lines r' (n + 1) later ≡ Ok z)

      there : slice_get lines place ≡ Some line
      there =
          let e : place ≡ place + 0 = omega arith in
          ap (slice_get lines) e ∙ at 0

      step : Rest → (words : List (List ℕ)) (q : Result Reading AsmKind) → program.reading_after_words r words ≡ q
          → IfOk (unless_faulty_at place (of_source q) (λ r'. reading_after_places lines [] r' (places_of (place + 1) later)))
          (λ z. program.unless_faulty n (program.reading_after_words r words) (λ r'. program.reading_after_lines r' (n + 1) later) ≡ Ok z)
      step rest words (Err kind) e = tt
      step rest words (Ok r') e =
          subst
          (λ (q : Result Reading AsmKind). IfOk (reading_after_places lines [] r' (places_of (place + 1) later))
          (λ z. program.unless_faulty n q (λ r''. program.reading_after_lines r'' (n + 1) later) ≡ Ok z)) (sym e) (rest r')

      by : Rest → (words : List (List ℕ)) → IsProgramLine words → words_of line ≡ words
          → IfOk (reading_after_places lines [] r (placed place words (places_of (place + 1) later)))
          (λ z. program.unless_faulty n (program.reading_after_words r words) (λ r'. program.reading_after_lines r' (n + 1) later) ≡ Ok z)
      by rest [] is e = rest r
      by rest (word ∷ operands) is e =
          let said : after_line_at [] r (slice_get lines place) ≡ program.reading_after_words r (word ∷ operands) =
          ap (after_line_at [] r) there
          ∙ ap (λ (ws : List (List ℕ)). after_said r (words_said [] ws) (phrase_verb_of (words_said [] ws))) e
          ∙ says_itself r (word ∷ operands) is.3 in
          subst
          (λ (q : Result Reading AsmKind). IfOk
          (unless_faulty_at place (of_source q) (λ r'. reading_after_places lines [] r' (places_of (place + 1) later)))
          (λ z. program.unless_faulty n (program.reading_after_words r (word ∷ operands))
          (λ r'. program.reading_after_lines r' (n + 1) later) ≡ Ok z)) (sym said)
          (step rest (word ∷ operands) (program.reading_after_words r (word ∷ operands)) refl)

-- ---- the whole source

-- what was said is the program
read_as_said : (said : Result Reading SourceFault) (read : Result Reading AsmFault) (p : ProgramText)
    → IfOk said (λ r. read ≡ Ok r) → program_said said ≡ Ok p → program_read read ≡ Ok p
read_as_said (Ok r) read p is e =
    let same : record { fields = r.fields; acts = r.acts } ≡ p = cc in
    ap program_read is ∙ ap (λ (q : ProgramText). Ok q) same
read_as_said (Err fault) read p is e = absurd cc

-- a source that says a program is that program
pub source_is_program : (source : List ℕ) (p : ProgramText) → ArePlain (lines_of source) → meaning_of source ≡ Ok p
    → program_of source ≡ Ok p
unfolding program_of meaning_of
source_is_program source p are e =
    by (layout.layout_after_lines nothing_laid 0 (lines_of source)) (lines_laid [] 0 (lines_of source) are) e where
      by : (laid : Result Layout SourceFault) → IfOk laid (λ l. l ≡ in_order (places_of 0 (lines_of source)))
          → program_said (said_by (lines_of source) (all_closed laid)) ≡ Ok p
          → program_read (program.reading_after_lines nothing_read 1 (lines_of source)) ≡ Ok p
      by (Err fault) is e = absurd cc
      by (Ok laid) is e =
          read_as_said (reading_after_places (lines_of source) [] nothing_read (places_of 0 (lines_of source)))
          (program.reading_after_lines nothing_read 1 (lines_of source)) p
          (lines_say (lines_of source) (lines_of source) nothing_read 0 1 are
          (λ k. (let z : 0 + k ≡ k = omega arith in ap (slice_get (lines_of source)) z)))
          (subst
          (λ (l : Layout). program_said (said_by (lines_of source) (all_closed (Ok l))) ≡ Ok p) is e)

pub plain_sources_are_programs : PlainSourcesArePrograms
plain_sources_are_programs source text are e =
    let it : IsTextOf source text = expansions_are_programs source text e in
    it.read ∙ sym (source_is_program source it.program are it.said)
