-- The acts of a source's lines stand in the program of its expansion.
use Rattle.std.proofs.Common.{◌≡◌, ℕ, zero, suc, Bool, true, false, Option, None, Some, Result, Ok, Err, List, [], ◌∷◌, ◌++◌}
use Rattle.std.proofs.Common.{length, take, drop, refl, sym, ap, ◌∙◌, subst, arith, append_assoc, append-nil}
use Rattle.std.specs.Prelude.{if◌then◌else◌, codes, bytes_eq, nat_lt, slice_get}
use Rattle.std.specs.Option.{ok_or}
use Rattle.std.specs.Result.{IfOk}
use Rattle.std.specs.List.{AllByRecursion}
use Rattle.std.proofs.lemmas.List.{drop_at, take_at}
use Rattle.std.proofs.Math.Seq.{take-add}
use Rattle.cm_bits.specs.Text.{lines_of, words_of}
use Rattle.cm_model.specs.declared.act.Act.{Act}
use Rattle.cm_model.specs.Machine.{Machine, run_of}
use Rattle.cm_model.proofs.Keeping.{IsMachine-run_of}
use Rattle.cm_model.proofs.Runs.{run_of-append}
use Rattle.cm_language.specs.declared.macros.Macro.{Macro}
use Rattle.cm_language.specs.declared.statement.Statement.{Statement}
use Rattle.cm_language.specs.declared.statement.Statement.TheVariants as statement
use Rattle.cm_language.specs.declared.fault.MacroFault.{MacroFault}
use Rattle.cm_language.specs.declared.fault.AsmKind.{AsmKind}
use Rattle.cm_language.specs.declared.fault.AsmKind.TheVariants as kind
use Rattle.cm_language.specs.Acts as macros
use Rattle.cm_language.specs.Faults as macro_faults
use Rattle.cm_language.specs.Laws as language
use Rattle.cm_language.specs.Lines.{◌>>=◌, verb_of, statement_of, definition_of}
use Rattle.cm_language.specs.Places.{Says}
use Rattle.cm_language.specs.Program.{MOST_ACTS, Reading, ProgramText, nothing_read, with_acts}
use Rattle.cm_language.specs.Program.{with_macro, after_statement, after_definition, reading_after_words, program_of}
use Rattle.cm_language.proofs.ProgramParts.{are_fields}
use Rattle.cm_language.proofs.OperandsRead.{IsSaid, if_ok-then, any_ok}
use Rattle.cm_language.proofs.StatementsRead.{statement_ok}
use Rattle.cm_language.proofs.TextsRead.{IsReading}
use Rattle.lab_phrases.specs.declared.phrase.Phrase.{Phrase}
use Rattle.lab_phrases.specs.Acts.{phrase_acts}
use Rattle.lab_phrases.specs.Faults.{first_phrase_fault}
use Rattle.lab_phrases.specs.Laws.{HasPhraseFields}
use Rattle.lab_phrases.proofs.AllPhrases.{phrases_are_right}
use Rattle.lab_source.specs.declared.fault.SourceFault.{SourceFault}
use Rattle.lab_source.specs.declared.verb.PhraseVerb.{PhraseVerb}
use Rattle.lab_source.specs.Says as asked
use Rattle.lab_source.specs.Says.{phrase_of}
use Rattle.lab_source.specs.Layout.{of_source, unless_faulty_at, NamedNumber, layout_of}
use Rattle.lab_source.specs.Expansion.{plain_line, with_phrase, expansion_of}
use Rattle.lab_meaning.specs.Meaning.{words_said, reading_after_phrase, after_said, after_line_at, reading_after_places}
use Rattle.lab_meaning.specs.Meaning.{said_by, program_said, meaning_of}
use Rattle.lab_meaning.specs.Laws.{IsTextOf, IsCarriedOut, PhraseStandsAt, PhrasesStandInTheirProgram}
use Rattle.lab_meaning.specs.Laws.{ExpansionsDoPhrases, SourcesMacrosStand}
use Rattle.lab_meaning.proofs.Quiet.{IsInLine, lines_whole, words_quiet}
use Rattle.lab_meaning.proofs.PlainLines.{words_of-plain_line}
use Rattle.lab_meaning.proofs.SaidRight.{phrase_ok, said_ok, then_phrase}
use Rattle.lab_meaning.proofs.Programs.{expansions_are_programs}

-- ---- acts only come behind

-- what is said later has the acts of before, and more
record Continues (before after : Reading) : Type 0 where
  pub more : List Act
  pub is : after.acts ≡ before.acts ++ more

goes_on : (a b c : Reading) → Continues a b → Continues b c → Continues a c
goes_on a b c h k = record {
  more = h.more ++ k.more;
  is = k.is ∙ (ap (λ acts. acts ++ k.more) h.is ∙ append_assoc a.acts h.more k.more);
}

-- the same acts
stays : (before after : Reading) → after.acts ≡ before.acts → Continues before after
stays before after same = record { more = []; is = same ∙ sym (append-nil before.acts) }

with_acts_goes_on : (r : Reading) (acts : List Act) → IfOk (with_acts r acts) (Continues r)
with_acts_goes_on r acts = by (nat_lt MOST_ACTS (length (r.acts ++ acts))) where
  next : Reading
  next = record { fields = r.fields; context = r.context; acts = r.acts ++ acts }

  by : (b : Bool) → IfOk (if b then Err kind.TooLong else Ok next) (Continues r)
  by true = tt
  by false = record { more = acts; is = refl }

with_macro_goes_on : (r : Reading) (m : Macro) (o : Option MacroFault) → IfOk (with_macro r m o) (Continues r)
with_macro_goes_on r m (Some fault) = tt
with_macro_goes_on r m None = with_acts_goes_on r (macros.acts_of m r.context)

statement_goes_on : (r : Reading) (s : Statement) → IfOk (after_statement r s) (Continues r)
statement_goes_on r (statement.Context c) = stays r (record { fields = r.fields; context = c; acts = r.acts }) refl
statement_goes_on r (statement.Macro m) = with_macro_goes_on r m (macro_faults.first_fault m r.context)
statement_goes_on r (statement.Act a) = with_acts_goes_on r (a ∷ [])

words_go_on : (r : Reading) (words : List (List ℕ)) → IfOk (reading_after_words r words) (Continues r)
words_go_on r [] = stays r r refl
words_go_on r (word ∷ operands) = by (bytes_eq word (codes "field")) where
  by : (b : Bool)
      → IfOk
      (if b then after_definition r operands else
      (ok_or (verb_of word) kind.Word >>= λ v. statement_of r.fields v operands >>= after_statement r)) (Continues r)
  by true =
      if_ok-then (definition_of r.fields operands) _ (λ d. Unit {0}) _ (any_ok (definition_of r.fields operands))
      (λ defined any. stays r
      (record { fields = r.fields ++ defined ∷ []; context = r.context; acts = r.acts }) refl)
  by false =
      if_ok-then (ok_or (verb_of word) kind.Word) _ (λ v. Unit {0}) _ (any_ok (ok_or (verb_of word) kind.Word))
      (λ v any.
      if_ok-then (statement_of r.fields v operands) (after_statement r) (λ s. Unit {0}) _
      (any_ok (statement_of r.fields v operands)) (λ s said. statement_goes_on r s))

phrase_goes_on : (r : Reading) (phrase : Phrase) (o : Option MacroFault)
    → IfOk (with_phrase r phrase o) (Continues r)
phrase_goes_on r phrase (Some fault) = tt
phrase_goes_on r phrase None = with_acts_goes_on r (phrase_acts phrase r.context)

said_goes_on : (r : Reading) (words : List (List ℕ)) (verb : Option PhraseVerb)
    → IfOk (after_said r words verb) (Continues r)
said_goes_on r words None = words_go_on r words
said_goes_on r words (Some verb) =
    if_ok-then (phrase_of r.fields verb words) (reading_after_phrase r) (λ p. Unit {0}) _
    (any_ok (phrase_of r.fields verb words))
    (λ phrase any. phrase_goes_on r phrase (first_phrase_fault phrase r.context))

line_goes_on : (constants : List NamedNumber) (r : Reading) (line : Option (List ℕ))
    → IfOk (after_line_at constants r line) (Continues r)
line_goes_on constants r None = stays r r refl
line_goes_on constants r (Some line) =
    said_goes_on r (words_said constants (words_of line)) (asked.phrase_verb_of (words_said constants (words_of line)))

later_goes_on : (r r' : Reading) (q : Result Reading SourceFault) → Continues r r' → IfOk q (Continues r')
    → IfOk q (Continues r)
later_goes_on r r' (Ok z) h k = goes_on r r' z h k
later_goes_on r r' (Err fault) h k = tt

places_go_on : (lines : List (List ℕ)) (constants : List NamedNumber) (r : Reading) (order : List ℕ)
    → IfOk (reading_after_places lines constants r order) (Continues r)
unfolding reading_after_places
places_go_on lines constants r [] = stays r r refl
places_go_on lines constants r (place ∷ order) =
    by (after_line_at constants r (slice_get lines place)) (line_goes_on constants r (slice_get lines place))
    (λ r'. places_go_on lines constants r' order) where
      by : (q : Result Reading AsmKind) → IfOk q (Continues r)
          → ((r' : Reading) → IfOk (reading_after_places lines constants r' order) (Continues r'))
          → IfOk (unless_faulty_at place (of_source q) (λ r'. reading_after_places lines constants r' order)) (Continues r)
      by (Ok r') h rest = later_goes_on r r' (reading_after_places lines constants r' order) h (rest r')
      by (Err fault) h rest = tt

-- ---- lines in two parts

-- the second part is carried out after what the first has said
carried_on : (lines : List (List ℕ)) (constants : List NamedNumber) (r r' : Reading) (before after : List ℕ)
    → reading_after_places lines constants r before ≡ Ok r'
    → reading_after_places lines constants r (before ++ after) ≡ reading_after_places lines constants r' after
unfolding reading_after_places
carried_on lines constants r r' [] after e =
    let same : r ≡ r' = cc in
    ap (λ (z : Reading). reading_after_places lines constants z after) same
carried_on lines constants r r' (place ∷ before) after e =
    by (after_line_at constants r (slice_get lines place)) (λ z h. carried_on lines constants z r' before after h) e where
      by : (q : Result Reading AsmKind)
          → ((z : Reading) → reading_after_places lines constants z before ≡ Ok r'
          → reading_after_places lines constants z (before ++ after) ≡ reading_after_places lines constants r' after)
          → unless_faulty_at place (of_source q) (λ z. reading_after_places lines constants z before) ≡ Ok r'
          → unless_faulty_at place (of_source q) (λ z. reading_after_places lines constants z (before ++ after))
          ≡ reading_after_places lines constants r' after
      by (Ok z) rest e = rest z e
      by (Err fault) rest e = absurd cc

-- ---- a line's acts

-- acts that are taken come next
acts_come : (r after : Reading) (acts : List Act) → with_acts r acts ≡ Ok after → after.acts ≡ r.acts ++ acts
acts_come r after acts e = by (nat_lt MOST_ACTS (length (r.acts ++ acts))) e where
  by : (b : Bool)
      → (if b then Err kind.TooLong else Ok (record { fields = r.fields; context = r.context; acts = r.acts ++ acts }))
      ≡ Ok after → after.acts ≡ r.acts ++ acts
  by true e = absurd cc
  by false e = cc

-- a phrase that is taken is not refused
record IsTaken (r after : Reading) (phrase : Phrase) : Type 0 where
  pub accepted : first_phrase_fault phrase r.context ≡ None
  pub acts : after.acts ≡ r.acts ++ phrase_acts phrase r.context

phrase_taken : (r after : Reading) (phrase : Phrase) (o : Option MacroFault) → first_phrase_fault phrase r.context ≡ o
    → with_phrase r phrase o ≡ Ok after → IsTaken r after phrase
phrase_taken r after phrase None o e = record { accepted = o; acts = acts_come r after (phrase_acts phrase r.context) e }
phrase_taken r after phrase (Some fault) o e = absurd cc

-- nor is a macro
record MacroTaken (r after : Reading) (m : Macro) : Type 0 where
  pub accepted : macro_faults.first_fault m r.context ≡ None
  pub acts : after.acts ≡ r.acts ++ macros.acts_of m r.context

macro_taken : (r after : Reading) (m : Macro) (o : Option MacroFault) → macro_faults.first_fault m r.context ≡ o
    → with_macro r m o ≡ Ok after → MacroTaken r after m
macro_taken r after m None o e = record { accepted = o; acts = acts_come r after (macros.acts_of m r.context) e }
macro_taken r after m (Some fault) o e = absurd cc

-- ---- what was said is a reading

-- a line of whole lines leaves one
place_ok : (constants : List NamedNumber) (r : Reading) (lines : List (List ℕ)) (place : ℕ) → IsReading r
    → AllByRecursion (AllByRecursion IsInLine) lines
    → IfOk (after_line_at constants r (slice_get lines place)) IsReading
place_ok constants r [] place is whole = is
place_ok constants r (line ∷ lines) (suc place) is whole = place_ok constants r lines place is whole.1
place_ok constants r (line ∷ lines) zero is whole =
    let plain : List ℕ = plain_line constants 0 (words_of line) in
    let same : words_of plain ≡ words_said constants (words_of line) =
    words_of-plain_line constants 0 (words_of line) (words_quiet line whole.0) in
    subst (λ (words : List (List ℕ)). IfOk (after_said r words (asked.phrase_verb_of words)) IsReading) same
    (said_ok r plain (asked.phrase_verb_of (words_of plain)) is)

places_ok : (lines : List (List ℕ)) (constants : List NamedNumber) (r : Reading) (order : List ℕ) → IsReading r
    → AllByRecursion (AllByRecursion IsInLine) lines → IfOk (reading_after_places lines constants r order) IsReading
unfolding reading_after_places
places_ok lines constants r [] is whole = is
places_ok lines constants r (place ∷ order) is whole =
    by (after_line_at constants r (slice_get lines place)) (place_ok constants r lines place is whole)
    (λ r' is'. places_ok lines constants r' order is' whole) where
      by : (q : Result Reading AsmKind) → IfOk q IsReading
          → ((r' : Reading) → IsReading r' → IfOk (reading_after_places lines constants r' order) IsReading)
          → IfOk (unless_faulty_at place (of_source q) (λ r'. reading_after_places lines constants r' order)) IsReading
      by (Ok r') h rest = rest r' h
      by (Err fault) h rest = tt

-- what the lines before this one have said
carried_ok : (source : List ℕ) (r : Reading) (words : List (List ℕ)) → IsCarriedOut source r words → IsReading r
carried_ok source r words it =
    let start : IsReading nothing_read = record { fields = tt; context = tt; acts = tt; few = omega arith } in
    subst (λ (q : Result Reading SourceFault). IfOk q IsReading) it.read
    (places_ok (lines_of source) it.laid.constants nothing_read it.before start (lines_whole source))

-- ---- the laws

-- a line that was taken, and what came behind it
record IsFollowed (q : Result Reading AsmKind) (program : ProgramText) : Type 0 where
  next : Reading
  is : q ≡ Ok next
  more : List Act
  acts : program.acts ≡ next.acts ++ more

followed : (lines : List (List ℕ)) (constants : List NamedNumber) (place : ℕ) (after : List ℕ)
    (q : Result Reading AsmKind) (program : ProgramText)
    → program_said (unless_faulty_at place (of_source q) (λ r'. reading_after_places lines constants r' after)) ≡ Ok program
    → IsFollowed q program
followed lines constants place after (Err kind) program e = absurd cc
followed lines constants place after (Ok next) program e =
    by (reading_after_places lines constants next after) (places_go_on lines constants next after) e where
      by : (rest : Result Reading SourceFault) → IfOk rest (Continues next) → program_said rest ≡ Ok program
          → IsFollowed (Ok next) program
      by (Ok last) on e =
          let same : last.acts ≡ program.acts = cc in
          record { next = next; is = refl; more = on.more; acts = sym same ∙ on.is }
      by (Err fault) on e = absurd cc

-- so was the line of these words
carried_followed : (source text : List ℕ) (program : ProgramText) (r : Reading) (words : List (List ℕ))
    → expansion_of source ≡ Ok text → program_of text ≡ Ok program → IsCarriedOut source r words
    → IsFollowed (after_said r words (asked.phrase_verb_of words)) program
unfolding meaning_of reading_after_places
carried_followed source text program r words e read it =
    let lines : List (List ℕ) = lines_of source in
    let constants : List NamedNumber = it.laid.constants in
    let of_text : IsTextOf source text = expansions_are_programs source text e in
    let same : of_text.program ≡ program = cc (of_text.read, read) in
    let all : said_by lines (layout_of lines) ≡ reading_after_places lines constants r (it.place ∷ it.after) =
    ap (said_by lines) it.layout ∙ ap (reading_after_places lines constants nothing_read) it.order
    ∙ carried_on lines constants nothing_read r it.before (it.place ∷ it.after) it.read in
    let line : after_line_at constants r (slice_get lines it.place) ≡ after_said r words (asked.phrase_verb_of words) =
    ap (after_line_at constants r) it.there
    ∙ ap (λ (said : List (List ℕ)). after_said r said (asked.phrase_verb_of said)) it.said in
    followed lines constants it.place it.after (after_said r words (asked.phrase_verb_of words)) program
    (sym
    (ap program_said (all
    ∙ ap (λ (q : Result Reading AsmKind). unless_faulty_at it.place (of_source q)
    (λ r'. reading_after_places lines constants r' it.after)) line))
    ∙ of_text.said ∙ ap (λ (p : ProgramText). Ok p) same)

-- acts between others
between : (before acts more all : List Act) → all ≡ (before ++ acts) ++ more
    → take (length acts) (drop (length before) all) ≡ acts
between before acts more all is =
    ap (λ (z : List Act). take (length acts) (drop (length before) z)) (is ∙ append_assoc before acts more)
    ∙ (ap (take (length acts)) (drop_at before (acts ++ more) (length before) refl)
    ∙ take_at acts more (length acts) refl)

pub phrases_stand_in_their_program : PhrasesStandInTheirProgram
phrases_stand_in_their_program source text program r words phrase e read it says =
    let on : IsFollowed (after_said r words (asked.phrase_verb_of words)) program =
    carried_followed source text program r words e read it in
    let line : after_said r words (asked.phrase_verb_of words) ≡ with_phrase r phrase (first_phrase_fault phrase r.context) =
    ap (after_said r words) says.asks ∙ ap (then_phrase r) says.says in
    let taken : IsTaken r on.next phrase =
    phrase_taken r on.next phrase (first_phrase_fault phrase r.context) refl (sym line ∙ on.is) in
    let fields : HasPhraseFields phrase =
    subst (λ (q : Result Phrase AsmKind). IfOk q HasPhraseFields) says.says
    (phrase_ok r.fields says.verb words (are_fields [] r.fields (carried_ok source r words it).fields)) in
    record {
      fields = fields;
      accepted = taken.accepted;
      there = between r.acts (phrase_acts phrase r.context) on.more program.acts
          (on.acts ∙ ap (λ (z : List Act). z ++ on.more) taken.acts);
    }

-- and do what it says
pub expansions_do_phrases : ExpansionsDoPhrases
expansions_do_phrases n cap machine source text program r words phrase is e read it says =
    let stands : PhraseStandsAt program.acts (length r.acts) phrase r.context =
    phrases_stand_in_their_program source text program r words phrase e read it says in
    let reached : Machine = run_of n cap machine (take (length r.acts) program.acts) in
    ap (run_of n cap machine)
    (take-add (length r.acts) (length (phrase_acts phrase r.context)) program.acts
    ∙ ap (λ (z : List Act). take (length r.acts) program.acts ++ z) stands.there)
    ∙ run_of-append n cap machine (take (length r.acts) program.acts) (phrase_acts phrase r.context)
    ∙ phrases_are_right n cap phrase r.context reached
    (IsMachine-run_of n cap machine (take (length r.acts) program.acts) is) stands.fields stands.accepted

-- a macro's line is read as the macro
then_then : {A B C : Type 0} (x : Result A AsmKind) (f : A → Result B AsmKind) (g : B → Result C AsmKind)
    → (x >>= λ a. f a >>= g) ≡ ((x >>= f) >>= g)
then_then (Ok a) f g = refl
then_then (Err e) f g = refl

read_as_macro : (r : Reading) (words : List (List ℕ)) (m : Macro) → Says r words m
    → reading_after_words r words ≡ with_macro r m (macro_faults.first_fault m r.context)
read_as_macro r [] m says = elim says [ ]
read_as_macro r (word ∷ operands) m says =
    rw says.0
    (then_then (ok_or (verb_of word) kind.Word) (λ v. statement_of r.fields v operands) (after_statement r)
    ∙ ap (λ x. x >>= after_statement r) says.1)

-- its fields are fields
macro_fields : (r : Reading) (words : List (List ℕ)) (m : Macro) → IsReading r → Says r words m
    → language.HasFields m
macro_fields r [] m is says = elim says [ ]
macro_fields r (word ∷ operands) m is says =
    let said : IfOk (ok_or (verb_of word) kind.Word >>= λ v. statement_of r.fields v operands) IsSaid =
    if_ok-then (ok_or (verb_of word) kind.Word) (λ v. statement_of r.fields v operands) (λ v. Unit {0}) IsSaid
    (any_ok (ok_or (verb_of word) kind.Word))
    (λ v any. statement_ok r.fields v operands (are_fields [] r.fields is.fields)) in
    (subst (λ (x : Result Statement AsmKind). IfOk x IsSaid) says.1 said).0

pub sources_macros_stand : SourcesMacrosStand
sources_macros_stand source text program r words m e read it none says =
    let on : IsFollowed (after_said r words (asked.phrase_verb_of words)) program =
    carried_followed source text program r words e read it in
    let line : after_said r words (asked.phrase_verb_of words)
    ≡ with_macro r m (macro_faults.first_fault m r.context) =
    ap (after_said r words) none ∙ read_as_macro r words m says in
    let taken : MacroTaken r on.next m =
    macro_taken r on.next m (macro_faults.first_fault m r.context) refl (sym line ∙ on.is) in
    record {
      fields = macro_fields r words m (carried_ok source r words it) says;
      accepted = taken.accepted;
      there = between r.acts (macros.acts_of m r.context) on.more program.acts
          (on.acts ∙ ap (λ (z : List Act). z ++ on.more) taken.acts);
    }
