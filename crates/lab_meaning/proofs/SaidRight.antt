-- What a line of a source says is a program's reading again.
use Rattle.std.proofs.Common.{◌≡◌, ℕ, ◌<◌, ◌≤◌, Bool, true, false, Option, None, Some, Result, Ok, Err, List, [], ◌∷◌}
use Rattle.std.proofs.Common.{◌++◌, length, refl, sym, subst, arith}
use Rattle.std.specs.Prelude.{if◌then◌else◌, nat_lt}
use Rattle.std.proofs.lemmas.Bool.Decides.{nat_tests}
use Rattle.std.specs.Result.{IfOk}
use Rattle.cm_bits.specs.Span.{Span, IsField}
use Rattle.cm_bits.specs.Text.{words_of}
use Rattle.cm_model.specs.declared.act.Act.{Act}
use Rattle.cm_language.specs.declared.fault.AsmKind.{AsmKind}
use Rattle.cm_language.specs.declared.fault.AsmKind.TheVariants as kind
use Rattle.cm_language.specs.declared.fault.MacroFault.{MacroFault}
use Rattle.cm_language.specs.Lines.{◌>>=◌, operand_of, number_operand, direction_of, field_operand, one_field, two_fields}
use Rattle.cm_language.specs.Names.{NamedField}
use Rattle.cm_language.specs.Program.{MOST_ACTS, Reading, with_acts, reading_after_words, unless_faulty}
use Rattle.cm_language.specs.Whole.{AreProgramActs}
use Rattle.cm_language.proofs.ProgramParts.{AreFields, are_fields, acts-append}
use Rattle.cm_language.proofs.OperandsRead.{if_ok-then, any_ok, operand_ok, field_ok, one_field_ok, two_fields_ok}
use Rattle.cm_language.proofs.TextsRead.{IsReading, after_lines_ok}
use Rattle.lab_phrases.specs.declared.phrase.Phrase.{Phrase}
use Rattle.lab_phrases.specs.declared.phrase.Phrase.TheVariants as phrase
use Rattle.lab_phrases.specs.Acts.{phrase_acts}
use Rattle.lab_phrases.specs.Faults.{first_phrase_fault}
use Rattle.lab_phrases.specs.Laws.{HasPhraseFields}
use Rattle.lab_source.specs.declared.verb.PhraseVerb.{PhraseVerb}
use Rattle.lab_source.specs.declared.verb.PhraseVerb.TheVariants as verb
use Rattle.lab_source.specs.Says.{news_of, sum_of, tested_of, keep_phrase, phrase_with, phrase_of}
use Rattle.lab_source.specs.Expansion.{with_phrase}
use Rattle.lab_meaning.specs.Meaning.{reading_after_phrase, after_said}
use Rattle.lab_meaning.proofs.PhraseActs.{phrase_acts-program}

-- ---- a phrase's fields

-- the operands of `news`
news_ok : (fields : List NamedField) (words : List (List ℕ)) → AreFields fields
    → IfOk (news_of fields words) HasPhraseFields
news_ok fields (d ∷ s ∷ dir ∷ []) are =
    if_ok-then (field_operand fields d) _ IsField _ (field_ok fields d are) (λ d' fd.
    if_ok-then (field_operand fields s) _ IsField _ (field_ok fields s are) (λ s' fs.
    if_ok-then (direction_of dir) _ (λ w. Unit {0}) _ (any_ok (direction_of dir)) (λ dir' any. (fd, fs))))
news_ok fields _ are = tt

-- those of `add`
sum_ok : (fields : List NamedField) (words : List (List ℕ)) → AreFields fields → IfOk (sum_of fields words) HasPhraseFields
sum_ok fields (d ∷ v ∷ []) are =
    if_ok-then (field_operand fields d) _ IsField _ (field_ok fields d are) (λ d' fd.
    if_ok-then (number_operand v) _ (λ n. Unit {0}) _ (any_ok (number_operand v)) (λ v' any. fd))
sum_ok fields _ are = tt

-- those of `test`
tested_ok : (fields : List NamedField) (words : List (List ℕ)) → AreFields fields
    → IfOk (tested_of fields words) HasPhraseFields
tested_ok fields (f ∷ s ∷ []) are =
    if_ok-then (operand_of 16 f) _ (λ n. n < 16) _ (operand_ok 16 f) (λ f' small.
    if_ok-then (field_operand fields s) _ IsField _ (field_ok fields s are) (λ s' fs. (fs, small)))
tested_ok fields _ are = tt

-- those of `keep`
kept_ok : (fields : List NamedField) (words : List (List ℕ)) → AreFields fields
    → IfOk (keep_phrase fields words) HasPhraseFields
kept_ok fields (d ∷ f ∷ []) are =
    if_ok-then (field_operand fields d) _ IsField _ (field_ok fields d are) (λ d' fd.
    if_ok-then (operand_of 16 f) _ (λ n. n < 16) _ (operand_ok 16 f) (λ f' small. (fd, small)))
kept_ok fields _ are = tt

-- those of two fields
by_two : (fields : List NamedField) (words : List (List ℕ)) (f : Span × Span → Phrase) → AreFields fields
    → ((both : Span × Span) → IsField both.0 × IsField both.1 → HasPhraseFields (f both))
    → IfOk (two_fields fields words >>= λ both. Ok (f both)) HasPhraseFields
by_two fields words f are said = if_ok-then (two_fields fields words) _ (λ both. IsField both.0 × IsField both.1) _
    (two_fields_ok fields words are) said

-- those of each phrase are fields
phrase_with_ok : (fields : List NamedField) (v : PhraseVerb) (words : List (List ℕ)) → AreFields fields
    → IfOk (phrase_with fields v words) HasPhraseFields
phrase_with_ok fields verb.News words are = news_ok fields words are
phrase_with_ok fields verb.Chain words are =
    by_two fields words (λ both. phrase.Chain both.0 both.1) are (λ both is. is)
phrase_with_ok fields verb.And words are = by_two fields words (λ both. phrase.And both.0 both.1) are (λ both is. is)
phrase_with_ok fields verb.Or words are = by_two fields words (λ both. phrase.Or both.0 both.1) are (λ both is. is)
phrase_with_ok fields verb.Xor words are = by_two fields words (λ both. phrase.Xor both.0 both.1) are (λ both is. is)
phrase_with_ok fields verb.Not words are = if_ok-then (one_field fields words) _ IsField _
    (one_field_ok fields words are) (λ d is. is)
phrase_with_ok fields verb.AddNumber words are = sum_ok fields words are
phrase_with_ok fields verb.Test words are = tested_ok fields words are
phrase_with_ok fields verb.Keep words are = kept_ok fields words are

pub phrase_ok : (fields : List NamedField) (v : PhraseVerb) (words : List (List ℕ)) → AreFields fields
    → IfOk (phrase_of fields v words) HasPhraseFields
phrase_ok fields v [] are = tt
phrase_ok fields v (word ∷ operands) are = phrase_with_ok fields v operands are

-- ---- a line leaves a reading

-- one of the program language
pub line_ok : (r : Reading) (line : List ℕ) → IsReading r → IfOk (reading_after_words r (words_of line)) IsReading
line_ok r line is = by (reading_after_words r (words_of line)) (after_lines_ok r 1 (line ∷ []) is) where
  by : (q : Result Reading AsmKind) → IfOk (unless_faulty 1 q (λ r'. Ok r')) IsReading → IfOk q IsReading
  by (Ok r') h = h
  by (Err kind) h = tt

-- acts that are within the length
pub record AreWithin (r next : Reading) (acts : List Act) : Type 0 where
  pub few : length (r.acts ++ acts) ≤ MOST_ACTS
  pub is : next ≡ record { fields = r.fields; context = r.context; acts = r.acts ++ acts }

pub are_within : (r : Reading) (acts : List Act) → IfOk (with_acts r acts) (λ next. AreWithin r next acts)
are_within r acts = by (nat_lt MOST_ACTS (length (r.acts ++ acts))) refl where
  next : Reading
  next = record { fields = r.fields; context = r.context; acts = r.acts ++ acts }

  by : (b : Bool) → nat_lt MOST_ACTS (length (r.acts ++ acts)) ≡ b
      → IfOk (if b then Err kind.TooLong else Ok next) (λ z. AreWithin r z acts)
  by true test = tt
  by false test = record { few = grind (arith, nat_tests, test); is = refl }

-- a phrase
pub phrase_left_ok : (r : Reading) (said : Phrase) (fault : Option MacroFault) → IsReading r → HasPhraseFields said
    → first_phrase_fault said r.context ≡ fault → IfOk (with_phrase r said fault) IsReading
phrase_left_ok r said (Some fault) is fields accept = tt
phrase_left_ok r said None is fields accept =
    by (with_acts r (phrase_acts said r.context)) (are_within r (phrase_acts said r.context)) where
      by : (q : Result Reading AsmKind) → IfOk q (λ next. AreWithin r next (phrase_acts said r.context))
          → IfOk q IsReading
      by (Err kind) within = tt
      by (Ok next) within =
          let are : AreProgramActs (phrase_acts said r.context) =
          phrase_acts-program said r.context is.context fields accept in
          let is_next : IsReading (record {
            fields = r.fields;
            context = r.context;
            acts = r.acts ++ phrase_acts said r.context;
          }) =
          record {
            fields = is.fields;
            context = is.context;
            acts = acts-append r.acts (phrase_acts said r.context) is.acts are;
            few = within.few;
          } in
          subst IsReading (sym within.is) is_next

-- any line
pub said_ok : (r : Reading) (line : List ℕ) (asked : Option PhraseVerb) → IsReading r
    → IfOk (after_said r (words_of line) asked) IsReading
said_ok r line None is = line_ok r line is
said_ok r line (Some asked) is =
    if_ok-then (phrase_of r.fields asked (words_of line)) (reading_after_phrase r) HasPhraseFields IsReading
    (phrase_ok r.fields asked (words_of line) (are_fields [] r.fields is.fields))
    (λ said fields. phrase_left_ok r said (first_phrase_fault said r.context) is fields refl)

-- ---- a phrase, unless the words had a fault

abbrev pub then_phrase : Reading → Result Phrase AsmKind → Result Reading AsmKind
then_phrase r said = said >>= reading_after_phrase r
