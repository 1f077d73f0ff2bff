-- What comes out of a source's lines is read as what they say.
use Rattle.std.proofs.Common.{◌≡◌, ℕ, zero, suc, ◌+◌, ◌≤◌, Bool, true, false, Option, None, Some, Result, Ok, Err, List, [], ◌∷◌}
use Rattle.std.proofs.Common.{◌++◌, length, refl, sym, ap, ◌∙◌, subst, arith, append_assoc, length-append}
use Rattle.std.specs.Prelude.{if◌then◌else◌, nat_lt, slice_get}
use Rattle.std.specs.Result.{IfOk}
use Rattle.std.specs.List.{All, AllByRecursion}
use Rattle.cm_bits.specs.Text.{is_line_end, lines_of, words_of}
use Rattle.cm_model.specs.declared.act.Act.{Act}
use Rattle.cm_language.specs.declared.fault.AsmKind.{AsmKind}
use Rattle.cm_language.specs.declared.fault.MacroFault.{MacroFault}
use Rattle.cm_language.specs.Program.{MOST_ACTS, Reading, nothing_read, with_acts, reading_after_words, reading_after_lines}
use Rattle.cm_language.specs.Whole.{AreProgramActs}
use Rattle.cm_language.proofs.ProgramParts.{are_fields}
use Rattle.cm_language.proofs.TextsRead.{IsReading}
use Rattle.lab_phrases.specs.declared.phrase.Phrase.{Phrase}
use Rattle.lab_phrases.specs.Acts.{phrase_acts}
use Rattle.lab_phrases.specs.Faults.{first_phrase_fault}
use Rattle.lab_phrases.specs.Laws.{HasPhraseFields}
use Rattle.lab_source.specs.declared.fault.SourceKind.{SourceKind}
use Rattle.lab_source.specs.declared.fault.SourceKind.TheVariants.{TooLarge}
use Rattle.lab_source.specs.declared.fault.SourceFault.{SourceFault}
use Rattle.lab_source.specs.declared.verb.PhraseVerb.{PhraseVerb}
use Rattle.lab_source.specs.Says.{phrase_verb_of, phrase_of}
use Rattle.lab_source.specs.Layout.{◌>>=◌, of_source, unless_faulty_at, NamedNumber}
use Rattle.lab_source.specs.Expansion as out
use Rattle.lab_source.specs.Expansion.{MOST_BYTES, Expansion, nothing_out, within_bytes, with_phrase, phrase_text}
use Rattle.lab_source.specs.Expansion.{plain_line, after_plain, expansion_after_place, after_place_of}
use Rattle.lab_meaning.specs.Meaning.{words_said, reading_after_phrase, after_said, reading_after_said, after_line_at, reading_after_places}
use Rattle.lab_meaning.proofs.Quiet.{IsInLine, IsQuietWord, words_quiet}
use Rattle.lab_meaning.proofs.PlainLines.{words_of-plain_line, plain_line_whole}
use Rattle.lab_meaning.proofs.PhraseActs.{phrase_acts-program}
use Rattle.lab_meaning.proofs.ReadOn.{one_line, acts_read}
use Rattle.lab_meaning.proofs.SaidRight.{phrase_ok, line_ok, AreWithin, are_within, phrase_left_ok, then_phrase}

-- what came out so far is read as what it says, and then what stands behind it
pub record IsRead (o : Expansion) : Type 0 where
  pub number : ℕ
  pub on : (rest : List ℕ)
      → reading_after_lines nothing_read 1 (lines_of (o.text ++ rest)) ≡ reading_after_lines o.reading number (lines_of rest)
  pub whole : IsReading o.reading

-- so it is before the first line
pub nothing_is_read : IsRead nothing_out
nothing_is_read = record {
  number = 1;
  on = λ rest. refl;
  whole = record { fields = tt; context = tt; acts = tt; few = omega arith };
}

-- what comes out agrees with what is said: it is read as that, or the fault is the same but for too many bytes
abbrev pub Agrees : Result Expansion SourceKind → Result Reading AsmKind → Type 0
Agrees (Ok o) said = IsRead o × (said ≡ Ok o.reading)
Agrees (Err kind) said = ¬ (kind ≡ TooLarge) → of_source said ≡ Err kind

-- ---- too many bytes

agrees_within : (o : Expansion) (said : Result Reading AsmKind) → IsRead o → said ≡ Ok o.reading
    → Agrees (within_bytes o) said
agrees_within o said is e = by (nat_lt MOST_BYTES (length o.text)) where
  by : (b : Bool) → Agrees (if b then Err TooLarge else Ok o) said
  by true = λ other. absurd (other refl)
  by false = (is, e)

-- ---- a line of the program language

line_agrees : (o : Expansion) (line : List ℕ) → IsRead o → All (λ b. is_line_end b ≡ false) line
    → Agrees (out.expansion_after_line o line) (reading_after_words o.reading (words_of line))
line_agrees o line is whole = by (reading_after_words o.reading (words_of line)) refl where
  by : (read : Result Reading AsmKind) → reading_after_words o.reading (words_of line) ≡ read
      → Agrees
      (of_source read >>= λ r. within_bytes (record { reading = r; text = o.text ++ line ++ 10 ∷ [] }))
      (reading_after_words o.reading (words_of line))
  by (Err kind) e = λ other. ap of_source e
  by (Ok r) e =
      let next : Expansion = record { reading = r; text = o.text ++ line ++ 10 ∷ [] } in
      let text : (rest : List ℕ) → (o.text ++ line ++ 10 ∷ []) ++ rest ≡ o.text ++ (line ++ 10 ∷ rest) =
      λ rest. simp append_assoc refl in
      let read : IsRead next = record {
        number = is.number + 1;
        on = λ rest. ap (λ (t : List ℕ). reading_after_lines nothing_read 1 (lines_of t)) (text rest)
            ∙ is.on (line ++ 10 ∷ rest)
            ∙ one_line o.reading r is.number line rest whole e;
        whole = subst (λ (q : Result Reading AsmKind). IfOk q IsReading) e (line_ok o.reading line is.whole);
      } in
      agrees_within next (reading_after_words o.reading (words_of line)) read e

-- ---- a phrase

-- what a phrase leaves is read, where it is not refused
phrase_read : (o : Expansion) (r : Reading) (place : ℕ) (said : Phrase) → IsRead o → HasPhraseFields said
    → first_phrase_fault said o.reading.context ≡ None → with_acts o.reading (phrase_acts said o.reading.context) ≡ Ok r
    → IsRead (record { reading = r; text = o.text ++ phrase_text place (phrase_acts said o.reading.context) })
phrase_read o r place said is fields accept e =
    let acts : List Act = phrase_acts said o.reading.context in
    let lines : List ℕ = phrase_text place acts in
    let within : AreWithin o.reading r acts =
    subst (λ (q : Result Reading AsmKind). IfOk q (λ next. AreWithin o.reading next acts)) e
    (are_within o.reading acts) in
    let are : AreProgramActs acts = phrase_acts-program said o.reading.context is.whole.context fields accept in
    let few : length o.reading.acts + length acts ≤ MOST_ACTS =
    omega (arith, within.few, length-append o.reading.acts acts) in
    record {
      number = is.number + length acts;
      on = λ rest. ap (λ (t : List ℕ). reading_after_lines nothing_read 1 (lines_of t)) (append_assoc o.text lines rest)
          ∙ is.on (lines ++ rest)
          ∙ acts_read o.reading.fields o.reading.context o.reading.acts acts is.number (place + 1) rest are few
          ∙ ap (λ (z : Reading). reading_after_lines z (is.number + length acts) (lines_of rest)) (sym within.is);
      whole = subst (λ (q : Result Reading AsmKind). IfOk q IsReading) e
          (phrase_left_ok o.reading said None is.whole fields accept);
    }

phrase_agrees : (o : Expansion) (place : ℕ) (said : Phrase) → IsRead o → HasPhraseFields said
    → Agrees (out.expansion_after_phrase o place said) (reading_after_phrase o.reading said)
phrase_agrees o place said is fields = by (first_phrase_fault said o.reading.context) refl where
  text : List ℕ
  text = o.text ++ phrase_text place (phrase_acts said o.reading.context)

  read_so : (read : Result Reading AsmKind) → first_phrase_fault said o.reading.context ≡ None
      → with_acts o.reading (phrase_acts said o.reading.context) ≡ read
      → Agrees (of_source read >>= λ r. within_bytes (record { reading = r; text = text }))
      (with_acts o.reading (phrase_acts said o.reading.context))
  read_so (Err kind) accept e = λ other. ap of_source e
  read_so (Ok r) accept e =
      agrees_within (record { reading = r; text = text }) (with_acts o.reading (phrase_acts said o.reading.context))
      (phrase_read o r place said is fields accept e) e

  by : (fault : Option MacroFault) → first_phrase_fault said o.reading.context ≡ fault
      → Agrees
      (of_source (with_phrase o.reading said fault) >>= λ r. within_bytes (record { reading = r; text = text }))
      (with_phrase o.reading said fault)
  by (Some fault) accept = λ other. refl
  by None accept = read_so (with_acts o.reading (phrase_acts said o.reading.context)) accept refl

-- ---- any line

plain_agrees : (o : Expansion) (place : ℕ) (line : List ℕ) (asked : Option PhraseVerb) → IsRead o
    → All (λ b. is_line_end b ≡ false) line
    → Agrees (after_plain o place line asked) (after_said o.reading (words_of line) asked)
plain_agrees o place line None is whole = line_agrees o line is whole
plain_agrees o place line (Some asked) is whole =
    by (phrase_of o.reading.fields asked (words_of line))
    (phrase_ok o.reading.fields asked (words_of line) (are_fields [] o.reading.fields is.whole.fields)) where
      by : (said : Result Phrase AsmKind) → IfOk said HasPhraseFields
          → Agrees (of_source said >>= λ s. out.expansion_after_phrase o place s) (then_phrase o.reading said)
      by (Err kind) fields = λ other. refl
      by (Ok said) fields = phrase_agrees o place said is fields

-- the line at a place
place_agrees : (constants : List NamedNumber) (o : Expansion) (place : ℕ) (line : List ℕ) → IsRead o
    → AllByRecursion IsInLine line
    → Agrees (expansion_after_place constants o place line) (reading_after_said constants o.reading (words_of line))
unfolding expansion_after_place
place_agrees constants o place line is whole =
    let words : AllByRecursion IsQuietWord (words_of line) = words_quiet line whole in
    let plain : List ℕ = plain_line constants place (words_of line) in
    let same : words_of plain ≡ words_said constants (words_of line) =
    words_of-plain_line constants place (words_of line) words in
    subst
    (λ (said : List (List ℕ)). Agrees (after_plain o place plain (phrase_verb_of (words_of plain)))
    (after_said o.reading said (phrase_verb_of said))) same
    (plain_agrees o place plain (phrase_verb_of (words_of plain)) is
    (plain_line_whole constants place (words_of line) words))

-- if there is one
place_of_agrees : (constants : List NamedNumber) (o : Expansion) (place : ℕ) (lines : List (List ℕ)) (at : ℕ)
    → IsRead o → AllByRecursion (AllByRecursion IsInLine) lines
    → Agrees (after_place_of constants o place (slice_get lines at)) (after_line_at constants o.reading (slice_get lines at))
place_of_agrees constants o place [] at is whole = (is, refl)
place_of_agrees constants o place (line ∷ lines) zero is whole = place_agrees constants o place line is whole.0
place_of_agrees constants o place (line ∷ lines) (suc at) is whole =
    place_of_agrees constants o place lines at is whole.1

-- ---- all lines

-- the same of lines one after another
abbrev pub AllAgree : Result Expansion SourceFault → Result Reading SourceFault → Type 0
AllAgree (Ok o) said = IsRead o × (said ≡ Ok o.reading)
AllAgree (Err fault) said = ¬ (fault.kind ≡ TooLarge) → said ≡ Err fault

-- lines after one
later_agree : (place : ℕ) (come : Result Expansion SourceKind) (said : Result Reading AsmKind)
    (f : Expansion → Result Expansion SourceFault) (g : Reading → Result Reading SourceFault) → Agrees come said
    → ((o : Expansion) → IsRead o → AllAgree (f o) (g o.reading))
    → AllAgree (unless_faulty_at place come f) (unless_faulty_at place (of_source said) g)
later_agree place (Ok o) said f g agrees later =
    subst (λ (q : Result Reading AsmKind). AllAgree (f o) (unless_faulty_at place (of_source q) g)) (sym agrees.1)
    (later o agrees.0)
later_agree place (Err kind) said f g agrees later =
    λ other. ap (λ (q : Result Reading SourceKind). unless_faulty_at place q g) (agrees other)

-- lines at these places
pub places_agree : (lines : List (List ℕ)) (constants : List NamedNumber) (o : Expansion) (places : List ℕ) → IsRead o
    → AllByRecursion (AllByRecursion IsInLine) lines
    → AllAgree (out.expansion_after_places lines constants o places) (reading_after_places lines constants o.reading places)
unfolding out.expansion_after_places reading_after_places
places_agree lines constants o [] is whole = (is, refl)
places_agree lines constants o (place ∷ places) is whole =
    later_agree place (after_place_of constants o place (slice_get lines place))
    (after_line_at constants o.reading (slice_get lines place)) (λ next. out.expansion_after_places lines constants next places)
    (λ r. reading_after_places lines constants r places) (place_of_agrees constants o place lines place is whole)
    (λ next next_is. places_agree lines constants next places next_is whole)
