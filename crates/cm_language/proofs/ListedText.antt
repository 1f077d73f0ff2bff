-- A listing is read line by line as the fields and acts that it tells.
use Rattle.std.proofs.Common.{◌≡◌, ℕ, ◌+◌, ◌<◌, ◌≤◌, ◌^◌, Bool, false, Result, Ok, Err, List, [], ◌∷◌, ◌++◌, flat_map}
use Rattle.std.proofs.Common.{length, refl, sym, ap, ◌∙◌, arith, append_assoc, append-nil, length-append}
use Rattle.std.specs.Prelude.{if◌then◌else◌, decimal, nat_lt}
use Rattle.std.proofs.lemmas.Bool.Decides.{nat_tests}
use Rattle.std.proofs.lemmas.List.Elements.{All-cons, All-append}
use Rattle.cm_bits.specs.Text.{is_line_end, lines_of, words_of}
use Rattle.cm_model.specs.declared.act.Act.{Act}
use Rattle.cm_language.specs.declared.macros.Context.{Context}
use Rattle.cm_language.specs.declared.fault.AsmKind.{AsmKind}
use Rattle.cm_language.specs.declared.fault.AsmKind.TheVariants as kind
use Rattle.cm_language.specs.Names.{NamedField}
use Rattle.cm_language.specs.Laws.{ProgramsAreListed}
use Rattle.cm_language.specs.Listing.{spaced, act_words, field_words, field_line, act_line, act_lines, listing}
use Rattle.cm_language.specs.Program.{MOST_ACTS, Reading, nothing_read, within_length, reading_after_words, unless_faulty}
use Rattle.cm_language.specs.Program.{reading_after_lines, program_read, program_of}
use Rattle.cm_language.specs.Whole.{IsProgramAct, AreProgramActs, AreNext}
use Rattle.cm_language.proofs.Numerals.{word-decimal}
use Rattle.cm_language.proofs.Spaced.{NonePass, plain_spared, spaced_spared, spares_line_end, words_of-spaced}
use Rattle.cm_language.proofs.Spaced.{words_of-commented, lines_of-first}
use Rattle.cm_language.proofs.ListedLines.{reading_after_words-act, reading_after_words-field}
use Rattle.cm_language.proofs.ListedWords.{words-act, words-field}

-- what was read, in one piece
abbrev reading : List NamedField → Context → List Act → Reading
reading fields context acts = record { fields = fields; context = context; acts = acts }

-- a line is read before the lines after it
one_line : (r next : Reading) (n : ℕ) (line rest : List ℕ) (words : List (List ℕ)) → NonePass is_line_end line
    → words_of line ≡ words → reading_after_words r words ≡ Ok next
    → reading_after_lines r n (lines_of (line ++ 10 ∷ rest)) ≡ reading_after_lines next (n + 1) (lines_of rest)
one_line r next n line rest words whole words_are read =
    ap (reading_after_lines r n) (lines_of-first line rest whole)
    ∙ ap (λ (q : Result Reading AsmKind). unless_faulty n q (λ r'. reading_after_lines r' (n + 1) (lines_of rest)))
    (ap (reading_after_words r) words_are ∙ read)

-- ---- acts

-- few acts are no fault
within_length-few : (r : Reading) → length r.acts ≤ MOST_ACTS → within_length r ≡ Ok r
within_length-few r few =
    let test : nat_lt MOST_ACTS (length r.acts) ≡ false = grind (arith, nat_tests) in
    ap (λ (b : Bool). if b then Err kind.TooLong else Ok r) test

-- the line of an act, without its end
abbrev act_text : ℕ → Act → List ℕ
act_text i a = spaced (act_words a) ++ 32 ∷ 59 ∷ 32 ∷ decimal i

-- it has no line end in it
act_text_whole : (i : ℕ) (a : Act) → i < 2 ^ 64 → IsProgramAct a → NonePass is_line_end (act_text i a)
act_text_whole i a small is =
    let P : ℕ → Type 0 = λ b. is_line_end b ≡ false in
    All-append P (spaced (act_words a)) (32 ∷ 59 ∷ 32 ∷ decimal i)
    (spaced_spared is_line_end spares_line_end refl (act_words a) (words-act a is))
    (All-cons P 32 (59 ∷ 32 ∷ decimal i) refl (All-cons P 59 (32 ∷ decimal i) refl (All-cons P 32 (decimal i) refl
    (plain_spared is_line_end spares_line_end (decimal i) (word-decimal i small).plain))))

-- it, and its end before what follows
act_line-text : (i : ℕ) (a : Act) (rest : List ℕ) → act_line i a ++ rest ≡ act_text i a ++ 10 ∷ rest
unfolding act_line
act_line-text i a rest = simp append_assoc refl

-- the lines of acts are read as those acts, after what was read
acts_read : (fields : List NamedField) (context : Context) (acts later : List Act) (n i : ℕ) → AreProgramActs later
    → length acts + length later ≤ MOST_ACTS → i + length later ≤ MOST_ACTS
    → reading_after_lines (reading fields context acts) n (lines_of (act_lines i later))
    ≡ Ok (reading fields context (acts ++ later))
acts_read fields context acts [] n i are few small = ap (λ (all : List Act). Ok (reading fields context all))
    (sym (append-nil acts))
acts_read fields context acts (a ∷ later) n i are few small =
    let next : Reading = reading fields context (acts ++ a ∷ []) in
    let one_more : length (acts ++ a ∷ []) ≡ length acts + 1 = length-append acts (a ∷ []) in
    ap (λ (text : List ℕ). reading_after_lines (reading fields context acts) n (lines_of text))
    (act_line-text i a (act_lines (i + 1) later))
    ∙ one_line (reading fields context acts) next n (act_text i a) (act_lines (i + 1) later) (act_words a)
    (act_text_whole i a (omega arith) are.0) (words_of-commented (act_words a) (32 ∷ decimal i) (words-act a are.0))
    (reading_after_words-act (reading fields context acts) a are.0 ∙ within_length-few next (omega arith))
    ∙ acts_read fields context (acts ++ a ∷ []) later (n + 1) (i + 1) are.1 (omega arith) (omega arith)
    ∙ ap (λ (all : List Act). Ok (reading fields context all)) (append_assoc acts (a ∷ []) later)

-- ---- definitions

-- a definition's line, and its end before what follows
field_line-text : (defined : NamedField) (rest : List ℕ)
    → field_line defined ++ rest ≡ spaced (field_words defined) ++ 10 ∷ rest
unfolding field_line
field_line-text defined rest = append_assoc (spaced (field_words defined)) (10 ∷ []) rest

-- the lines of definitions, and then of acts, are read as those
all_read : (fields : List NamedField) (context : Context) (later : List NamedField) (acts : List Act) (n : ℕ)
    → AreNext fields later → AreProgramActs acts → length acts ≤ MOST_ACTS
    → reading_after_lines (reading fields context []) n (lines_of (flat_map field_line later ++ act_lines 0 acts))
    ≡ Ok (reading (fields ++ later) context acts)
all_read fields context [] acts n next are few =
    acts_read fields context [] acts n 0 are (omega arith) (omega arith)
    ∙ ap (λ (all : List NamedField). Ok (reading all context acts)) (sym (append-nil fields))
all_read fields context (defined ∷ later) acts n next are few =
    let words = words-field fields defined next.0 in
    let rest : List ℕ = flat_map field_line later ++ act_lines 0 acts in
    ap (λ (text : List ℕ). reading_after_lines (reading fields context []) n (lines_of text))
    (append_assoc (field_line defined) (flat_map field_line later) (act_lines 0 acts) ∙ field_line-text defined rest)
    ∙ one_line (reading fields context []) (reading (fields ++ defined ∷ []) context []) n
    (spaced (field_words defined)) rest (field_words defined)
    (spaced_spared is_line_end spares_line_end refl (field_words defined) words)
    (words_of-spaced (field_words defined) words)
    (reading_after_words-field (reading fields context []) defined next.0)
    ∙ all_read (fields ++ defined ∷ []) context later acts (n + 1) next.1 are few
    ∙ ap (λ (all : List NamedField). Ok (reading all context acts)) (append_assoc fields (defined ∷ []) later)

-- a program that is made so is what its listing tells
pub programs_are_listed : ProgramsAreListed
unfolding program_of listing
programs_are_listed program is =
    ap program_read (all_read [] nothing_read.context program.fields program.acts 1 is.fields is.acts is.few)
