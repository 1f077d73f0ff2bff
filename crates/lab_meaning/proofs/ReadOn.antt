-- Lines behind a text are read after it.
use Rattle.std.proofs.Common.{◌≡◌, ℕ, ◌+◌, ◌≤◌, Bool, false, Result, Ok, Err, List, [], ◌∷◌, ◌++◌, flat_map, length}
use Rattle.std.proofs.Common.{refl, sym, ap, ◌∙◌, arith, append_assoc, append-nil, length-append}
use Rattle.std.specs.Prelude.{if◌then◌else◌, decimal, nat_lt}
use Rattle.std.proofs.lemmas.Bool.Decides.{nat_tests}
use Rattle.std.proofs.lemmas.List.Elements.{All-cons, All-append, All-from_recursion}
use Rattle.cm_bits.specs.Text.{is_line_end, lines_of, words_of}
use Rattle.cm_model.specs.declared.act.Act.{Act}
use Rattle.cm_language.specs.declared.macros.Context.{Context}
use Rattle.cm_language.specs.declared.fault.AsmKind.{AsmKind}
use Rattle.cm_language.specs.declared.fault.AsmKind.TheVariants as kind
use Rattle.cm_language.specs.Names.{NamedField}
use Rattle.cm_language.specs.Listing.{spaced, act_words, act_line}
use Rattle.cm_language.specs.Program.{MOST_ACTS, Reading, within_length, reading_after_words, unless_faulty, reading_after_lines}
use Rattle.cm_language.specs.Whole.{AreProgramActs}
use Rattle.cm_language.proofs.Spaced.{NonePass, spaced_spared, spares_line_end, words_of-commented, lines_of-first}
use Rattle.cm_language.proofs.ListedLines.{reading_after_words-act}
use Rattle.cm_language.proofs.ListedWords.{words-act}
use Rattle.lab_meaning.proofs.Quiet.{IsInLine, IsQuiet, each_from, quiet-decimal}

-- what was read, in one piece
abbrev reading : List NamedField → Context → List Act → Reading
reading fields context acts = record { fields = fields; context = context; acts = acts }

-- a line is read before the lines after it
pub one_line : (r next : Reading) (n : ℕ) (line rest : List ℕ) → NonePass is_line_end line
    → reading_after_words r (words_of line) ≡ Ok next
    → reading_after_lines r n (lines_of (line ++ 10 ∷ rest)) ≡ reading_after_lines next (n + 1) (lines_of rest)
one_line r next n line rest whole read =
    ap (reading_after_lines r n) (lines_of-first line rest whole)
    ∙ ap (λ (q : Result Reading AsmKind). unless_faulty n q (λ r'. reading_after_lines r' (n + 1) (lines_of rest))) read

-- few acts are no fault
within_length-few : (r : Reading) → length r.acts ≤ MOST_ACTS → within_length r ≡ Ok r
within_length-few r few =
    let test : nat_lt MOST_ACTS (length r.acts) ≡ false = grind (arith, nat_tests) in
    ap (λ (b : Bool). if b then Err kind.TooLong else Ok r) test

-- the line of an act, without its end
abbrev act_text : ℕ → Act → List ℕ
act_text i a = spaced (act_words a) ++ 32 ∷ 59 ∷ 32 ∷ decimal i

-- it has no line end in it
act_text_whole : (i : ℕ) (a : Act) → AreProgramActs (a ∷ []) → NonePass is_line_end (act_text i a)
act_text_whole i a is =
    let P : ℕ → Type 0 = λ b. is_line_end b ≡ false in
    All-append P (spaced (act_words a)) (32 ∷ 59 ∷ 32 ∷ decimal i)
    (spaced_spared is_line_end spares_line_end refl (act_words a) (words-act a is.0))
    (All-cons P 32 (59 ∷ 32 ∷ decimal i) refl (All-cons P 59 (32 ∷ decimal i) refl (All-cons P 32 (decimal i) refl
    (All-from_recursion P (decimal i)
    (each_from IsQuiet IsInLine (decimal i) (λ b q. q.line_end) (quiet-decimal i).quiet)))))

-- it, and its end before what follows
act_line-text : (i : ℕ) (a : Act) (rest : List ℕ) → act_line i a ++ rest ≡ act_text i a ++ 10 ∷ rest
unfolding act_line
act_line-text i a rest = simp append_assoc refl

-- the lines of acts with one comment are read as those acts, and then what follows
pub acts_read : (fields : List NamedField) (context : Context) (acts later : List Act) (n i : ℕ) (rest : List ℕ)
    → AreProgramActs later → length acts + length later ≤ MOST_ACTS
    → reading_after_lines (reading fields context acts) n (lines_of (flat_map (act_line i) later ++ rest))
    ≡ reading_after_lines (reading fields context (acts ++ later)) (n + length later) (lines_of rest)
acts_read fields context acts [] n i rest are few =
    let same : n ≡ n + length {A = Act} [] = omega arith in
    λ j. reading_after_lines (reading fields context (sym (append-nil acts) j)) (same j) (lines_of rest)
acts_read fields context acts (a ∷ later) n i rest are few =
    let next : Reading = reading fields context (acts ++ a ∷ []) in
    let one_more : length (acts ++ a ∷ []) ≡ length acts + 1 = length-append acts (a ∷ []) in
    let behind : List ℕ = flat_map (act_line i) later ++ rest in
    let same : n + 1 + length later ≡ n + length (a ∷ later) = omega arith in
    ap (λ (text : List ℕ). reading_after_lines (reading fields context acts) n (lines_of text))
    (append_assoc (act_line i a) (flat_map (act_line i) later) rest ∙ act_line-text i a behind)
    ∙ one_line (reading fields context acts) next n (act_text i a) behind (act_text_whole i a (are.0, tt))
    (ap (reading_after_words (reading fields context acts)) (words_of-commented (act_words a) (32 ∷ decimal i) (words-act a are.0))
    ∙ reading_after_words-act (reading fields context acts) a are.0 ∙ within_length-few next (omega arith))
    ∙ acts_read fields context (acts ++ a ∷ []) later (n + 1) i rest are.1 (omega arith)
    ∙ (λ j. reading_after_lines (reading fields context (append_assoc acts (a ∷ []) later j)) (same j) (lines_of rest))
