-- Reading a text line by line.
use Rattle.std.proofs.Common.{◌≡◌, ℕ, ◌+◌, ◌-◌, ◌<◌, ◌≤◌, ◌⊎◌, Bool, true, false, take, drop, drop-drop, get_or}
use Rattle.std.proofs.Common.{get_or-drop}
use Rattle.std.proofs.Common.{if◌then◌else◌, nat_lt, subst, take-add, length-drop, Result, Ok, Err, List, [], ◌∷◌, ◌++◌}
use Rattle.std.proofs.Common.{length, length-append, refl, sym, ap, ◌∙◌, arith, inl, inr, ⊎_elim}
use Rattle.std.specs.List.{slice_split, onto_first}
use Rattle.std.proofs.lemmas.List.Splits.{slice_split-cons_yes, slice_split-cons_no}
use Rattle.cm_bits.specs.Text.{lines_of, is_line_end, without_empty_last, words_of}
use Rattle.cm_language.specs.declared.fault.AsmKind.{AsmKind}
use Rattle.cm_language.specs.declared.fault.AsmKind.TheVariants as kind
use Rattle.cm_language.specs.declared.statement.Statement.TheVariants as statement
use Rattle.cm_language.specs.Lines.{◌>>=◌}
use Rattle.cm_language.specs.Program.{Reading, nothing_read, reading_after_words, after_statement, unless_faulty, reading_after_lines}
use Rattle.cm_language.specs.Program.{with_acts, parts, MOST_ACTS, IsGrownFor, MatchKind, MayLackMemory, IsLineFault}
use Rattle.cm_language.specs.Program.{IsOwnFault}
use Rattle.cm_language.specs.Names.{NamedField}
use Rattle.cm_model.specs.declared.act.Act.{Act}
use Rattle.cm_model.specs.declared.act.Act.TheVariants as act
use Rattle.cm_model.specs.declared.act.Nano.{Nano}
use Rattle.cm_asm.specs.SinglePass.{SaysInstruction}

-- ---- a text has no more lines than bytes

new_line : (parts : List (List ℕ)) → length (without_empty_last ([] ∷ parts)) ≤ length (without_empty_last parts) + 1
new_line [] = omega arith
new_line (part ∷ parts) = omega arith

longer_line : (byte : ℕ) (parts : List (List ℕ))
    → length (without_empty_last (onto_first byte parts)) ≤ length (without_empty_last parts) + 1
longer_line byte [] = omega arith
longer_line byte (part ∷ []) = omega arith
longer_line byte (part ∷ next ∷ parts) = omega arith

bool_cases : (b : Bool) → (b ≡ true) ⊎ (b ≡ false)
bool_cases true = inl refl
bool_cases false = inr refl

pub few_lines : (text : List ℕ) → length (lines_of text) ≤ length text
few_lines [] = omega arith
few_lines (byte ∷ bytes) =
    ⊎_elim
    (λ (e : is_line_end byte ≡ true).
    omega (
      arith,
      ap (λ parts. length (without_empty_last parts)) (slice_split-cons_yes is_line_end byte bytes e),
      new_line (slice_split is_line_end bytes),
      few_lines bytes,
    ))
    (λ (e : is_line_end byte ≡ false).
    omega (
      arith,
      ap (λ parts. length (without_empty_last parts)) (slice_split-cons_no is_line_end byte bytes e),
      longer_line byte (slice_split is_line_end bytes),
      few_lines bytes,
    ))
    (bool_cases (is_line_end byte))

-- ---- one line more

-- the lines up to the next one, and those after it
pub record IsNext (lines : List (List ℕ)) (i : ℕ) (line : List ℕ) (rest : List (List ℕ)) : Type 0 where
  pub after : rest ≡ drop (i + 1) lines
  pub before : take (i + 1) lines ≡ take i lines ++ line ∷ []
  pub within : i + 1 ≤ length lines

pub next_line : (lines : List (List ℕ)) (i : ℕ) (line : List ℕ) (rest : List (List ℕ)) → line ∷ rest ≡ drop i lines
    → IsNext lines i line rest
next_line lines i line rest is = record {
  after = ap (drop 1) is ∙ drop-drop 1 i lines;
  before = take-add i 1 lines ∙ ap (λ (xs : List (List ℕ)). take i lines ++ take 1 xs) (sym is);
  within = omega (arith, length-drop i lines, ap length is);
}

-- what was read of the lines before and of the next one
pub one_more : (n : ℕ) (r read next : Reading) (lines : List (List ℕ)) (line : List ℕ)
    → reading_after_lines r n lines ≡ Ok read → reading_after_words read (words_of line) ≡ Ok next
    → reading_after_lines r n (lines ++ line ∷ []) ≡ Ok next
one_more n r read next [] line h e =
    let same : r ≡ read = cc in
    ap (λ (s : Reading). unless_faulty n (reading_after_words s (words_of line)) (λ r'. reading_after_lines r' (n + 1) [])) same
    ∙ ap (λ (q : Result Reading AsmKind). unless_faulty n q (λ r'. reading_after_lines r' (n + 1) [])) e
one_more n r read next (first ∷ lines) line h e =
    (elim (reading_after_words r (words_of first))
    as (λ q. unless_faulty n q (λ r'. reading_after_lines r' (n + 1) lines) ≡ Ok read
    → unless_faulty n q (λ r'. reading_after_lines r' (n + 1) (lines ++ line ∷ [])) ≡ Ok next) [
      | Ok s ↦ λ k. one_more (n + 1) s read next lines line k e
      | Err f ↦ λ k. absurd cc
    ]) h

-- the line that is next stands there
pub is_there : (lines : List (List ℕ)) (i : ℕ) (line : List ℕ) (rest : List (List ℕ)) → line ∷ rest ≡ drop i lines
    → get_or lines (i + 1 - 1) [] ≡ line
is_there lines i line rest is =
    ap (λ (n : ℕ). get_or lines n []) (let e : i + 1 - 1 ≡ i + 0 = omega arith in e) ∙ sym (get_or-drop i lines 0 [])
    ∙ ap (λ (xs : List (List ℕ)). get_or xs 0 []) (sym is)

-- where memory is wanting
pub is_grown_for : (text : List ℕ) (i : ℕ) (read : Reading) (line : List ℕ)
    → reading_after_lines nothing_read 1 (take i (lines_of text)) ≡ Ok read → i + 1 ≤ length (lines_of text)
    → get_or (lines_of text) (i + 1 - 1) [] ≡ line → MayLackMemory read (reading_after_words read (words_of line))
    → IsGrownFor text (i + 1)
is_grown_for text i read line before within there here = record {
  first = omega arith;
  within = within;
  read = read;
  before = ap (λ (n : ℕ). reading_after_lines nothing_read 1 (take n (lines_of text))) (let e : i + 1 - 1 ≡ i = omega arith in
      e) ∙ before;
  here = subst (λ (l : List ℕ). MayLackMemory read (reading_after_words read (words_of l))) (sym there) here;
}

-- a fault of a line is one of the text
pub of_kind : (k : AsmKind) (V W P Q : Type 0) → MatchKind k V P → (V → W) → (P → Q) → MatchKind k W Q
of_kind kind.Memory V W P Q h g f = g h
of_kind kind.Width V W P Q h g f = f h
of_kind kind.Range V W P Q h g f = f h
of_kind kind.Overlap V W P Q h g f = f h
of_kind kind.Lengths V W P Q h g f = f h
of_kind kind.Scratch V W P Q h g f = f h
of_kind kind.Context V W P Q h g f = f h
of_kind kind.Word V W P Q h g f = f h
of_kind kind.Operands V W P Q h g f = f h
of_kind kind.Number V W P Q h g f = f h
of_kind kind.Name V W P Q h g f = f h
of_kind kind.Twice V W P Q h g f = f h
of_kind kind.TooLong V W P Q h g f = f h

-- what is too long is told so, and for what is longer otherwise memory may be wanting
told_longer : (read longer : Reading) → parts read < parts longer → (b : Bool)
    → IsLineFault read (if b then Err kind.TooLong else Ok longer) (if b then kind.TooLong else kind.Memory)
told_longer read longer grows true = refl
told_longer read longer grows false = grows

-- acts that are refused a growth are too many, or want memory
pub told_growth : (read : Reading) (acts : List Act) → 0 < length acts
    → IsLineFault read (with_acts read acts)
    (if nat_lt MOST_ACTS (length read.acts + length acts) then kind.TooLong else kind.Memory)
told_growth read acts some =
    let longer : Reading = record { fields = read.fields; context = read.context; acts = read.acts ++ acts } in
    subst (λ (n : ℕ). IsLineFault read (if nat_lt MOST_ACTS n then Err kind.TooLong else Ok longer)
    (if nat_lt MOST_ACTS (length read.acts + length acts) then kind.TooLong else kind.Memory))
    (sym (length-append read.acts acts))
    (told_longer read longer (omega (arith, some, length-append read.acts acts))
    (nat_lt MOST_ACTS (length read.acts + length acts)))

-- a definition more is longer
pub longer_by_field : (read : Reading) (defined : NamedField)
    → parts read < length (read.fields ++ defined ∷ []) + length read.acts
longer_by_field read defined = omega (arith, length-append read.fields (defined ∷ []))

-- an own fault is told as it is
pub told_as_it_is : (k : AsmKind) (W P : Type 0) → IsOwnFault k → P → MatchKind k W P
told_as_it_is kind.Memory W P own p = absurd own
told_as_it_is kind.Width W P own p = p
told_as_it_is kind.Range W P own p = p
told_as_it_is kind.Overlap W P own p = p
told_as_it_is kind.Lengths W P own p = p
told_as_it_is kind.Scratch W P own p = p
told_as_it_is kind.Context W P own p = p
told_as_it_is kind.Word W P own p = p
told_as_it_is kind.Operands W P own p = p
told_as_it_is kind.Number W P own p = p
told_as_it_is kind.Name W P own p = p
told_as_it_is kind.Twice W P own p = p
told_as_it_is kind.TooLong W P own p = p

-- a line that says an instruction adds it
pub instruction_line : (read : Reading) (line : List ℕ) (nano : Nano) → SaysInstruction line nano
    → reading_after_words read (words_of line) ≡ with_acts read (act.Nano nano ∷ [])
instruction_line read line nano is =
    ap (reading_after_words read) is.words
    ∙ ap (λ (q : Result Nano AsmKind). (q >>= λ n. Ok (statement.Act (act.Nano n))) >>= after_statement read) is.says
