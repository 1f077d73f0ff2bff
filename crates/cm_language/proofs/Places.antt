-- The acts of a text's macro stand in its program.
use Rattle.std.proofs.Common.{◌≡◌, ℕ, ◌+◌, Bool, true, false, Option, None, Some, Result, Ok, Err, List, [], ◌∷◌, ◌++◌}
use Rattle.std.proofs.Common.{length, take, drop, refl, sym, ap, ◌∙◌, subst, arith, append_assoc, append-nil}
use Rattle.std.specs.Prelude.{if◌then◌else◌, codes, bytes_eq, nat_lt}
use Rattle.std.specs.Option.{ok_or}
use Rattle.std.specs.Result.{IfOk}
use Rattle.std.proofs.lemmas.List.{drop_at, take_at}
use Rattle.cm_bits.specs.Text.{words_of}
use Rattle.cm_model.specs.declared.act.Act.{Act}
use Rattle.cm_language.specs.declared.macros.Macro.{Macro}
use Rattle.cm_language.specs.declared.statement.Statement.{Statement}
use Rattle.cm_language.specs.declared.statement.Statement.TheVariants as statement
use Rattle.cm_language.specs.declared.fault.MacroFault.{MacroFault}
use Rattle.cm_language.specs.declared.fault.AsmKind.{AsmKind}
use Rattle.cm_language.specs.declared.fault.AsmKind.TheVariants as kind
use Rattle.cm_language.specs.declared.fault.AsmFault.{AsmFault}
use Rattle.cm_language.specs.Acts.{acts_of}
use Rattle.cm_language.specs.Faults.{first_fault}
use Rattle.cm_language.specs.Laws.{HasFields}
use Rattle.cm_language.specs.Lines.{◌>>=◌, verb_of, statement_of, definition_of}
use Rattle.cm_language.specs.Program.{MOST_ACTS, Reading, ProgramText, nothing_read, within_length, with_acts}
use Rattle.cm_language.specs.Program.{with_macro}
use Rattle.cm_language.specs.Program.{after_statement, after_definition, reading_after_words, unless_faulty, reading_after_lines}
use Rattle.cm_language.specs.Program.{program_read, program_of}
use Rattle.cm_language.specs.Places.{MacroStandsAt, Says, MacrosStandInTheirProgram}
use Rattle.cm_language.proofs.ProgramParts.{are_fields}
use Rattle.cm_language.proofs.OperandsRead.{IsSaid, if_ok-then, any_ok}
use Rattle.cm_language.proofs.StatementsRead.{statement_ok}
use Rattle.cm_language.proofs.TextsRead.{IsReading, after_lines_ok}

-- ---- acts only come behind

-- what is read later has the acts of before, and more
record Continues (before after : Reading) : Type 0 where
  pub more : List Act
  pub is : after.acts ≡ before.acts ++ more

goes_on : (a b c : Reading) → Continues a b → Continues b c → Continues a c
goes_on a b c h k = record {
  more = h.more ++ k.more;
  is = k.is ∙ (ap (λ acts. acts ++ k.more) h.is ∙ append_assoc a.acts h.more k.more);
}

-- the same acts
stays : (before after : Reading) → after.acts ≡ before.acts → Continues before after
stays before after same = record { more = []; is = same ∙ sym (append-nil before.acts) }

within_length_goes_on : (r : Reading) (P : Reading → Type 0) → P r → IfOk (within_length r) P
within_length_goes_on r P h = by (nat_lt MOST_ACTS (length r.acts)) where
  by : (b : Bool) → IfOk (if b then Err kind.TooLong else Ok r) P
  by true = tt
  by false = h

with_acts_goes_on : (r : Reading) (acts : List Act) → IfOk (with_acts r acts) (Continues r)
with_acts_goes_on r acts =
    within_length_goes_on (record { fields = r.fields; context = r.context; acts = r.acts ++ acts }) (Continues r)
    (record { more = acts; is = refl })

with_macro_goes_on : (r : Reading) (m : Macro) (o : Option MacroFault) → IfOk (with_macro r m o) (Continues r)
with_macro_goes_on r m (Some fault) = tt
with_macro_goes_on r m None = with_acts_goes_on r (acts_of m r.context)

statement_goes_on : (r : Reading) (s : Statement) → IfOk (after_statement r s) (Continues r)
statement_goes_on r (statement.Context c) = stays r (record { fields = r.fields; context = c; acts = r.acts }) refl
statement_goes_on r (statement.Macro m) = with_macro_goes_on r m (first_fault m r.context)
statement_goes_on r (statement.Act a) = with_acts_goes_on r (a ∷ [])

words_go_on : (r : Reading) (words : List (List ℕ)) → IfOk (reading_after_words r words) (Continues r)
words_go_on r [] = stays r r refl
words_go_on r (word ∷ operands) = by (bytes_eq word (codes "field")) where
  by : (b : Bool)
      → IfOk
      (if b then after_definition r operands else
      (ok_or (verb_of word) kind.Word >>= λ v. statement_of r.fields v operands >>= after_statement r)) (Continues r)
  by true =
      if_ok-then (definition_of r.fields operands) _ (λ d. Unit {0}) _ (any_ok (definition_of r.fields operands))
      (λ defined any. stays r
      (record { fields = r.fields ++ defined ∷ []; context = r.context; acts = r.acts }) refl)
  by false =
      if_ok-then (ok_or (verb_of word) kind.Word) _ (λ v. Unit {0}) _ (any_ok (ok_or (verb_of word) kind.Word))
      (λ v any.
      if_ok-then (statement_of r.fields v operands) (after_statement r) (λ s. Unit {0}) _
      (any_ok (statement_of r.fields v operands)) (λ s said. statement_goes_on r s))

later_goes_on : (r r' : Reading) (q : Result Reading AsmFault) → Continues r r' → IfOk q (Continues r')
    → IfOk q (Continues r)
later_goes_on r r' (Ok z) h k = goes_on r r' z h k
later_goes_on r r' (Err fault) h k = tt

line_goes_on : (r : Reading) (n : ℕ) (q : Result Reading AsmKind) (after : Reading → Result Reading AsmFault)
    → IfOk q (Continues r) → ((r' : Reading) → IfOk (after r') (Continues r'))
    → IfOk (unless_faulty n q after) (Continues r)
line_goes_on r n (Ok r') after h k = later_goes_on r r' (after r') h (k r')
line_goes_on r n (Err fault) after h k = tt

lines_go_on : (r : Reading) (n : ℕ) (lines : List (List ℕ)) → IfOk (reading_after_lines r n lines) (Continues r)
lines_go_on r n [] = stays r r refl
lines_go_on r n (line ∷ lines) =
    line_goes_on r n (reading_after_words r (words_of line)) (λ r'. reading_after_lines r' (n + 1) lines)
    (words_go_on r (words_of line)) (λ r'. lines_go_on r' (n + 1) lines)

-- ---- lines in two parts

-- the second part is read from what the first has said
record IsReadOn (r' : Reading) (rest : List (List ℕ)) (read : Result Reading AsmFault) : Type 0 where
  pub number : ℕ
  pub is : read ≡ reading_after_lines r' number rest

read_line : (r' : Reading) (n : ℕ) (q : Result Reading AsmKind) (lines rest : List (List ℕ))
    → unless_faulty n q (λ z. reading_after_lines z (n + 1) lines) ≡ Ok r'
    → ((z : Reading) → reading_after_lines z (n + 1) lines ≡ Ok r' → IsReadOn r' rest (reading_after_lines z (n + 1) (lines ++ rest)))
    → IsReadOn r' rest (unless_faulty n q (λ z. reading_after_lines z (n + 1) (lines ++ rest)))
read_line r' n (Ok z) lines rest e h = h z e
read_line r' n (Err fault) lines rest e h = absurd cc

read_on : (r r' : Reading) (n : ℕ) (lines rest : List (List ℕ)) → reading_after_lines r n lines ≡ Ok r'
    → IsReadOn r' rest (reading_after_lines r n (lines ++ rest))
read_on r r' n [] rest e =
    let same : r ≡ r' = cc in
    record { number = n; is = ap (λ z. reading_after_lines z n rest) same }
read_on r r' n (line ∷ lines) rest e =
    read_line r' n (reading_after_words r (words_of line)) lines rest e (λ z h. read_on z r' (n + 1) lines rest h)

-- ---- a macro's line

then_then : {A B C : Type 0} (x : Result A AsmKind) (f : A → Result B AsmKind) (g : B → Result C AsmKind)
    → (x >>= λ a. f a >>= g) ≡ ((x >>= f) >>= g)
then_then (Ok a) f g = refl
then_then (Err e) f g = refl

-- it is read as the macro
read_as_macro : (r : Reading) (words : List (List ℕ)) (m : Macro) → Says r words m
    → reading_after_words r words ≡ with_macro r m (first_fault m r.context)
read_as_macro r [] m says = elim says [ ]
read_as_macro r (word ∷ operands) m says =
    rw says.0
    (then_then (ok_or (verb_of word) kind.Word) (λ v. statement_of r.fields v operands) (after_statement r)
    ∙ ap (λ x. x >>= after_statement r) says.1)

-- its fields are fields
has_fields : (r : Reading) (words : List (List ℕ)) (m : Macro) → IsReading r → Says r words m → HasFields m
has_fields r [] m is says = elim says [ ]
has_fields r (word ∷ operands) m is says =
    let said : IfOk (ok_or (verb_of word) kind.Word >>= λ v. statement_of r.fields v operands) IsSaid =
    if_ok-then (ok_or (verb_of word) kind.Word) (λ v. statement_of r.fields v operands) (λ v. Unit {0}) IsSaid
    (any_ok (ok_or (verb_of word) kind.Word))
    (λ v any. statement_ok r.fields v operands (are_fields [] r.fields is.fields)) in
    (subst (λ (x : Result Statement AsmKind). IfOk x IsSaid) says.1 said).0

-- a macro that is read is not refused, and its acts come next
record IsTaken (r after : Reading) (m : Macro) : Type 0 where
  pub accepted : first_fault m r.context ≡ None
  pub acts : after.acts ≡ r.acts ++ acts_of m r.context

with_acts_are : (r after : Reading) (acts : List Act) → with_acts r acts ≡ Ok after → after.acts ≡ r.acts ++ acts
with_acts_are r after acts e = by (nat_lt MOST_ACTS (length (r.acts ++ acts))) e where
  by : (b : Bool)
      → (if b then Err kind.TooLong else Ok (record { fields = r.fields; context = r.context; acts = r.acts ++ acts }))
      ≡ Ok after → after.acts ≡ r.acts ++ acts
  by true e = absurd cc
  by false e = cc

is_taken : (r after : Reading) (m : Macro) (o : Option MacroFault) → first_fault m r.context ≡ o
    → with_macro r m o ≡ Ok after → IsTaken r after m
is_taken r after m None o e = record { accepted = o; acts = with_acts_are r after (acts_of m r.context) e }
is_taken r after m (Some fault) o e = absurd cc

-- ---- the law

read_acts : (r : Reading) (q : Result Reading AsmFault) (program : ProgramText) → IfOk q (Continues r)
    → program_read q ≡ Ok program → (more : List Act) × (program.acts ≡ r.acts ++ more)
read_acts r (Ok z) program h e =
    let same : z.acts ≡ program.acts = cc in
    (h.more, sym same ∙ h.is)
read_acts r (Err fault) program h e = absurd cc

stands : (r : Reading) (m : Macro) (k : ℕ) (q : Result Reading AsmKind) (rest : List (List ℕ)) (program : ProgramText)
    → HasFields m → q ≡ with_macro r m (first_fault m r.context)
    → program_read (unless_faulty k q (λ z. reading_after_lines z (k + 1) rest)) ≡ Ok program
    → MacroStandsAt program.acts (length r.acts) m r.context
stands r m k (Err fault) rest program fields is e = absurd cc
stands r m k (Ok after) rest program fields is e =
    let taken : IsTaken r after m = is_taken r after m (first_fault m r.context) refl (sym is) in
    let behind = read_acts after (reading_after_lines after (k + 1) rest) program (lines_go_on after (k + 1) rest) e in
    let acts : List Act = acts_of m r.context in
    let all : program.acts ≡ r.acts ++ (acts ++ behind.0) =
    behind.1 ∙ (ap (λ z. z ++ behind.0) taken.acts ∙ append_assoc r.acts acts behind.0) in
    record {
      fields = fields;
      accepted = taken.accepted;
      there = ap (λ z. take (length acts) (drop (length r.acts) z)) all
          ∙ (ap (take (length acts)) (drop_at r.acts (acts ++ behind.0) (length r.acts) refl)
          ∙ take_at acts behind.0 (length acts) refl);
    }

reading_of : (r : Reading) (q : Result Reading AsmFault) → IfOk q IsReading → q ≡ Ok r → IsReading r
reading_of r (Ok z) h e =
    let same : z ≡ r = cc in
    subst IsReading same h
reading_of r (Err fault) h e = absurd cc

pub macros_stand : MacrosStandInTheirProgram
unfolding program_of
macros_stand text program r m e it =
    let start : IsReading nothing_read = record { fields = tt; context = tt; acts = tt; few = omega arith } in
    let reading : IsReading r =
    reading_of r (reading_after_lines nothing_read 1 it.before) (after_lines_ok nothing_read 1 it.before start) it.read in
    let on : IsReadOn r (it.line ∷ it.after) (reading_after_lines nothing_read 1 (it.before ++ it.line ∷ it.after)) =
    read_on nothing_read r 1 it.before (it.line ∷ it.after) it.read in
    stands r m on.number (reading_after_words r (words_of it.line)) it.after program
    (has_fields r (words_of it.line) m reading it.says) (read_as_macro r (words_of it.line) m it.says)
    (sym (ap program_read (ap (reading_after_lines nothing_read 1) it.lines ∙ on.is)) ∙ e)
