-- A line of a program is read alike whatever acts came before it; so lines run one by one are the run of their text.
use Rattle.std.proofs.Common.{◌≡◌, ℕ, Bool, true, false, cond, ◌||◌, nat_lt, if◌then◌else◌, IfOk}
use Rattle.std.proofs.Common.{Option, Some, None, Result, Ok, Err, List, [], ◌∷◌, ◌++◌, length, codes, bytes_eq}
use Rattle.std.proofs.Common.{refl, ap, ◌∙◌, sym, subst, arith, append-nil, length-append}
use Rattle.std.proofs.lemmas.Bool.Decides.{nat_tests}
use Rattle.std.proofs.lemmas.Bool.{false≢true}
use Rattle.std.specs.Option.{ok_or}
use Rattle.cm_bits.specs.Text.{words_of}
use Rattle.cm_model.specs.declared.act.Act.{Act}
use Rattle.cm_model.specs.Machine.{Machine, run_of}
use Rattle.cm_model.proofs.Runs.{run_of-nil, run_of-append}
use Rattle.cm_array.specs.Acts.{is_late, is_long}
use Rattle.cm_language.specs.declared.macros.Macro.{Macro}
use Rattle.cm_language.specs.declared.fault.MacroFault.{MacroFault}
use Rattle.cm_language.specs.declared.fault.AsmKind.{AsmKind}
use Rattle.cm_language.specs.declared.fault.AsmKind.TheVariants as kind
use Rattle.cm_language.specs.declared.statement.Statement.{Statement}
use Rattle.cm_language.specs.declared.statement.Statement.TheVariants as statement
use Rattle.cm_language.specs.Acts.{acts_of}
use Rattle.cm_language.specs.Faults.{first_fault}
use Rattle.cm_language.specs.Lines.{◌>>=◌, verb_of, statement_of, definition_of}
use Rattle.lab_phrases.specs.declared.phrase.Phrase.{Phrase}
use Rattle.lab_phrases.specs.Acts as phrases
use Rattle.lab_phrases.specs.Faults as faults
use Rattle.lab_source.specs.declared.verb.PhraseVerb.{PhraseVerb}
use Rattle.lab_source.specs.Says as says
use Rattle.lab_source.specs.Expansion.{with_phrase}
use Rattle.cm_language.specs.Program.{MOST_ACTS, Reading, nothing_read, with_acts, with_macro, after_statement}
use Rattle.cm_language.specs.Program.{after_definition, reading_after_words}
use Rattle.cm_session.specs.declared.command.Command.{Command}
use Rattle.cm_session.specs.declared.command.Command.TheVariants as command
use Rattle.cm_session.specs.declared.command.Refusal.{Refusal}
use Rattle.cm_session.specs.Session as session
use Rattle.cm_session.specs.Session.{going}
use Rattle.cm_session.specs.Whole.{asks_poke, is_poke}
use Rattle.lab_front.specs.Asked.{is_of_program, question_of}
use Rattle.lab_front.specs.declared.for_all.Asked.{Asked}
use Rattle.lab_front.specs.declared.for_all.Asked.TheVariants.{Get, GetFlag, GetBuffers, Put, Standing, Clock, Image}
use Rattle.lab_front.specs.declared.for_all.Asked.TheVariants.{Forget}
use Rattle.lab_front.specs.ForAll.{is_for_all, asked_of}
use Rattle.lab_front.specs.Front.{Front, FrontAnswered, front_of, front_opening, without_acts, said, answered_to, for_all_obeyed, for_all}
use Rattle.lab_front.specs.Front.{front_after_line, front_after_lines, read_by, read_more}
use Rattle.lab_front.specs.Laws.{is_program_line, program_lines, is_change, asks_change, changes, HaveNoChange, refuses_acts, AreRun}
use Rattle.lab_front.specs.Laws.{read_lines}
use Rattle.lab_front.specs.Laws.{FrontsRunTheirPrograms}
use Rattle.lab_front.proofs.Saying.{after_said, after_for_all, after_asked}

-- ---- a line is read alike without the acts before it

-- what is read then has the same names and context, and the acts that came behind
record Grows (r : Reading) (apart : Result Reading AsmKind) (after : Reading) : Type 0 where
  pub more : List Act
  pub is : after.acts ≡ r.acts ++ more
  pub alone : apart ≡ Ok (record { fields = after.fields; context = after.context; acts = more })

few : (first more : List Act) → nat_lt MOST_ACTS (length (first ++ more)) ≡ false
    → nat_lt MOST_ACTS (length more) ≡ false
few first more h = grind (arith, nat_tests, h, length-append first more)

acts_grow : (r : Reading) (acts : List Act) → IfOk (with_acts r acts) (Grows r (with_acts (without_acts r) acts))
acts_grow r acts = by (nat_lt MOST_ACTS (length (r.acts ++ acts))) refl where
  by : (b : Bool) → nat_lt MOST_ACTS (length (r.acts ++ acts)) ≡ b
      → IfOk {E = AsmKind}
      (if b then Err kind.TooLong else Ok (record { fields = r.fields; context = r.context; acts = r.acts ++ acts }))
      (Grows r (with_acts (without_acts r) acts))
  by true h = tt
  by false h = record {
    more = acts;
    is = refl;
    alone = ap (λ (b : Bool). if b then Err kind.TooLong
        else Ok (record { fields = r.fields; context = r.context; acts = acts })) (few r.acts acts h);
  }

macro_grows : (r : Reading) (m : Macro) (o : Option MacroFault)
    → IfOk (with_macro r m o) (Grows r (with_macro (without_acts r) m o))
macro_grows r m (Some fault) = tt
macro_grows r m None = acts_grow r (acts_of m r.context)

statement_grows : (r : Reading) (s : Statement)
    → IfOk (after_statement r s) (Grows r (after_statement (without_acts r) s))
statement_grows r (statement.Context c) = record { more = []; is = sym (append-nil r.acts); alone = refl }
statement_grows r (statement.Macro m) = macro_grows r m (first_fault m r.context)
statement_grows r (statement.Act a) = acts_grow r (a ∷ [])

-- a step that was right is followed alike
bound_grows : {A : Type 0} (r : Reading) (x : Result A AsmKind) (f f' : A → Result Reading AsmKind)
    → ((a : A) → IfOk (f a) (Grows r (f' a))) → IfOk (x >>= f) (Grows r (x >>= f'))
bound_grows r (Ok a) f f' h = h a
bound_grows r (Err e) f f' h = tt

words_grow : (r : Reading) (words : List (List ℕ))
    → IfOk (reading_after_words r words) (Grows r (reading_after_words (without_acts r) words))
words_grow r [] = record { more = []; is = sym (append-nil r.acts); alone = refl }
words_grow r (word ∷ operands) = by (bytes_eq word (codes "field")) where
  by : (b : Bool)
      → IfOk
      (if b then after_definition r operands else
      (ok_or (verb_of word) kind.Word >>= λ v. statement_of r.fields v operands >>= after_statement r))
      (Grows r (if b then after_definition (without_acts r) operands else
      (ok_or (verb_of word) kind.Word >>= λ v. statement_of r.fields v operands >>= after_statement (without_acts r))))
  by true = bound_grows r (definition_of r.fields operands) _ _
      (λ defined. record { more = []; is = sym (append-nil r.acts); alone = refl })
  by false = bound_grows r (ok_or (verb_of word) kind.Word) _ _
      (λ v. bound_grows r (statement_of r.fields v operands) (after_statement r) (after_statement (without_acts r))
      (λ s. statement_grows r s))

phrase_grows : (r : Reading) (said : Phrase) (o : Option MacroFault)
    → IfOk (with_phrase r said o) (Grows r (with_phrase (without_acts r) said o))
phrase_grows r said (Some fault) = tt
phrase_grows r said None = acts_grow r (phrases.phrase_acts said r.context)

more_grows : (r : Reading) (words : List (List ℕ))
    → IfOk (read_more r words) (Grows r (read_more (without_acts r) words))
more_grows r words = by (says.phrase_verb_of words) where
  by : (o : Option PhraseVerb) → IfOk (read_by r o words) (Grows r (read_by (without_acts r) o words))
  by None = words_grow r words
  by (Some asked) =
      bound_grows r (says.phrase_of r.fields asked words) _ _
      (λ said. phrase_grows r said (faults.first_phrase_fault said r.context))

grown : (r after : Reading) (words : List (List ℕ)) → read_more r words ≡ Ok after
    → Grows r (read_more (without_acts r) words) after
grown r after words is =
    subst (λ (q : Result Reading AsmKind). IfOk q (Grows r (read_more (without_acts r) words))) is (more_grows r words)

-- ---- a question leaves the machine

unpoked : (n cap : ℕ) (machine : Machine) (it : Command) → is_poke it ≡ false
    → (session.obeyed n cap [] (session.opening machine 0) it).session.machine ≡ machine
unfolding going
unpoked n cap machine command.Step other = refl
unpoked n cap machine command.Run other = refl
unpoked n cap machine (command.Break i) other = refl
unpoked n cap machine (command.Clear i) other = refl
unpoked n cap machine command.WireOn other = refl
unpoked n cap machine command.WireOff other = refl
unpoked n cap machine command.WireShow other = refl
unpoked n cap machine (command.Field place bits) other = refl
unpoked n cap machine (command.Flag place number) other = refl
unpoked n cap machine (command.Poke place address b) other = absurd (false≢true (sym other))
unpoked n cap machine (command.PokeFlag place number b) other = absurd (false≢true (sym other))
unpoked n cap machine (command.Buffer c) other = refl
unpoked n cap machine (command.Find tag) other = refl
unpoked n cap machine (command.Events c) other = refl
unpoked n cap machine command.Rule other = refl

question_keeps : (n cap : ℕ) (machine : Machine) (q : Result (Option Command) Refusal) → asks_poke q ≡ false
    → (answered_to n cap machine q).session.machine ≡ machine
question_keeps n cap machine (Err refusal) pokeless = refl
question_keeps n cap machine (Ok None) pokeless = refl
question_keeps n cap machine (Ok (Some it)) pokeless = unpoked n cap machine it pokeless

-- and so does what is told of all processors
untouched : (n cap : ℕ) (machine : Machine) (it : Asked) (numbers : List ℕ) → is_change it ≡ false
    → (for_all_obeyed n cap machine it numbers).machine ≡ machine
untouched n cap machine (Get field) numbers other = refl
untouched n cap machine (GetFlag number) numbers other = refl
untouched n cap machine GetBuffers numbers other = refl
untouched n cap machine (Put field) numbers other = absurd (false≢true (sym other))
untouched n cap machine Standing numbers other = refl
untouched n cap machine Clock numbers other = refl
untouched n cap machine Image numbers other = refl
untouched n cap machine Forget numbers other = absurd (false≢true (sym other))

all_keep : (n cap : ℕ) (machine : Machine) (read : Reading) (q : Result (Asked × List ℕ) AsmKind)
    → asks_change q ≡ false → (for_all n cap (front_of machine read) q).front ≡ front_of machine read
all_keep n cap machine read (Err fault) changeless = refl
all_keep n cap machine read (Ok it) changeless =
    ap (λ (m : Machine). front_of m read) (untouched n cap machine it.0 it.1 changeless)

-- ---- lines

-- the front end after the text so far
abbrev come : ℕ → ℕ → Machine → Reading → Front
come n cap start r = front_of (run_of n cap start r.acts) (without_acts r)

-- a line of the program
program_line_runs : (n cap : ℕ) (start : Machine) (r after : Reading) (line : List ℕ)
    → is_of_program (words_of line) ≡ true → read_more r (words_of line) ≡ Ok after
    → refuses_acts (come n cap start r) (read_more (without_acts r) (words_of line)) ≡ false
    → (front_after_line n cap (come n cap start r) line).front ≡ come n cap start after
program_line_runs n cap start r after line of_program reads taken =
    let front : Front = come n cap start r in
    let grows : Grows r (read_more (without_acts r) (words_of line)) after = grown r after (words_of line) reads in
    let free : (is_long grows.more || is_late front.machine.clock grows.more) ≡ false =
    sym (ap (refuses_acts front) grows.alone) ∙ taken in
    ap (λ (a : FrontAnswered). a.front) (after_said n cap front line of_program)
    ∙ ap (λ (q : Result Reading AsmKind). (said n cap front q).front) grows.alone
    ∙ ap (λ (b : Bool). front_of (if b then front.machine else run_of n cap front.machine grows.more) (without_acts after))
    free
    ∙ ap (λ (m : Machine). front_of m (without_acts after))
    (sym (run_of-append n cap start r.acts grows.more) ∙ ap (run_of n cap start) (sym grows.is))

-- a question, or a line for all processors that tells something
question_line_keeps : (n cap : ℕ) (start : Machine) (r : Reading) (line : List ℕ)
    → is_of_program (words_of line) ≡ false → changes n (words_of line) ≡ false
    → (front_after_line n cap (come n cap start r) line).front ≡ come n cap start r
question_line_keeps n cap start r line other same = by (is_for_all (words_of line)) refl same where
  by : (b : Bool) → is_for_all (words_of line) ≡ b
      → (if b then asks_change (asked_of n (words_of line)) else asks_poke (question_of n (words_of line))) ≡ false
      → (front_after_line n cap (come n cap start r) line).front ≡ come n cap start r
  by true is changeless =
      ap (λ (a : FrontAnswered). a.front) (after_for_all n cap (come n cap start r) line other is)
      ∙ all_keep n cap (run_of n cap start r.acts) (without_acts r) (asked_of n (words_of line)) changeless
  by false is pokeless =
      ap (λ (a : FrontAnswered). a.front) (after_asked n cap (come n cap start r) line other is)
      ∙ ap (λ (m : Machine). front_of m (without_acts r))
      (question_keeps n cap (run_of n cap start r.acts) (question_of n (words_of line)) pokeless)

-- what a text that is accepted says
abbrev read_or : Reading → Result Reading AsmKind → Reading
read_or other (Ok r) = r
read_or other (Err fault) = other

-- from here on the lines run
abbrev RunsOn : ℕ → ℕ → Machine → Reading → List (List ℕ) → Type 0
RunsOn n cap start read lines = (s : Reading) → read_lines s (program_lines lines) ≡ Ok read
    → AreRun n cap (come n cap start s) lines → (front_after_lines n cap (come n cap start s) lines).front ≡ come n cap start read

onwards : (n cap : ℕ) (start : Machine) (read s : Reading) (there : Front) (lines : List (List ℕ))
    → there ≡ come n cap start s → RunsOn n cap start read lines
    → read_lines s (program_lines lines) ≡ Ok read → AreRun n cap there lines
    → (front_after_lines n cap there lines).front ≡ come n cap start read
onwards n cap start read s there lines is runs reads run =
    ap (λ (f : Front). (front_after_lines n cap f lines).front) is
    ∙ runs s reads (subst (λ (f : Front). AreRun n cap f lines) is run)

-- behind a line of the program
program_goes : (n cap : ℕ) (start : Machine) (r read : Reading) (line : List ℕ) (lines : List (List ℕ))
    (q : Result Reading AsmKind) → RunsOn n cap start read lines → is_of_program (words_of line) ≡ true
    → read_more r (words_of line) ≡ q → AreRun n cap (come n cap start r) (line ∷ lines)
    → (q >>= λ s. read_lines s (program_lines lines)) ≡ Ok read
    → (front_after_lines n cap (front_after_line n cap (come n cap start r) line).front lines).front ≡ come n cap start read
program_goes n cap start r read line lines (Err fault) runs of_program is run h = absurd cc
program_goes n cap start r read line lines (Ok s) runs of_program is run h =
    onwards n cap start read s (front_after_line n cap (come n cap start r) line).front lines
    (program_line_runs n cap start r s line of_program is run.0) runs h run.1

-- behind any line
line_goes : (n cap : ℕ) (start : Machine) (r read : Reading) (line : List ℕ) (lines : List (List ℕ)) (b : Bool)
    → RunsOn n cap start read lines → is_of_program (words_of line) ≡ b
    → changes n (words_of line) ≡ false → AreRun n cap (come n cap start r) (line ∷ lines)
    → read_lines r (cond b (line ∷ program_lines lines) (program_lines lines)) ≡ Ok read
    → (front_after_lines n cap (front_after_line n cap (come n cap start r) line).front lines).front ≡ come n cap start read
line_goes n cap start r read line lines true runs is pokeless run h =
    program_goes n cap start r read line lines (read_more r (words_of line)) runs is refl run h
line_goes n cap start r read line lines false runs is pokeless run h =
    onwards n cap start read r (front_after_line n cap (come n cap start r) line).front lines
    (question_line_keeps n cap start r line is pokeless) runs h run.1

lines_run : (n cap : ℕ) (start : Machine) (r read : Reading) (lines : List (List ℕ))
    → read_lines r (program_lines lines) ≡ Ok read → HaveNoChange n lines
    → AreRun n cap (come n cap start r) lines
    → (front_after_lines n cap (come n cap start r) lines).front ≡ come n cap start read
unfolding front_after_lines
lines_run n cap start r read [] reads pokeless run = ap (λ q. come n cap start (read_or r q)) reads
lines_run n cap start r read (line ∷ lines) reads pokeless run =
    line_goes n cap start r read line lines (is_program_line line)
    (λ s rest on. lines_run n cap start s read lines rest pokeless.1 on) refl pokeless.0 run reads

pub fronts_run_their_programs : FrontsRunTheirPrograms
fronts_run_their_programs n cap start lines read whole reads pokeless run =
    let first : front_opening start ≡ come n cap start nothing_read =
    ap (λ (m : Machine). front_of m nothing_read) (sym (run_of-nil n cap start whole.buffer_count)) in
    ap (λ (f : Front). (front_after_lines n cap f lines).front) first
    ∙ lines_run n cap start nothing_read read lines reads pokeless
    (subst (λ (f : Front). AreRun n cap f lines) first run)
