-- Lines that are done and answered, one more, and those at which a front end breaks off.
use Rattle.std.proofs.Common.{◌≡◌, ℕ, ◌+◌, ◌≤◌, List, [], ◌∷◌, ◌++◌, length, take, Option, Some, None, inl, inr}
use Rattle.std.proofs.Common.{refl, ap, ◌∙◌, sym, subst, arith, append_assoc, append-nil, length-append, Err}
use Rattle.std.proofs.KnownBytes.{Appends-trans, Appends-nil}
use Rattle.std.specs.Io.KnownBytes.{Appends, append_known}
use Rattle.cm_bits.specs.Text.{lines_of}
use Rattle.cm_model.specs.Machine.{Machine}
use Rattle.cm_session.specs.declared.fault.SessionFault.{SessionFault}
use Rattle.cm_session.specs.declared.fault.SessionFault.TheVariants.{Read, Write, TooMuch, Memory, NoThread}
use Rattle.cm_debug.specs.BufferedOutput.{IsShortWriteAfter, AbortsBetween}
use Rattle.cm_debug.proofs.Sending.{front_written, all_written, with_none}
use Rattle.lab_front.specs.Front.{Front, FrontAnswered, front_opening, front_answered_with, front_preceded_by}
use Rattle.lab_front.specs.Front.{front_after_line, front_after_lines, front_answers}
use Rattle.lab_front.specs.Ends.{LINE_LIMIT, ended_size, AreLeadingLines, IsAnswered, IsStopped, IsFrontAborted, EndsOver}
use Rattle.lab_front.specs.Hearing.{LineAborts}
use Rattle.lab_front.proofs.Lines.{ended_size-more}

-- ---- lines in two parts

front_preceded_by-twice : (first second : List ℕ) (rest : FrontAnswered)
    → front_preceded_by first (front_preceded_by second rest) ≡ front_preceded_by (first ++ second) rest
front_preceded_by-twice first second rest = ap (front_answered_with rest.front) (sym (append_assoc first second rest.answer))

-- the second part is done by the front end that the first part leaves
pub front_after_lines-append : (n cap : ℕ) (front : Front) (lines more : List (List ℕ))
    → front_after_lines n cap front (lines ++ more)
    ≡ front_preceded_by (front_after_lines n cap front lines).answer
    (front_after_lines n cap (front_after_lines n cap front lines).front more)
unfolding front_after_lines
front_after_lines-append n cap front [] more = refl
front_after_lines-append n cap front (line ∷ lines) more =
    let one : FrontAnswered = front_after_line n cap front line in
    ap (front_preceded_by one.answer) (front_after_lines-append n cap one.front lines more)
    ∙ front_preceded_by-twice one.answer (front_after_lines n cap one.front lines).answer _

pub after_one : (n cap : ℕ) (front : Front) (line : List ℕ)
    → front_after_lines n cap front (line ∷ []) ≡ front_after_line n cap front line
unfolding front_after_lines
after_one n cap front line =
    ap (front_answered_with (front_after_line n cap front line).front) (append-nil (front_after_line n cap front line).answer)

abbrev pub all : ℕ → ℕ → Machine → List (List ℕ) → FrontAnswered
all n cap start lines = front_after_lines n cap (front_opening start) lines

all-more : (n cap : ℕ) (start : Machine) (lines : List (List ℕ)) (line : List ℕ)
    → all n cap start (lines ++ line ∷ [])
    ≡ front_preceded_by (all n cap start lines).answer (front_after_line n cap (all n cap start lines).front line)
all-more n cap start lines line =
    front_after_lines-append n cap (front_opening start) lines (line ∷ [])
    ∙ ap (front_preceded_by (all n cap start lines).answer) (after_one n cap (all n cap start lines).front line)

-- ---- what is told

-- these lines are done: a sink holds the answers, or would, had it what is kept too
pub record IsTold (n cap : ℕ) (start : Machine) (out_before : Option (List ℕ)) (done : List (List ℕ)) (front : Front)
    (out_after : Option (List ℕ)) (sent : ℕ) (kept : List ℕ) : Type 0 where
  pub written : Appends out_before (append_known out_after kept) (front_answers n cap start done)
  pub sent_is : sent + length kept ≡ length (front_answers n cap start done)
  pub front_is : front ≡ (all n cap start done).front

-- before the first line
pub nothing_told : (n cap : ℕ) (start : Machine) (out_before : Option (List ℕ)) (sent : ℕ) (kept : List ℕ) → sent ≡ 0
    → kept ≡ [] → IsTold n cap start out_before [] (front_opening start) out_before sent kept
unfolding front_after_lines
nothing_told n cap start out_before sent kept zero none = record {
  written =
      subst (λ (known : Option (List ℕ)). Appends out_before known []) (sym (with_none out_before kept none)) (Appends-nil out_before);
  sent_is = omega (arith, zero, ap length none);
  front_is = refl;
}

-- one line more
pub told_line : (n cap : ℕ) (start : Machine) (out_before : Option (List ℕ)) (done : List (List ℕ)) (front after : Front)
    (out_after on : Option (List ℕ)) (sent now : ℕ) (kept gathered line : List ℕ)
    → IsTold n cap start out_before done front out_after sent kept → after ≡ (front_after_line n cap front line).front
    → Appends (append_known out_after kept) (append_known on gathered) (front_after_line n cap front line).answer
    → now + length gathered ≡ sent + length kept + length (front_after_line n cap front line).answer
    → IsTold n cap start out_before (done ++ line ∷ []) after on now gathered
told_line n cap start out_before done front after out_after on sent now kept gathered line told' is wrote count =
    let one : FrontAnswered = front_after_line n cap front line in
    let same : one ≡ front_after_line n cap (all n cap start done).front line =
    ap (λ (f : Front). front_after_line n cap f line) told'.front_is in
    let whole : all n cap start (done ++ line ∷ []) ≡ front_preceded_by (all n cap start done).answer one =
    all-more n cap start done line ∙ ap (front_preceded_by (all n cap start done).answer) (sym same) in
    record {
      written = subst (Appends out_before (append_known on gathered)) (sym (ap (λ (a : FrontAnswered). a.answer) whole))
          (Appends-trans out_before (append_known out_after kept) (append_known on gathered) _ _ told'.written wrote);
      sent_is = count ∙ ap (λ (k : ℕ). k + length one.answer) told'.sent_is
          ∙ sym (length-append (all n cap start done).answer one.answer)
          ∙ sym (ap (λ (a : FrontAnswered). length a.answer) whole);
      front_is = is ∙ sym (ap (λ (a : FrontAnswered). a.front) whole);
    }

-- an answer that is only kept
known_more : (out_after : Option (List ℕ)) (kept answer : List ℕ)
    → Appends (append_known out_after kept) (append_known out_after (kept ++ answer)) answer
known_more None kept answer = tt
known_more (Some xs) kept answer = sym (append_assoc xs kept answer)

pub told_kept : (n cap : ℕ) (start : Machine) (out_before : Option (List ℕ)) (done : List (List ℕ)) (front : Front)
    (out_after : Option (List ℕ)) (sent : ℕ) (kept line : List ℕ) → IsTold n cap start out_before done front out_after sent kept
    → IsTold n cap start out_before (done ++ line ∷ []) (front_after_line n cap front line).front out_after sent
    (kept ++ (front_after_line n cap front line).answer)
told_kept n cap start out_before done front out_after sent kept line told' =
    told_line n cap start out_before done front (front_after_line n cap front line).front out_after out_after sent sent kept
    (kept ++ (front_after_line n cap front line).answer) line told' refl
    (known_more out_after kept (front_after_line n cap front line).answer)
    (omega (arith, length-append kept (front_after_line n cap front line).answer))

-- what was kept is written
pub told_sent : (n cap : ℕ) (start : Machine) (out_before : Option (List ℕ)) (done : List (List ℕ)) (front : Front)
    (out_after on : Option (List ℕ)) (sent now : ℕ) (kept left : List ℕ) → Appends out_after on kept → left ≡ []
    → now ≡ sent + length kept → IsTold n cap start out_before done front out_after sent kept
    → IsTold n cap start out_before done front on now left
told_sent n cap start out_before done front out_after on sent now kept left wrote none count told' = record {
  written = subst (λ (known : Option (List ℕ)). Appends out_before known (front_answers n cap start done))
      (sym (with_none on left none)) (all_written out_before out_after on kept (front_answers n cap start done) told'.written wrote);
  sent_is = omega (arith, count, ap length none, told'.sent_is);
  front_is = told'.front_is;
}

-- ---- how it ends

-- all lines are answered, and nothing is kept
pub answered_all : (n cap : ℕ) (start : Machine) (out_before : Option (List ℕ)) (done : List (List ℕ)) (front : Front)
    (out_after : Option (List ℕ)) (sent : ℕ) (kept : List ℕ) → kept ≡ []
    → IsTold n cap start out_before done front out_after sent kept → IsAnswered n cap start out_before done front.machine out_after
answered_all n cap start out_before done front out_after sent kept none told' = record {
  written = subst (λ (known : Option (List ℕ)). Appends out_before known (front_answers n cap start done))
      (with_none out_after kept none) told'.written;
  machine_is = ap (λ (f : Front). f.machine) told'.front_is;
}

-- a write was cut off
pub stopped : (n cap : ℕ) (start : Machine) (out_before : Option (List ℕ)) (taken : List ℕ) (done : List (List ℕ)) (front : Front)
    (out_after on : Option (List ℕ)) (sent : ℕ) (kept : List ℕ) (count : ℕ) → AreLeadingLines taken done
    → IsTold n cap start out_before done front out_after sent kept → IsShortWriteAfter sent kept out_after on count
    → IsStopped n cap start out_before taken front.machine on count
stopped n cap start out_before taken done front out_after on sent kept count first told' cut =
    let said : List ℕ = front_answers n cap start done in
    let none : kept ++ [] ≡ kept = append-nil kept in
    record {
      done = done;
      first = first;
      within = omega (arith, cut.count_is, cut.within, told'.sent_is);
      written = subst (Appends out_before on) (λ i. take (sym cut.count_is i) (append-nil said i))
          (front_written out_before out_after on kept said [] [] sent cut.part told'.written told'.sent_is
          (omega (arith, cut.within, ap length none))
          (subst (λ (xs : List ℕ). Appends out_after on (take cut.part xs)) (sym none) cut.written));
      machine_is = ap (λ (f : Front). f.machine) told'.front_is;
    }

-- something was wanting, and what was kept is written
pub broken_off : (n cap : ℕ) (start : Machine) (out_before : Option (List ℕ)) (taken : List ℕ) (done : List (List ℕ))
    (front : Front) (out_after on : Option (List ℕ)) (sent : ℕ) (kept : List ℕ) → AreLeadingLines taken done
    → IsTold n cap start out_before done front out_after sent kept → Appends out_after on kept
    → IsFrontAborted n cap start out_before taken front.machine on
broken_off n cap start out_before taken done front out_after on sent kept first told' wrote = record {
  done = done;
  first = first;
  answered = record {
    written = all_written out_before out_after on kept (front_answers n cap start done) told'.written wrote;
    machine_is = ap (λ (f : Front). f.machine) told'.front_is;
  };
}

-- a line broke off
pub line_stops : (n cap : ℕ) (start : Machine) (out_before : Option (List ℕ)) (taken : List ℕ)
    (done undone : List (List ℕ)) (front : Front) (out_after on : Option (List ℕ)) (sent : ℕ) (kept line : List ℕ)
    (machine : Machine) (fault : SessionFault) → lines_of taken ≡ (done ++ line ∷ []) ++ undone
    → length taken ≤ ended_size done + (LINE_LIMIT + 1) → IsTold n cap start out_before done front out_after sent kept
    → LineAborts n cap front line sent kept out_after machine on fault
    → EndsOver n cap taken start out_before machine on (Err fault)
line_stops n cap start out_before taken done undone front out_after on sent kept line machine fault parts few told' stops =
    by fault stops where
      before : AreLeadingLines taken done
      before = record { undone = line ∷ undone; lines_are = parts ∙ append_assoc done (line ∷ []) undone; few = few }

      after : AreLeadingLines taken (done ++ line ∷ [])
      after = record { undone = undone; lines_are = parts; few = omega (arith, few, ended_size-more done line) }

      aborted : machine ≡ front.machine → Appends out_after on kept
          → IsFrontAborted n cap start out_before taken machine on
      aborted is wrote = subst (λ (m : Machine). IsFrontAborted n cap start out_before taken m on) (sym is)
          (broken_off n cap start out_before taken done front out_after on sent kept before told' wrote)

      by : (fault : SessionFault) → LineAborts n cap front line sent kept out_after machine on fault
          → EndsOver n cap taken start out_before machine on (Err fault)
      by (Write count) (inl cut) =
          subst (λ (m : Machine). IsStopped n cap start out_before taken m on count) (sym cut.0)
          (stopped n cap start out_before taken done front out_after on sent kept count before told' cut.1)
      by (Write count) (inr cut) =
          subst (λ (m : Machine). IsStopped n cap start out_before taken m on count) (sym cut.0)
          (stopped n cap start out_before taken (done ++ line ∷ []) (front_after_line n cap front line).front out_after on
          sent (kept ++ (front_after_line n cap front line).answer) count after
          (told_kept n cap start out_before done front out_after sent kept line told') cut.1)
      by Memory wants = aborted wants.0 wants.1
      by NoThread wants = aborted wants.0 wants.1
      by Read none = absurd none
      by TooMuch none = absurd none

-- what is wanting before a line
pub wanting : (n cap : ℕ) (front : Front) (line : List ℕ) (sent : ℕ) (kept : List ℕ) (out_after on : Option (List ℕ))
    (machine : Machine) (fault : SessionFault) → AbortsBetween sent kept out_after on fault → machine ≡ front.machine
    → LineAborts n cap front line sent kept out_after machine on fault
wanting n cap front line sent kept out_after on machine (Write count) cut is = inl (is, cut)
wanting n cap front line sent kept out_after on machine Memory wrote is = (is, wrote)
wanting n cap front line sent kept out_after on machine NoThread wrote is = (is, wrote)
wanting n cap front line sent kept out_after on machine Read none is = absurd none
wanting n cap front line sent kept out_after on machine TooMuch none is = absurd none
