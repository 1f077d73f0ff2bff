-- Lines that break off.
use Rattle.std.proofs.Common.{◌≡◌, ℕ, ◌+◌, ◌<◌, ◌⊎◌, inl, inr, List, [], ◌∷◌, ◌++◌, length, take, Option}
use Rattle.std.proofs.Common.{refl, ap, ◌∙◌, sym, subst, arith, append_assoc, append-nil, length-append}
use Rattle.std.proofs.KnownBytes.{Appends-nil}
use Rattle.std.specs.Io.KnownBytes.{Appends, append_known}
use Rattle.cm_model.specs.declared.act.Act.{Act}
use Rattle.cm_model.specs.Machine.{Machine}
use Rattle.cm_session.specs.declared.fault.SessionFault.{SessionFault}
use Rattle.cm_session.specs.declared.fault.SessionFault.TheVariants.{Read, Write, TooMuch, Memory, NoThread}
use Rattle.cm_session.specs.Session.{Session, Answered, preceded_by, opening, after_line, after_lines}
use Rattle.cm_session.specs.Ends.{ended_lines, open_line, IsBeforeOrAmid, IsInFlight, IsStopped, IsAborted}
use Rattle.cm_session.proofs.Lines.{ended_lines-end}
use Rattle.cm_debug.specs.BufferedOutput.{IsShortWriteAfter, AbortsBetween}
use Rattle.cm_debug.specs.Talk.{Talk, Setting, after_all, AreProcessed, AbortsAmong}
use Rattle.cm_debug.specs.Taking.{AbortsIn}
use Rattle.cm_debug.proofs.Lines.{next, lines-more, answers-append, answers-longer}
use Rattle.cm_debug.proofs.Sending.{take_front, front_written, all_written}

-- ---- more lines

-- before some lines, or amid the first, is before more or amid the first
further : (n cap : ℕ) (acts : List Act) (session : Session) (lines more : List (List ℕ)) (machine : Machine)
    → IsBeforeOrAmid n cap acts session lines machine → IsBeforeOrAmid n cap acts session (lines ++ more) machine
further n cap acts session [] [] machine is = is
further n cap acts session [] (line ∷ more) machine is = inl is
further n cap acts session (line ∷ lines) more machine is = is

-- a byte in reach before more lines come is in reach then
still_reached : (n cap : ℕ) (first : Setting) (done undone more : List (List ℕ)) (count : ℕ)
    → count < length (after_all n cap first (done ++ take 1 undone)).answer
    → count < length (after_all n cap first (done ++ take 1 (undone ++ more))).answer
still_reached n cap first done [] more count within =
    omega (
      arith,
      within,
      answers-longer n cap first done (take 1 more),
      ap (λ (ls : List (List ℕ)). length (after_all n cap first ls).answer) (append-nil done),
    )
still_reached n cap first done (line ∷ undone) more count within = within

broken_more : (n cap : ℕ) (first : Setting) (lines more : List (List ℕ)) (machine : Machine) (on : Option (List ℕ))
    → IsAborted n cap first.acts first.machine first.out lines machine on
    → IsAborted n cap first.acts first.machine first.out (lines ++ more) machine on
broken_more n cap first lines more machine on off = record {
  done = off.done;
  undone = off.undone ++ more;
  lines_are = ap (λ (ls : List (List ℕ)). ls ++ more) off.lines_are ∙ append_assoc off.done off.undone more;
  written = off.written;
  machine_is = further n cap first.acts (after_all n cap first off.done).session off.undone more machine off.machine_is;
}

-- what breaks off among the first lines breaks off among all
pub among_more : (n cap : ℕ) (first : Setting) (lines more : List (List ℕ)) (machine : Machine)
    (on : Option (List ℕ)) (fault : SessionFault) → AbortsAmong n cap first lines machine on fault
    → AbortsAmong n cap first (lines ++ more) machine on fault
among_more n cap first lines more machine on (Write count) off = record {
  within = omega (arith, off.within, answers-longer n cap first lines more);
  written = subst (Appends first.out on) (sym (ap (take count) (answers-append n cap first lines more)
      ∙ take_front (after_all n cap first lines).answer _ count (omega (arith, off.within)))) off.written;
  done = off.done;
  undone = off.undone ++ more;
  lines_are = ap (λ (ls : List (List ℕ)). ls ++ more) off.lines_are ∙ append_assoc off.done off.undone more;
  reached = still_reached n cap first off.done off.undone more count off.reached;
  machine_is = further n cap first.acts (after_all n cap first off.done).session off.undone more machine off.machine_is;
}
among_more n cap first lines more machine on Memory off = broken_more n cap first lines more machine on off
among_more n cap first lines more machine on NoThread off = broken_more n cap first lines more machine on off
among_more n cap first lines more machine on Read off = absurd off
among_more n cap first lines more machine on TooMuch off = absurd off

-- before the first line
pub broken_first : (n cap : ℕ) (first : Setting) (lines : List (List ℕ))
    → IsAborted n cap first.acts first.machine first.out lines first.machine first.out
unfolding after_lines
broken_first n cap first lines = record {
  done = [];
  undone = lines;
  lines_are = refl;
  written = Appends-nil first.out;
  machine_is = further n cap first.acts (opening first.machine (length first.acts)) [] lines first.machine refl;
}

-- ---- a line

-- all lines are done
stopped_behind : (n cap : ℕ) (first : Setting) (lines : List (List ℕ)) (machine : Machine) (on : Option (List ℕ))
    (count : ℕ) → count < length (after_all n cap first lines).answer
    → Appends first.out on (take count (after_all n cap first lines).answer)
    → machine ≡ (after_all n cap first lines).session.machine
    → IsStopped n cap first.acts first.machine first.out lines machine on count
stopped_behind n cap first lines machine on count within wrote is = record {
  within = within;
  written = wrote;
  done = lines;
  undone = [];
  lines_are = sym (append-nil lines);
  reached = subst (λ (ls : List (List ℕ)). count < length (after_all n cap first ls).answer) (sym (append-nil lines))
      within;
  machine_is = is;
}

-- the last is, or is on the way
stopped_in : (n cap : ℕ) (first : Setting) (done : List (List ℕ)) (line : List ℕ) (sent : ℕ) (kept : List ℕ)
    (out_after on : Option (List ℕ)) (machine : Machine) (count : ℕ)
    → Appends first.out (append_known out_after kept) (after_all n cap first done).answer
    → sent + length kept ≡ length (after_all n cap first done).answer
    → IsShortWriteAfter sent (kept ++ (next n cap first done line).answer) out_after on count
    → (machine ≡ (next n cap first done line).session.machine)
    ⊎ IsInFlight n cap first.acts (after_all n cap first done).session (next n cap first done line).session machine
    → IsStopped n cap first.acts first.machine first.out (done ++ line ∷ []) machine on count
stopped_in n cap first done line sent kept out_after on machine count wrote long cut came = by came where
  front : List ℕ
  front = (after_all n cap first done).answer

  one : Answered
  one = next n cap first done line

  whole : after_all n cap first (done ++ line ∷ []) ≡ preceded_by front one
  whole = lines-more n cap first done line

  within : count < length (after_all n cap first (done ++ line ∷ [])).answer
  within =
      omega (
        arith,
        cut.count_is,
        cut.within,
        long,
        length-append kept one.answer,
        ap (λ (a : Answered). length a.answer) whole,
        length-append front one.answer,
      )

  part : Appends first.out on (take count (after_all n cap first (done ++ line ∷ [])).answer)
  part = subst (Appends first.out on)
      (ap (λ (k : ℕ). take k (front ++ (one.answer ++ []))) (sym cut.count_is)
      ∙ ap (λ (xs : List ℕ). take count (front ++ xs)) (append-nil one.answer)
      ∙ ap (λ (a : Answered). take count a.answer) (sym whole))
      (front_written first.out out_after on kept front one.answer [] sent cut.part wrote long cut.within cut.written)

  by : (machine ≡ one.session.machine)
      ⊎ IsInFlight n cap first.acts (after_all n cap first done).session one.session machine
      → IsStopped n cap first.acts first.machine first.out (done ++ line ∷ []) machine on count
  by (inl there) = stopped_behind n cap first (done ++ line ∷ []) machine on count within part
      (there ∙ sym (ap (λ (a : Answered). a.session.machine) whole))
  by (inr way) = record {
    within = within;
    written = part;
    done = done;
    undone = line ∷ [];
    lines_are = refl;
    reached = within;
    machine_is = way;
  }

given_up_in : (n cap : ℕ) (first : Setting) (done : List (List ℕ)) (line kept : List ℕ) (out_after on : Option (List ℕ))
    (machine : Machine) → Appends first.out (append_known out_after kept) (after_all n cap first done).answer
    → Appends out_after on kept
    → IsInFlight n cap first.acts (after_all n cap first done).session (next n cap first done line).session machine
    → IsAborted n cap first.acts first.machine first.out (done ++ line ∷ []) machine on
given_up_in n cap first done line kept out_after on machine wrote rest way = record {
  done = done;
  undone = line ∷ [];
  lines_are = refl;
  written = all_written first.out out_after on kept (after_all n cap first done).answer wrote rest;
  machine_is = way;
}

-- a line that has ended breaks off; it is cleared then
pub breaks_in : (n cap : ℕ) (first : Setting) (taken : List ℕ) (a : Talk) (cleared : List ℕ) (machine : Machine)
    (on : Option (List ℕ)) (fault : SessionFault) → AreProcessed n cap first taken a
    → AbortsIn n cap (after_line n cap a.acts a.session a.line) (record a { line = cleared }) machine on fault
    → AbortsAmong n cap first (ended_lines (taken ++ 10 ∷ [])) machine on fault
breaks_in n cap first taken a cleared machine on fault told' breaks =
    subst (λ (ls : List (List ℕ)). AbortsAmong n cap first ls machine on fault) (sym (ended_lines-end taken))
    (by fault (subst (λ (x : Talk).
    AbortsIn n cap (after_line n cap x.acts x.session x.line) (record x { line = cleared }) machine on fault) as_told
    breaks)) where
      done : List (List ℕ)
      done = ended_lines taken

      told_so : Talk
      told_so = record a {
        acts = first.acts;
        session = (after_all n cap first done).session;
        line = open_line taken;
      }

      as_told : a ≡ told_so
      as_told = (λ i. record a { acts = told'.acts i; session = told'.session i; line = told'.line i })

      by : (f : SessionFault)
          → AbortsIn n cap (next n cap first done (open_line taken)) (record told_so { line = cleared }) machine on f
          → AbortsAmong n cap first (done ++ open_line taken ∷ []) machine on f
      by (Write count) off = stopped_in n cap first done (open_line taken) a.sent a.kept a.out on machine count
          told'.written told'.count off.0 off.1
      by Memory off =
          given_up_in n cap first done (open_line taken) a.kept a.out on machine told'.written off.0 off.1
      by NoThread off =
          given_up_in n cap first done (open_line taken) a.kept a.out on machine told'.written off.0 off.1
      by Read off = absurd off
      by TooMuch off = absurd off

-- ---- between two lines

broken_between : (n cap : ℕ) (first : Setting) (taken : List ℕ) (a : Talk) (on : Option (List ℕ))
    → AreProcessed n cap first taken a → Appends a.out on a.kept
    → IsAborted n cap first.acts first.machine first.out (ended_lines taken) a.session.machine on
broken_between n cap first taken a on told' wrote = record {
  done = ended_lines taken;
  undone = [];
  lines_are = sym (append-nil (ended_lines taken));
  written = all_written first.out a.out on a.kept (after_all n cap first (ended_lines taken)).answer told'.written
      wrote;
  machine_is = ap (λ (s : Session). s.machine) told'.session;
}

pub breaks_between : (n cap : ℕ) (first : Setting) (taken : List ℕ) (a : Talk) (on : Option (List ℕ))
    (fault : SessionFault) → AreProcessed n cap first taken a → AbortsBetween a.sent a.kept a.out on fault
    → AbortsAmong n cap first (ended_lines taken) a.session.machine on fault
breaks_between n cap first taken a on (Write count) told' cut =
    let front : List ℕ = (after_all n cap first (ended_lines taken)).answer in
    let none : a.kept ++ [] ≡ a.kept = append-nil a.kept in
    stopped_behind n cap first (ended_lines taken) a.session.machine on count
    (omega (arith, cut.count_is, cut.within, told'.count))
    (subst (Appends first.out on) (λ i. take (sym cut.count_is i) (append-nil front i))
    (front_written first.out a.out on a.kept front [] [] a.sent cut.part told'.written told'.count
    (omega (arith, cut.within, ap length none))
    (subst (λ (xs : List ℕ). Appends a.out on (take cut.part xs)) (sym none) cut.written)))
    (ap (λ (s : Session). s.machine) told'.session)
breaks_between n cap first taken a on Memory told' wrote = broken_between n cap first taken a on told' wrote
breaks_between n cap first taken a on NoThread told' wrote = broken_between n cap first taken a on told' wrote
breaks_between n cap first taken a on Read told' none = absurd none
breaks_between n cap first taken a on TooMuch told' none = absurd none
