-- How far acts have come that are run stretch by stretch.
use Rattle.std.proofs.Common.{◌≡◌, ℕ, zero, suc, ◌+◌, ◌-◌, ◌<◌, ◌≤◌, ◌⊎◌, inl, inr, ◌&&◌, Bool, true, false, cond}
use Rattle.std.proofs.Common.{List, [], ◌∷◌, ◌++◌, length, take, drop, length-drop, Result, Err}
use Rattle.std.proofs.Common.{drop-drop, take-add, take-append-drop}
use Rattle.std.proofs.Common.{slice_index_or, refl, ap, ◌∙◌, sym, subst, arith, append_assoc, nat_lt, lt-ltb, le-ltb}
use Rattle.std.proofs.lemmas.Bool.{cases_lt}
use Rattle.std.proofs.lemmas.Grind.{common_steps}
use Rattle.cm_array.specs.Faults.{lacked_after}
use Rattle.cm_model.specs.declared.act.Act.{Act}
use Rattle.cm_model.specs.Machine.{Machine, run_of}
use Rattle.cm_model.proofs.Runs.{run_of-append}
use Rattle.cm_session.specs.Session.{Session, Answered, answered_with, preceded_by, answer_of_act, going, has_acts, lacks_room, one_on}
use Rattle.cm_session.specs.Answer.{at_line, end_line, refused_line, CLOCK}
use Rattle.cm_session.specs.Stretches.{IsStretch, acts_on, arrived}
use Rattle.cm_session.specs.Ends.{IsInFlight}
use Rattle.cm_session.proofs.Stretching.{going-stretch, going-rises, arrived-rises}
use Rattle.cm_debug.specs.declared.out_of.OutOf.{OutOf}
use Rattle.cm_debug.specs.declared.debugger.Stops.{Stops}
use Rattle.cm_debug.specs.Longest.{IsLongest, HasRunStretch}
use Rattle.cm_debug.specs.State.{DebuggerView, stops_at, gone, come, Goes, IsDone, IsLeft}
use Rattle.cm_debug.specs.Telling.{is_thread}

-- acts whose first ones are a stretch
pub stretch_first : (n cap : ℕ) (stops : ℕ → Bool) (session : Session) (acts : List Act) (first : Act) (count : ℕ)
    → 0 < length acts
    → first ≡ slice_index_or acts 0 first → 0 < count
    → IsStretch stops session.report session.position session.machine.clock (take count acts)
    → going n cap stops session acts
    ≡ preceded_by (answer_of_act session first)
    (arrived n cap stops (acts_on n cap session (take count acts)) (drop count acts))
stretch_first n cap stops session [] first count some is above stretch = absurd (omega arith)
stretch_first n cap stops session (a ∷ acts) first zero some is above stretch = absurd (omega arith)
stretch_first n cap stops session (a ∷ acts) first (suc count) some is above stretch =
    ap (λ (xs : List Act). going n cap stops session (a ∷ xs)) (sym (take-append-drop count acts))
    ∙ going-stretch n cap stops session a (take count acts) (drop count acts) stretch
    ∙ ap (λ (b : Act). preceded_by (answer_of_act session b)
    (arrived n cap stops (acts_on n cap session (take (suc count) (a ∷ acts))) (drop count acts))) (sym is)

whole_rest : (place : ℕ) (acts : List Act) → take (length acts - place) (drop place acts) ≡ drop place acts
whole_rest place acts = grind (arith, common_steps)

-- the bytes that a stretch tells, and what is told after it, are what is told from its beginning on
pub stretch_told : (n cap : ℕ) (stops : ℕ → Bool) (session : Session) (acts rest : List Act)
    (first : Act) (count : ℕ) (text told : List ℕ) (machine : Machine) (clock : ℕ) → session.position < length acts
    → rest ≡ take (length acts - session.position) (drop session.position acts)
    → first ≡ slice_index_or rest 0 first → 0 < count → count ≤ length rest
    → clock ≡ session.machine.clock → IsStretch stops session.report session.position clock (take count rest)
    → told ≡ text ++ answer_of_act session first → machine ≡ run_of n cap session.machine (take count rest)
    → (text ++ (going n cap stops session (drop session.position acts)).answer
    ≡ told ++ (arrived n cap stops (record session { machine = machine; position = session.position + count })
    (drop (session.position + count) acts)).answer)
    × ((going n cap stops session (drop session.position acts)).session
    ≡ (arrived n cap stops (record session { machine = machine; position = session.position + count })
    (drop (session.position + count) acts)).session)
stretch_told n cap stops session acts rest first count text answered_with machine clock inside is head above
    within at stretch says ran =
    let whole : rest ≡ drop session.position acts = is ∙ whole_rest session.position acts in
    let some : 0 < length rest = omega (arith, ap length whole, length-drop session.position acts) in
    let first_of : going n cap stops session rest ≡ preceded_by (answer_of_act session first)
    (arrived n cap stops (acts_on n cap session (take count rest)) (drop count rest)) =
    stretch_first n cap stops session rest first count some head above
    (subst (λ (k : ℕ). IsStretch stops session.report session.position k (take count rest)) at stretch) in
    let long : length (take count rest) ≡ count = taken count rest within in
    let left : drop count rest ≡ drop (session.position + count) acts = ap (drop count) whole
    ∙ drop-drop count session.position acts ∙ ap (λ (k : ℕ). drop k acts) (omega arith) in
    let on : acts_on n cap session (take count rest)
    ≡ record session { machine = machine; position = session.position + count } =
    (λ i. record session { machine = sym ran i; position = session.position + long i }) in
    let rested : Answered = arrived n cap stops (acts_on n cap session (take count rest)) (drop count rest) in
    let same : rested ≡ arrived n cap stops (record session { machine = machine; position = session.position + count })
    (drop (session.position + count) acts) =
    (λ i. arrived n cap stops (on i) (left i)) in
    let gone : going n cap stops session (drop session.position acts) ≡ preceded_by (answer_of_act session first) rested =
    ap (going n cap stops session) (sym whole) ∙ first_of in (
      ap (λ (a : Answered). text ++ a.answer) gone ∙ sym (append_assoc text (answer_of_act session first) rested.answer)
          ∙ ap (λ (t : List ℕ). t ++ rested.answer) (sym says) ∙ ap (λ (a : Answered). answered_with ++ a.answer) same,
      ap (λ (a : Answered). a.session) gone ∙ ap (λ (a : Answered). a.session) same,
    ) where
      taken : (k : ℕ) (xs : List Act) → k ≤ length xs → length (take k xs) ≡ k
      taken k xs h = grind (arith, common_steps)

-- a machine after the acts between two places, or as it was
abbrev pub HasCome : ℕ → ℕ → List Act → Machine → ℕ → ℕ → Machine → Type 0
HasCome n cap acts before from to machine =
    ((to ≡ from) × (machine ≡ before)) ⊎ (machine ≡ run_of n cap before (take (to - from) (drop from acts)))

-- a stretch more
pub comes : (n cap : ℕ) (acts : List Act) (before : Machine) (from to on : ℕ) (machine after : Machine)
    → from ≤ to → to ≤ on
    → HasCome n cap acts before from to machine → after ≡ run_of n cap machine (take (on - to) (drop to acts))
    → HasCome n cap acts before from on after
comes n cap acts before from to on machine after rises further (inl stays) is =
    inr (is ∙ (λ i. run_of n cap (stays.1 i) (take (on - stays.0 i) (drop (stays.0 i) acts))))
comes n cap acts before from to on machine after rises further (inr came) is =
    let rest : drop (to - from) (drop from acts) ≡ drop to acts =
    drop-drop (to - from) from acts ∙ ap (λ (k : ℕ). drop k acts) (omega arith) in
    let both : take (on - from) (drop from acts) ≡ take (to - from) (drop from acts) ++ take (on - to) (drop to acts) =
    ap (λ (k : ℕ). take k (drop from acts)) (omega arith) ∙ take-add (to - from) (on - to) (drop from acts)
    ∙ ap (λ (xs : List Act). take (to - from) (drop from acts) ++ take (on - to) xs) rest in
    inr (is ∙ ap (λ (m : Machine). run_of n cap m (take (on - to) (drop to acts))) came
    ∙ sym (run_of-append n cap before (take (to - from) (drop from acts)) (take (on - to) (drop to acts)))
    ∙ ap (run_of n cap before) (sym both))

-- wherever it has come, it is on the way
pub on_the_way : (n cap : ℕ) (acts : List Act) (before after : Session) (to : ℕ) (machine : Machine)
    → before.position ≤ to → to ≤ after.position
    → HasCome n cap acts before.machine before.position to machine → IsInFlight n cap acts before after machine
on_the_way n cap acts before after to machine rises within (inl stays) = inl stays.1
on_the_way n cap acts before after to machine rises within (inr came) =
    inr (record { count = to - before.position; within = omega arith; machine_is = came })

-- ---- how acts go on at a place

-- there are acts from a place on
pub drop_has_acts : (place : ℕ) (acts : List Act) → has_acts (drop place acts) ≡ nat_lt place (length acts)
drop_has_acts place acts = by (cases_lt place (length acts)) where
  some : (xs : List Act) → 0 < length xs → has_acts xs ≡ true
  some [] h = absurd (omega arith)
  some (x ∷ xs) h = refl

  none : (xs : List Act) → length xs ≡ 0 → has_acts xs ≡ false
  none [] h = refl
  none (x ∷ xs) h = absurd (omega arith)

  by : (place < length acts) ⊎ (length acts ≤ place) → has_acts (drop place acts) ≡ nat_lt place (length acts)
  by (inl inside) = some (drop place acts) (omega (arith, length-drop place acts)) ∙ sym (lt-ltb _ _ inside)
  by (inr beyond) = none (drop place acts) (omega (arith, length-drop place acts)) ∙ sym (le-ltb _ _ beyond)

refused_first : (n cap : ℕ) (stops : ℕ → Bool) (session : Session) (rest : List Act) (first : Act) → 0 < length rest
    → first ≡ slice_index_or rest 0 first → lacks_room session.machine.clock first ≡ true
    → going n cap stops session rest ≡ answered_with session (refused_line CLOCK)
unfolding going one_on
refused_first n cap stops session [] first some is lacks = absurd (omega arith)
refused_first n cap stops session (a ∷ rest) first some is lacks =
    ap (λ (b : Bool). cond b (answered_with session (refused_line CLOCK)) (preceded_by (answer_of_act session a)
    (arrived n cap stops (acts_on n cap session (a ∷ [])) rest)))
    (ap (lacks_room session.machine.clock) (sym is) ∙ lacks)

-- a petit cycle without room is refused
pub refused_here : (n cap : ℕ) (stops : ℕ → Bool) (session : Session) (acts rest : List Act) (first : Act) (clock : ℕ)
    → session.position < length acts → rest ≡ take (length acts - session.position) (drop session.position acts)
    → first ≡ slice_index_or rest 0 first → clock ≡ session.machine.clock → lacks_room clock first ≡ true
    → going n cap stops session (drop session.position acts) ≡ answered_with session (refused_line CLOCK)
refused_here n cap stops session acts rest first clock inside is head at lacks =
    let whole : rest ≡ drop session.position acts = is ∙ whole_rest session.position acts in
    let some : 0 < length rest = omega (arith, ap length whole, length-drop session.position acts) in
    ap (going n cap stops session) (sym whole)
    ∙ refused_first n cap stops session rest first some head (ap (λ (k : ℕ). lacks_room k first) (sym at) ∙ lacks)

-- at the end
pub ended_here : (n cap : ℕ) (stops : ℕ → Bool) (session : Session) (acts : List Act) → length acts ≤ session.position
    → going n cap stops session (drop session.position acts) ≡ answered_with session end_line
unfolding going
ended_here n cap stops session acts beyond =
    ap (going n cap stops session)
    (nothing (drop session.position acts) (omega (arith, length-drop session.position acts))) where
      nothing : (xs : List Act) → length xs ≡ 0 → xs ≡ []
      nothing [] h = refl
      nothing (x ∷ xs) h = absurd (omega arith)

-- where it stops
pub stopped_here : (n cap : ℕ) (stops : ℕ → Bool) (session : Session) (rest : List Act)
    → (stops session.position && has_acts rest) ≡ true
    → arrived n cap stops session rest ≡ answered_with session (at_line session.position)
stopped_here n cap stops session rest is =
    ap (λ (b : Bool). cond b (answered_with session (at_line session.position)) (going n cap stops session rest)) is

-- and where it does not
pub goes_on : (n cap : ℕ) (stops : ℕ → Bool) (session : Session) (rest : List Act)
    → (stops session.position && has_acts rest) ≡ false
    → arrived n cap stops session rest ≡ going n cap stops session rest
goes_on n cap stops session rest is =
    ap (λ (b : Bool). cond b (answered_with session (at_line session.position)) (going n cap stops session rest)) is

-- ---- states

-- it is left for a want
left_by : (n cap : ℕ) (one : Answered) (before after : DebuggerView) (result : Result (Unit {0}) OutOf) (want : OutOf)
    → result ≡ Err want → IsLeft n cap one before after want → Goes n cap one before after result
left_by n cap one before after result want is left =
    subst (λ (r : Result (Unit {0}) OutOf). Goes n cap one before after r) (sym is) left

-- a stretch is run
pub has_run : (n cap : ℕ) (stops : Stops) (before : DebuggerView) (rest : List Act) (first : Act) (count clock : ℕ)
    (machine : Machine) (text : List ℕ) (lacked : ℕ) → before.session.position < length before.acts
    → rest ≡ take (length before.acts - before.session.position) (drop before.session.position before.acts)
    → first ≡ slice_index_or rest 0 first → 0 < count → count ≤ length rest → clock ≡ before.session.machine.clock
    → IsStretch (stops_at stops before.session.breaks) before.session.report before.session.position clock
    (take count rest)
    → IsLongest (stops_at stops before.session.breaks) before.session.report before.session.position clock rest count
    → text ≡ before.answer ++ answer_of_act before.session first
    → machine ≡ run_of n cap before.session.machine (take count rest) → lacked ≡ before.lacked
    → HasRunStretch n cap stops before (record before {
      session = record before.session { machine = machine; position = before.session.position + count };
      answer = text;
      lacked = lacked;
    })
has_run n cap stops before rest first count clock machine text lacked inside is head above within at stretch longest
    says ran same =
    let place : ℕ = before.session.position in
    let here : ℕ → Bool = stops_at stops before.session.breaks in
    let all : rest ≡ drop place before.acts = is ∙ whole_rest place before.acts in
    let counted : count ≡ (place + count) - place = omega arith in
    let told' = stretch_told n cap here before.session before.acts rest first count before.answer text machine clock
    inside is head above within at stretch says ran in
    record {
      answer = told'.0;
      session = told'.1;
      machine = ran ∙ (λ i. run_of n cap before.session.machine (take (counted i) (all i)));
      further = omega (arith, above);
      longest = subst (λ (k : ℕ). IsLongest here before.session.report place before.session.machine.clock
          (drop place before.acts) k) counted
          (subst (λ (xs : List Act). IsLongest here before.session.report place before.session.machine.clock xs count)
          all (subst (λ (k : ℕ). IsLongest here before.session.report place k rest count) at longest));
      acts = refl;
      lacked = same;
    }

-- acts were run from one state to another, after which it goes on as it would have before
pub record HasGone (n cap : ℕ) (stops : Stops) (before now : DebuggerView) : Type 0 where
  pub answer : now.answer ++ (gone n cap stops now).answer ≡ before.answer ++ (gone n cap stops before).answer
  pub session : (gone n cap stops now).session ≡ (gone n cap stops before).session
  pub rises : before.session.position ≤ now.session.position
  pub come : HasCome n cap before.acts before.session.machine before.session.position now.session.position
      now.session.machine
  pub acts : now.acts ≡ before.acts
  pub lacked : now.lacked ≡ before.lacked

-- none yet
pub none_gone : (n cap : ℕ) (stops : Stops) (before : DebuggerView) → HasGone n cap stops before before
none_gone n cap stops before = record {
  answer = refl;
  session = refl;
  rises = omega arith;
  come = inl (refl, refl);
  acts = refl;
  lacked = refl;
}

-- by a stretch more
further_come : {n cap : ℕ} {stops : Stops} {before now after : DebuggerView} → HasGone n cap stops before now
    → HasRunStretch n cap stops now after
    → HasCome n cap before.acts before.session.machine before.session.position after.session.position
    after.session.machine
further_come {n} {cap} {stops} {before} {now} {after} gone run =
    comes n cap before.acts before.session.machine before.session.position now.session.position after.session.position
    now.session.machine after.session.machine gone.rises (omega (arith, run.further)) gone.come
    (run.machine ∙ ap (λ (xs : List Act). run_of n cap now.session.machine
    (take (after.session.position - now.session.position) (drop now.session.position xs))) gone.acts)

-- which does not stop where it ends
pub gone_on : {n cap : ℕ} {stops : Stops} {before now after : DebuggerView} → HasGone n cap stops before now
    → HasRunStretch n cap stops now after
    → (stops_at stops after.session.breaks after.session.position
    && has_acts (drop after.session.position after.acts)) ≡ false
    → HasGone n cap stops before after
gone_on {n} {cap} {stops} {before} {now} {after} gone run on =
    let same = goes_on n cap (stops_at stops after.session.breaks) after.session
    (drop after.session.position after.acts) on in
    record {
      answer = ap (λ (a : Answered). after.answer ++ a.answer) (sym same) ∙ sym run.answer ∙ gone.answer;
      session = ap (λ (a : Answered). a.session) (sym same) ∙ sym run.session ∙ gone.session;
      rises = omega (arith, gone.rises, run.further);
      come = further_come gone run;
      acts = run.acts ∙ gone.acts;
      lacked = run.lacked ∙ gone.lacked;
    }

-- and is given up before the next stretch
pub gone_left : {n cap : ℕ} {stops : Stops} {before now : DebuggerView} (after : DebuggerView) (result : Result (Unit {0}) OutOf)
    (want : OutOf) → result ≡ Err want → HasGone n cap stops before now → after.session.machine ≡ now.session.machine
    → after.lacked ≡ lacked_after (is_thread want) now.lacked
    → Goes n cap (gone n cap stops before) before after result
gone_left {n} {cap} {stops} {before} {now} after result want is gone' stays lacked = left_by n cap
    (gone n cap stops before) before after result want is (record {
      machine = subst (IsInFlight n cap before.acts before.session (gone n cap stops before).session) (sym stays)
          (on_the_way n cap before.acts before.session (gone n cap stops before).session now.session.position
          now.session.machine gone'.rises
          (omega (
            arith,
            going-rises n cap (stops_at stops now.session.breaks) now.session (drop now.session.position now.acts),
            ap (λ (s : Session). s.position) gone'.session,
          )) gone'.come);
      lacked = lacked ∙ ap (λ (k : ℕ). lacked_after (is_thread want) k) gone'.lacked;
    })

-- or where it is to be told that it stops
pub stop_left : {n cap : ℕ} {stops : Stops} {before now after : DebuggerView} (last : DebuggerView)
    (result : Result (Unit {0}) OutOf) (want : OutOf) → result ≡ Err want → HasGone n cap stops before now
    → HasRunStretch n cap stops now after
    → last.session.machine ≡ after.session.machine
    → last.lacked ≡ lacked_after (is_thread want) after.lacked
    → Goes n cap (gone n cap stops before) before last result
stop_left {n} {cap} {stops} {before} {now} {after} last result want is gone' run stays lacked =
    left_by n cap (gone n cap stops before) before last result want is (record {
      machine = subst (IsInFlight n cap before.acts before.session (gone n cap stops before).session) (sym stays)
          (on_the_way n cap before.acts before.session (gone n cap stops before).session after.session.position
          after.session.machine (omega (arith, gone'.rises, run.further))
          (omega (
            arith,
            arrived-rises n cap (stops_at stops after.session.breaks) after.session
                (drop after.session.position after.acts),
            ap (λ (s : Session). s.position) (sym run.session ∙ gone'.session),
          )) (further_come gone' run));
      lacked = lacked
          ∙ ap (λ (k : ℕ). lacked_after (is_thread want) k) (run.lacked ∙ gone'.lacked);
    })

-- nothing more is run, and this is told
pub gone_done : {n cap : ℕ} {stops : Stops} {before now : DebuggerView} {line text : List ℕ} → HasGone n cap stops before now
    → gone n cap stops now ≡ answered_with now.session line → text ≡ now.answer ++ line
    → IsDone (gone n cap stops before) before (record now { answer = text })
gone_done {n} {cap} {stops} {before} {now} {line} {text} gone' ended says = record {
  session = ap (λ (a : Answered). a.session) (sym ended) ∙ gone'.session;
  answer = says ∙ ap (λ (a : Answered). now.answer ++ a.answer) (sym ended) ∙ gone'.answer;
  acts = gone'.acts;
  lacked = gone'.lacked;
}

-- it stops where a stretch ends, and this is told
pub stop_done : {n cap : ℕ} {stops : Stops} {before now after : DebuggerView} {text : List ℕ} → HasGone n cap stops before now
    → HasRunStretch n cap stops now after
    → (stops_at stops after.session.breaks after.session.position
    && has_acts (drop after.session.position after.acts)) ≡ true
    → text ≡ after.answer ++ at_line after.session.position
    → IsDone (gone n cap stops before) before (record after { answer = text })
stop_done {n} {cap} {stops} {before} {now} {after} {text} gone' run stop says =
    let same = stopped_here n cap (stops_at stops after.session.breaks) after.session
    (drop after.session.position after.acts) stop in
    record {
      session = ap (λ (a : Answered). a.session) (sym same) ∙ sym run.session ∙ gone'.session;
      answer = says ∙ ap (λ (a : Answered). after.answer ++ a.answer) (sym same) ∙ sym run.answer ∙ gone'.answer;
      acts = run.acts ∙ gone'.acts;
      lacked = run.lacked ∙ gone'.lacked;
    }
