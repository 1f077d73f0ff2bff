-- Acts that are run one after another are runs of what stands between two places.
use Rattle.std.proofs.Common.{◌≡◌, ℕ, zero, suc, ◌+◌, ◌-◌, ◌^◌, ◌≤◌, ◌&&◌, Bool, true, false, cond, List, [], ◌∷◌}
use Rattle.std.proofs.Common.{◌++◌, length, drop, take, refl, ap, ◌∙◌, sym, subst, arith, inl, inr}
use Rattle.std.proofs.Common.{append_assoc}
use Rattle.std.specs.List.{flat_map, range_with_len}
use Rattle.std.proofs.lemmas.List.{drop_more, drop-drop}
use Rattle.std.proofs.Math.Seq.{take-add}
use Rattle.std.proofs.Math.ListN.{drop_of_length-le}
use Rattle.cm_model.specs.declared.act.Act.{Act}
use Rattle.cm_model.specs.declared.act.Act.TheVariants.{Cycle}
use Rattle.cm_model.specs.Machine.{Machine, run_of}
use Rattle.cm_model.proofs.Runs.{run_of-append, run_of-nil}
use Rattle.cm_session.specs.Answer.{CLOCK, at_line, end_line, refused_line}
use Rattle.cm_session.specs.Session.{Session, Answered, answered_with, preceded_by, lacks_room, one_on, has_acts, going}
use Rattle.cm_session.specs.Whole.{acts_between}
use Rattle.cm_whole.specs.Acts.{act_at, come_to, answer_at, answers_between, StopsWith, GoesOn}

-- ---- acts between two places

none_between : (place : ℕ) (acts : List Act) → acts_between place place acts ≡ []
none_between place acts =
    let none : place - place ≡ 0 = omega arith in
    ap (λ k. take k (drop place acts)) none

one_between : (place : ℕ) (acts : List Act) (a : Act) (more : List Act) → drop place acts ≡ a ∷ more
    → take 1 (drop place acts) ≡ a ∷ []
one_between place acts a more is = ap (take 1) is

-- the acts up to a place, and the one that stands there
one_more_between : (from place : ℕ) (acts : List Act) (a : Act) (more : List Act) → from ≤ place
    → drop place acts ≡ a ∷ more → acts_between from (place + 1) acts ≡ acts_between from place acts ++ a ∷ []
one_more_between from place acts a more low is =
    let count : place + 1 - from ≡ (place - from) + 1 = omega arith in
    let there : from + (place - from) ≡ place = omega arith in
    ap (λ k. take k (drop from acts)) count
    ∙ (take-add (place - from) 1 (drop from acts)
    ∙ ap (λ z. acts_between from place acts ++ z)
    (ap (take 1) (drop-drop (place - from) from acts ∙ ap (λ k. drop k acts) there)
    ∙ one_between place acts a more is))

-- ---- places

-- at the place where it stands a session has come to no other
come_to-itself : (n cap : ℕ) (acts : List Act) (session : Session) → length session.machine.buffers ≡ 2 ^ n
    → come_to n cap acts session session.position ≡ session
come_to-itself n cap acts session long =
    ap (λ (m : Machine). record session { machine = m; position = session.position })
    (ap (run_of n cap session.machine) (none_between session.position acts) ∙ run_of-nil n cap session.machine long)

-- one act on from a place is the next place
come_to-next : (n cap : ℕ) (acts : List Act) (session : Session) (place : ℕ) (a : Act) (more : List Act)
    → session.position ≤ place → drop place acts ≡ a ∷ more
    → one_on n cap (come_to n cap acts session place) a ≡ come_to n cap acts session (place + 1)
unfolding one_on
come_to-next n cap acts session place a more low is =
    ap (λ (m : Machine). record session { machine = m; position = place + 1 })
    (sym (run_of-append n cap session.machine (acts_between session.position place acts) (a ∷ []))
    ∙ ap (run_of n cap session.machine) (sym (one_more_between session.position place acts a more low is)))

-- ---- going on

-- a session goes on from a place to which it has come
record GoesFrom (n cap : ℕ) (acts : List Act) (stops : ℕ → Bool) (before : Session) (place : ℕ) (after : Answered)
    : Type 0 where
  pub to : ℕ
  pub forward : place ≤ to
  pub session_is : after.session ≡ come_to n cap acts before to
  pub last : List ℕ
  pub stops_with : StopsWith stops acts after.session last
  pub answer_is : after.answer ≡ answers_between n cap acts before place to ++ last

-- it stops at once, with this answer
stops_here : (n cap : ℕ) (acts : List Act) (stops : ℕ → Bool) (before : Session) (place : ℕ) (answer : List ℕ)
    → StopsWith stops acts (come_to n cap acts before place) answer
    → GoesFrom n cap acts stops before place (answered_with (come_to n cap acts before place) answer)
stops_here n cap acts stops before place answer why =
    let none : place - place ≡ 0 = omega arith in
    record {
      to = place;
      forward = omega arith;
      session_is = refl;
      last = answer;
      stops_with = why;
      answer_is = ap (λ k. flat_map (answer_at n cap acts before) (range_with_len place k) ++ answer) (sym none);
    }

-- after an act it goes on from the next place
goes_by_one : (n cap : ℕ) (acts : List Act) (stops : ℕ → Bool) (before : Session) (place : ℕ) (after : Answered)
    → GoesFrom n cap acts stops before (place + 1) after
    → GoesFrom n cap acts stops before place (preceded_by (answer_at n cap acts before place) after)
goes_by_one n cap acts stops before place after it =
    let count : it.to - place ≡ suc (it.to - (place + 1)) = omega (arith, it.forward) in
    let first : List ℕ = answer_at n cap acts before place in
    record {
      to = it.to;
      forward = omega (arith, it.forward);
      session_is = it.session_is;
      last = it.last;
      stops_with = it.stops_with;
      answer_is = ap (λ z. first ++ z) it.answer_is
          ∙ (sym (append_assoc first (answers_between n cap acts before (place + 1) it.to) it.last)
          ∙ ap (λ k. flat_map (answer_at n cap acts before) (range_with_len place k) ++ it.last) (sym count));
    }

first_of_both : (a b : Bool) → (a && b) ≡ true → a ≡ true
first_of_both true b h = refl
first_of_both false b h = h

-- what comes behind an act that was run: a place where the session stops, or the acts that are left
abbrev onward : ℕ → ℕ → (ℕ → Bool) → ℕ → List Act → Session → Answered
onward n cap stops place more session =
    cond (stops (place + 1) && has_acts more) (answered_with session (at_line (place + 1))) (going n cap stops session more)

by_stop : (n cap : ℕ) (acts : List Act) (stops : ℕ → Bool) (before : Session) (place : ℕ) (more : List Act) (b : Bool)
    → (stops (place + 1) && has_acts more) ≡ b
    → GoesFrom n cap acts stops before (place + 1) (going n cap stops (come_to n cap acts before (place + 1)) more)
    → GoesFrom n cap acts stops before (place + 1)
    (cond b (answered_with (come_to n cap acts before (place + 1)) (at_line (place + 1)))
    (going n cap stops (come_to n cap acts before (place + 1)) more))
by_stop n cap acts stops before place more true e rest =
    stops_here n cap acts stops before (place + 1) (at_line (place + 1))
    (inr (inl (first_of_both (stops (place + 1)) (has_acts more) e, refl)))
by_stop n cap acts stops before place more false e rest = rest

by_room : (n cap : ℕ) (acts : List Act) (stops : ℕ → Bool) (before : Session) (place : ℕ) (more : List Act) (b : Bool)
    → lacks_room (come_to n cap acts before place).machine.clock (act_at acts place) ≡ b
    → GoesFrom n cap acts stops before (place + 1)
    (onward n cap stops place more (come_to n cap acts before (place + 1)))
    → one_on n cap (come_to n cap acts before place) (act_at acts place) ≡ come_to n cap acts before (place + 1)
    → GoesFrom n cap acts stops before place
    (cond b (answered_with (come_to n cap acts before place) (refused_line CLOCK))
    (preceded_by (answer_at n cap acts before place)
    (onward n cap stops place more (one_on n cap (come_to n cap acts before place) (act_at acts place)))))
by_room n cap acts stops before place more true e rest next =
    stops_here n cap acts stops before place (refused_line CLOCK) (inr (inr (e, refl)))
by_room n cap acts stops before place more false e rest next =
    subst (λ (session : Session). GoesFrom n cap acts stops before place
    (preceded_by (answer_at n cap acts before place) (onward n cap stops place more session))) (sym next)
    (goes_by_one n cap acts stops before place
    (onward n cap stops place more (come_to n cap acts before (place + 1))) rest)

goes_from : (n cap : ℕ) (acts : List Act) (stops : ℕ → Bool) (before : Session) (count place : ℕ)
    → length acts - place ≡ count → before.position ≤ place
    → GoesFrom n cap acts stops before place (going n cap stops (come_to n cap acts before place) (drop place acts))
unfolding going
goes_from n cap acts stops before zero place left low =
    subst (λ (rest : List Act). GoesFrom n cap acts stops before place
    (going n cap stops (come_to n cap acts before place) rest))
    (sym (drop_of_length-le acts {i = place} (omega (arith, left))))
    (stops_here n cap acts stops before place end_line (inl (omega (arith, left), refl)))
goes_from n cap acts stops before (suc count) place left low =
    let more : List Act = drop (place + 1) acts in
    let there : drop place acts ≡ act_at acts place ∷ more = drop_more acts place Cycle (omega (arith, left)) in
    let rest : GoesFrom n cap acts stops before (place + 1)
    (going n cap stops (come_to n cap acts before (place + 1)) more) =
    goes_from n cap acts stops before count (place + 1) (omega (arith, left)) (omega (arith, low)) in
    subst (λ (rest : List Act). GoesFrom n cap acts stops before place
    (going n cap stops (come_to n cap acts before place) rest)) (sym there)
    (by_room n cap acts stops before place more
    (lacks_room (come_to n cap acts before place).machine.clock (act_at acts place)) refl
    (by_stop n cap acts stops before place more (stops (place + 1) && has_acts more) refl rest)
    (come_to-next n cap acts before place (act_at acts place) more low there))

-- a session goes on from where it stands
pub goes_on : (n cap : ℕ) (acts : List Act) (stops : ℕ → Bool) (before : Session)
    → length before.machine.buffers ≡ 2 ^ n
    → GoesOn n cap acts stops before (going n cap stops before (drop before.position acts))
goes_on n cap acts stops before long =
    let it : GoesFrom n cap acts stops before before.position (going n cap stops before (drop before.position acts)) =
    subst (λ (session : Session). GoesFrom n cap acts stops before before.position
    (going n cap stops session (drop before.position acts))) (come_to-itself n cap acts before long)
    (goes_from n cap acts stops before (length acts - before.position) before.position refl (omega arith)) in
    record {
      to = it.to;
      forward = it.forward;
      session_is = it.session_is;
      last = it.last;
      stops_with = it.stops_with;
      answer_is = it.answer_is;
    }
