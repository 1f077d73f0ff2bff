-- A stretch is answered as its acts are, one after another.
use Rattle.std.proofs.Common.{◌≡◌, ℕ, suc, ◌+◌, ◌-◌, ◌^◌, ◌<◌, ◌≤◌, ◌==◌, ◌&&◌, Bool, true, false, cond, List, [], ◌∷◌}
use Rattle.std.proofs.Common.{◌++◌, length, refl, ap, ◌∙◌, sym, subst, arith, rules}
use Rattle.cm_model.specs.declared.act.Act.{Act}
use Rattle.cm_model.specs.declared.act.Act.TheVariants as act
use Rattle.cm_model.specs.Array.{wire}
use Rattle.cm_model.specs.Machine.{run_of}
use Rattle.cm_model.proofs.Runs.{run_of-append}
use Rattle.cm_array.specs.Acts.{is_cycle, cycles_in}
use Rattle.cm_session.specs.Answer.{at_line, sense_line, refused_line, CLOCK}
use Rattle.cm_session.specs.Session.{Session, answered_with, preceded_by, lacks_room, answer_of_act, one_on, has_acts, going}
use Rattle.cm_session.specs.Stretches.{IsStretch, is_look, acts_on, arrived, StretchesAreAnsweredAlike}
use Rattle.cm_session.proofs.Clocks.{clock-run_of, cycles_in-cons}

-- where the counter has room for an act, the act has room
has_room : (clock : ℕ) (a : Act) (acts : List Act) → clock + cycles_in (a ∷ acts) < 2 ^ 63 → lacks_room clock a ≡ false
has_room clock (act.Nano nano) acts room = refl
has_room clock act.Sense acts room = refl
has_room clock act.Cycle acts room = differs clock (omega (arith, cycles_in-cons act.Cycle acts)) where
  differs : (k : ℕ) → k < 2 ^ 63 - 1 → (k == 2 ^ 63 - 1) ≡ false
  differs k small = grind arith

-- one act that has room
pub going-one : (n cap : ℕ) (stops : ℕ → Bool) (session : Session) (a : Act) (more : List Act)
    → lacks_room session.machine.clock a ≡ false
    → going n cap stops session (a ∷ more)
    ≡ preceded_by (answer_of_act session a) (arrived n cap stops (acts_on n cap session (a ∷ [])) more)
unfolding going one_on
going-one n cap stops session a more room =
    ap (λ (b : Bool). cond b (answered_with session (refused_line CLOCK)) (preceded_by (answer_of_act session a)
    (arrived n cap stops (acts_on n cap session (a ∷ [])) more))) room

untold : (report : Bool) → (report && true) ≡ false → (text : List ℕ) → cond report text [] ≡ []
untold true h text = absurd (search rules)
untold false h text = refl

-- a look that is not told tells nothing
tells_nothing : (session : Session) (a : Act) → (session.report && is_look a) ≡ false → answer_of_act session a ≡ []
tells_nothing session (act.Nano nano) h = refl
tells_nothing session act.Cycle h = refl
tells_nothing session act.Sense h = untold session.report h (sense_line session.position (wire session.machine.chips))

-- the stretch after its first act
after_first : (n cap : ℕ) (stops : ℕ → Bool) (session : Session) (a b : Act) (acts : List Act)
    → IsStretch stops session.report session.position session.machine.clock (a ∷ b ∷ acts)
    → IsStretch stops session.report (session.position + 1) (run_of n cap session.machine (a ∷ [])).clock (b ∷ acts)
after_first n cap stops session a b acts stretch = record {
  silent = λ i some inside. stretch.silent (suc i) (omega arith) (omega arith);
  goes = λ i some inside. subst (λ (k : ℕ). stops k ≡ false) (omega arith)
      (stretch.goes (suc i) (omega arith) (omega arith));
  room =
      let clock : (run_of n cap session.machine (a ∷ [])).clock ≡ session.machine.clock + cycles_in (a ∷ []) =
      clock-run_of n cap session.machine (a ∷ []) in
      let one : cycles_in (a ∷ []) ≡ cond (is_cycle a) 1 0 + cycles_in [] = cycles_in-cons a [] in
      let all : cycles_in (a ∷ b ∷ acts) ≡ cond (is_cycle a) 1 0 + cycles_in (b ∷ acts) = cycles_in-cons a (b ∷ acts) in
      omega (arith, stretch.room, clock, one, all);
}

-- the session after one act and the others is that after all
acts_on-cons : (n cap : ℕ) (session : Session) (a : Act) (acts : List Act)
    → acts_on n cap (acts_on n cap session (a ∷ [])) acts ≡ acts_on n cap session (a ∷ acts)
acts_on-cons n cap session a acts =
    let machine : run_of n cap (run_of n cap session.machine (a ∷ [])) acts ≡ run_of n cap session.machine (a ∷ acts) =
    sym (run_of-append n cap session.machine (a ∷ []) acts) in
    let position : session.position + 1 + length acts ≡ session.position + suc (length acts) = omega arith in
    λ i. record session { machine = machine i; position = position i }

pub going-stretch : StretchesAreAnsweredAlike
going-stretch n cap stops session a [] more stretch =
    going-one n cap stops session a more (has_room session.machine.clock a [] stretch.room)
going-stretch n cap stops session a (b ∷ acts) more stretch =
    let next : Session = acts_on n cap session (a ∷ []) in
    let goes : stops (session.position + 1) ≡ false = stretch.goes 1 (omega arith) (omega arith) in
    let goes_on : arrived n cap stops next ((b ∷ acts) ++ more) ≡ going n cap stops next ((b ∷ acts) ++ more) =
    ap (λ (stop : Bool). cond (stop && true) (answered_with next (at_line next.position))
    (going n cap stops next ((b ∷ acts) ++ more))) goes in
    let rest : going n cap stops next ((b ∷ acts) ++ more)
    ≡ preceded_by (answer_of_act next b) (arrived n cap stops (acts_on n cap next (b ∷ acts)) more) =
    going-stretch n cap stops next b acts more (after_first n cap stops session a b acts stretch) in
    let silent : answer_of_act next b ≡ [] = tells_nothing next b (stretch.silent 1 (omega arith) (omega arith)) in
    going-one n cap stops session a ((b ∷ acts) ++ more) (has_room session.machine.clock a (b ∷ acts) stretch.room)
    ∙ ap (preceded_by (answer_of_act session a)) (goes_on ∙ rest
    ∙ ap (λ (first : List ℕ). preceded_by first (arrived n cap stops (acts_on n cap next (b ∷ acts)) more)) silent
    ∙ ap (λ (s : Session). arrived n cap stops s more) (acts_on-cons n cap session a (b ∷ acts)))

-- ---- places only rise

arriving : (n cap : ℕ) (stops : ℕ → Bool) (session : Session) (acts : List Act)
    → session.position ≤ (going n cap stops session acts).session.position
    → (stop : Bool) → session.position
    ≤ (cond stop (answered_with session (at_line session.position)) (going n cap stops session acts)).session.position
arriving n cap stops session acts rest true = omega arith
arriving n cap stops session acts rest false = rest

-- a session never goes back
pub going-rises : (n cap : ℕ) (stops : ℕ → Bool) (session : Session) (acts : List Act)
    → session.position ≤ (going n cap stops session acts).session.position
unfolding going one_on
going-rises n cap stops session [] = omega arith
going-rises n cap stops session (a ∷ acts) =
    by (lacks_room session.machine.clock a)
    (arriving n cap stops next acts (going-rises n cap stops next acts) (stops next.position && has_acts acts))
  where
    next : Session
    next = acts_on n cap session (a ∷ [])

    by : (refused : Bool) → session.position + 1 ≤ (arrived n cap stops next acts).session.position → session.position
        ≤ (cond refused (answered_with session (refused_line CLOCK))
        (preceded_by (answer_of_act session a) (arrived n cap stops next acts))).session.position
    by true h = omega arith
    by false h = omega (arith, h)

-- nor where it has come to a place
pub arrived-rises : (n cap : ℕ) (stops : ℕ → Bool) (session : Session) (acts : List Act)
    → session.position ≤ (arrived n cap stops session acts).session.position
arrived-rises n cap stops session acts =
    arriving n cap stops session acts (going-rises n cap stops session acts) (stops session.position && has_acts acts)
