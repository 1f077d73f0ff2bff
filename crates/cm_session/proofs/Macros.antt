-- A macro's acts in a session are its effect.
use Rattle.std.proofs.Common.{◌≡◌, ℕ, ◌+◌, ◌-◌, ◌≤◌, List, ◌++◌, length, take, drop, ap, ◌∙◌}
use Rattle.std.proofs.Common.{arith}
use Rattle.cm_model.specs.declared.act.Act.{Act}
use Rattle.cm_model.specs.Machine.{Machine, run_of}
use Rattle.cm_model.specs.Keeping.{IsMachine}
use Rattle.cm_model.proofs.Keeping.{IsMachine-run_of}
use Rattle.cm_model.proofs.Runs.{run_of-append}
use Rattle.cm_language.specs.declared.macros.Macro.{Macro}
use Rattle.cm_language.specs.declared.macros.Context.{Context}
use Rattle.cm_language.specs.Acts.{acts_of}
use Rattle.cm_language.specs.Laws.{machine_after_macro}
use Rattle.cm_language.specs.Places.{MacroStandsAt}
use Rattle.cm_language.proofs.AllMacros.{macros_are_right}
use Rattle.cm_session.specs.Session.{Session}
use Rattle.cm_session.specs.Ends.{session_after}
use Rattle.cm_session.specs.Whole.{acts_between, HasRun, HasDoneMacro, SessionsDoMacros}
use Rattle.cm_session.proofs.Running.{acts_between-parts, sessions_keep_machines, lines_run_their_acts}

-- the acts of a macro stand between the place of the first and that behind the last
acts_of_macro : (acts : List Act) (at : ℕ) (m : Macro) (context : Context) → MacroStandsAt acts at m context
    → acts_between at (at + length (acts_of m context)) acts ≡ acts_of m context
acts_of_macro acts at m context stands =
    let count : at + length (acts_of m context) - at ≡ length (acts_of m context) = omega arith in
    ap (λ k. take k (drop at acts)) count ∙ stands.there

-- run_of over three parts of a list
in_three : (n cap : ℕ) (machine : Machine) (first middle last : List Act)
    → run_of n cap machine (first ++ (middle ++ last))
    ≡ run_of n cap (run_of n cap (run_of n cap machine first) middle) last
in_three n cap machine first middle last =
    run_of-append n cap machine first (middle ++ last)
    ∙ run_of-append n cap (run_of n cap machine first) middle last

run_does_macro : (n cap : ℕ) (acts : List Act) (before after : Session) (at : ℕ) (m : Macro) (context : Context)
    → IsMachine n cap before.machine → HasRun n cap acts before after → MacroStandsAt acts at m context
    → before.position ≤ at → at + length (acts_of m context) ≤ after.position
    → HasDoneMacro n cap acts before after at m context
run_does_macro n cap acts before after at m context h run stands low high =
    let end : ℕ = at + length (acts_of m context) in
    let first : List Act = acts_between before.position at acts in
    let last : List Act = acts_between end after.position acts in
    let reached : Machine = run_of n cap before.machine first in
    let parts : acts_between before.position after.position acts ≡ first ++ (acts_of m context ++ last) =
    acts_between-parts before.position at after.position acts low (omega (arith, high))
    ∙ ap (λ z. first ++ z)
    (acts_between-parts at end after.position acts (omega arith) high
    ∙ ap (λ z. z ++ last) (acts_of_macro acts at m context stands)) in
    let does : (machine : Machine) → IsMachine n cap machine
    → run_of n cap machine (acts_of m context) ≡ machine_after_macro n m context machine =
    λ machine is. macros_are_right n cap m context machine is stands.fields stands.accepted in
    record {
      around = run.machine_is
          ∙ (ap (run_of n cap before.machine) parts
          ∙ (in_three n cap before.machine first (acts_of m context) last
          ∙ ap (λ (z : Machine). run_of n cap z last) (does reached (IsMachine-run_of n cap before.machine first h))));
      alone = λ begins ends. run.machine_is
          ∙ (ap (run_of n cap before.machine)
          (ap (λ a. acts_between a after.position acts) begins ∙ ap (λ b. acts_between at b acts) ends
          ∙ acts_of_macro acts at m context stands)
          ∙ does before.machine h);
    }

pub sessions_do_macros : SessionsDoMacros
sessions_do_macros n cap start acts done lines at m context h pokeless stands low high =
    run_does_macro n cap acts (session_after n cap acts start done) (session_after n cap acts start (done ++ lines))
    at m context (sessions_keep_machines n cap start acts done h)
    (lines_run_their_acts n cap start acts done lines h pokeless) stands low high
