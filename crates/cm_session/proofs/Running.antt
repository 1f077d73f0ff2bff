-- What lines do to a session's machine: they run acts, or poke it.
use Rattle.std.proofs.Common.{◌≡◌, ℕ, suc, ◌+◌, ◌-◌, ◌≤◌, ◌^◌, ◌&&◌, Bool, true, false, cond, List, [], ◌∷◌}
use Rattle.std.proofs.Common.{◌++◌, length, take, drop, Option, Some, None, Result, Ok, Err, IfOk, refl, sym, ap, ◌∙◌}
use Rattle.std.proofs.Common.{subst, arith}
use Rattle.std.proofs.Math.Seq.{take-add}
use Rattle.std.proofs.lemmas.List.{drop-drop}
use Rattle.cm_bits.specs.Text.{words_of}
use Rattle.cm_model.specs.declared.act.Act.{Act}
use Rattle.cm_model.specs.Machine.{Machine, run_of}
use Rattle.cm_model.specs.Keeping.{IsMachine}
use Rattle.cm_model.proofs.Keeping.{IsMachine-run_of}
use Rattle.cm_model.proofs.Runs.{run_of-append, run_of-nil, length-buffers-run_of}
use Rattle.cm_array.proofs.Poking.{pokes_keep_machines, flag_pokes_keep_machines}
use Rattle.cm_session.specs.declared.command.Command.{Command}
use Rattle.cm_session.specs.declared.command.Command.TheVariants as command
use Rattle.cm_session.specs.declared.command.Refusal.{Refusal}
use Rattle.cm_session.specs.Answer.{at_line, refused_line, CLOCK}
use Rattle.cm_session.specs.Bounds.{IsFor}
use Rattle.cm_session.specs.Commands.{command_of, command_named}
use Rattle.cm_session.specs.Operands.{◌>>=◌}
use Rattle.cm_session.specs.Session.{Session, Answered, answered_with, preceded_by, lacks_room, answer_of_act, one_on, has_acts, going}
use Rattle.cm_session.specs.Session.{everywhere, at_breaks, with_break, opening, obeyed, answered, after_line}
use Rattle.cm_session.specs.Session.{after_lines}
use Rattle.cm_session.specs.Ends.{session_after}
use Rattle.cm_session.specs.Stretches.{acts_on}
use Rattle.cm_session.specs.Whole.{SessionsKeepMachines, acts_between, is_poke, asks_poke, HaveNoPoke, HasRun}
use Rattle.cm_session.specs.Whole.{LinesRunTheirActs}
use Rattle.cm_session.proofs.Bounded.{named_is_for}
use Rattle.cm_session.proofs.Lines.{after_lines-append}

-- ---- acts, wherever they stop

-- so many of these acts were run
record HasGone (n cap : ℕ) (before after : Session) (acts : List Act) : Type 0 where
  pub count : ℕ
  pub position_is : after.position ≡ before.position + count
  pub machine_is : after.machine ≡ run_of n cap before.machine (take count acts)

stood_still : (n cap : ℕ) (session : Session) (acts : List Act) → length session.machine.buffers ≡ 2 ^ n
    → HasGone n cap session session acts
stood_still n cap session acts long = record {
  count = 0;
  position_is = omega arith;
  machine_is = sym (run_of-nil n cap session.machine long);
}

-- one act, and so many of the others
one_more : (n cap : ℕ) (session after : Session) (a : Act) (acts : List Act)
    → HasGone n cap (acts_on n cap session (a ∷ [])) after acts → HasGone n cap session after (a ∷ acts)
one_more n cap session after a acts rest = record {
  count = suc rest.count;
  position_is = omega (arith, rest.position_is);
  machine_is = rest.machine_is ∙ sym (run_of-append n cap session.machine (a ∷ []) (take rest.count acts));
}

only_one : (n cap : ℕ) (session : Session) (a : Act) (acts : List Act)
    → HasGone n cap session (acts_on n cap session (a ∷ [])) (a ∷ acts)
only_one n cap session a acts = record { count = 1; position_is = refl; machine_is = refl }

going_gone : (n cap : ℕ) (stops : ℕ → Bool) (session : Session) (acts : List Act)
    → length session.machine.buffers ≡ 2 ^ n
    → HasGone n cap session (going n cap stops session acts).session acts
unfolding going one_on
going_gone n cap stops session [] long = stood_still n cap session [] long
going_gone n cap stops session (a ∷ acts) long =
    by (lacks_room session.machine.clock a) (stops next.position && has_acts acts)
    (going_gone n cap stops next acts (length-buffers-run_of n cap session.machine (a ∷ [])))
  where
    next : Session
    next = acts_on n cap session (a ∷ [])

    by : (refused stop : Bool) → HasGone n cap next (going n cap stops next acts).session acts
        → HasGone n cap session (cond refused (answered_with session (refused_line CLOCK)) (preceded_by (answer_of_act session a)
        (cond stop (answered_with next (at_line next.position)) (going n cap stops next acts)))).session (a ∷ acts)
    by true stop rest = stood_still n cap session (a ∷ acts) long
    by false true rest = only_one n cap session a acts
    by false false rest = one_more n cap session (going n cap stops next acts).session a acts rest

-- ---- from one place to a later one

gone_has_run : (n cap : ℕ) (acts : List Act) (before after : Session)
    → HasGone n cap before after (drop before.position acts) → HasRun n cap acts before after
gone_has_run n cap acts before after h =
    let count : h.count ≡ after.position - before.position = omega (arith, h.position_is) in
    record {
      forward = omega (arith, h.position_is);
      machine_is = h.machine_is
          ∙ ap (λ k. run_of n cap before.machine (take k (drop before.position acts))) count;
    }

still_has_run : (n cap : ℕ) (acts : List Act) (before after : Session) → length before.machine.buffers ≡ 2 ^ n
    → after.position ≡ before.position → after.machine ≡ before.machine → HasRun n cap acts before after
still_has_run n cap acts before after long position machine =
    gone_has_run n cap acts before after
    (record {
      count = 0;
      position_is = omega (arith, position);
      machine_is = machine ∙ sym (run_of-nil n cap before.machine long);
    })

-- acts from one place to another, and on to a third
pub acts_between-parts : (a b c : ℕ) (acts : List Act) → a ≤ b → b ≤ c
    → acts_between a c acts ≡ acts_between a b acts ++ acts_between b c acts
acts_between-parts a b c acts first second =
    let whole : c - a ≡ (b - a) + (c - b) = omega arith in
    let place : a + (b - a) ≡ b = omega arith in
    ap (λ k. take k (drop a acts)) whole
    ∙ (take-add (b - a) (c - b) (drop a acts)
    ∙ ap (λ z. acts_between a b acts ++ take (c - b) z)
    (drop-drop (b - a) a acts ∙ ap (λ k. drop k acts) place))

-- one stretch of lines after another
pub run_on : (n cap : ℕ) (acts : List Act) (a b c : Session) → HasRun n cap acts a b → HasRun n cap acts b c
    → HasRun n cap acts a c
run_on n cap acts a b c h k = record {
  forward = omega (arith, h.forward, k.forward);
  machine_is = k.machine_is
      ∙ (ap (λ (m : Machine). run_of n cap m (acts_between b.position c.position acts)) h.machine_is
      ∙ (sym (run_of-append n cap a.machine (acts_between a.position b.position acts)
      (acts_between b.position c.position acts))
      ∙ ap (run_of n cap a.machine) (sym (acts_between-parts a.position b.position c.position acts h.forward
      k.forward))));
}

-- ---- a line

-- a poke leaves the logs as they are, any other line runs acts
abbrev Outcome : Bool → ℕ → ℕ → List Act → Session → Session → Type 0
Outcome true n cap acts before after = after.machine.logs ≡ before.machine.logs
Outcome false n cap acts before after = HasRun n cap acts before after

command_does : (n cap : ℕ) (acts : List Act) (session : Session) (it : Command)
    → length session.machine.buffers ≡ 2 ^ n
    → Outcome (is_poke it) n cap acts session (obeyed n cap acts session it).session
command_does n cap acts session command.Step long =
    gone_has_run n cap acts session (going n cap everywhere session (drop session.position acts)).session
    (going_gone n cap everywhere session (drop session.position acts) long)
command_does n cap acts session command.Run long =
    gone_has_run n cap acts session
    (going n cap (at_breaks session.breaks) session (drop session.position acts)).session
    (going_gone n cap (at_breaks session.breaks) session (drop session.position acts) long)
command_does n cap acts session (command.Break i) long =
    still_has_run n cap acts session (with_break session i true) long refl refl
command_does n cap acts session (command.Clear i) long =
    still_has_run n cap acts session (with_break session i false) long refl refl
command_does n cap acts session command.WireOn long =
    still_has_run n cap acts session (record session { report = true }) long refl refl
command_does n cap acts session command.WireOff long =
    still_has_run n cap acts session (record session { report = false }) long refl refl
command_does n cap acts session command.WireShow long = still_has_run n cap acts session session long refl refl
command_does n cap acts session (command.Field place bits) long =
    still_has_run n cap acts session session long refl refl
command_does n cap acts session (command.Flag place number) long =
    still_has_run n cap acts session session long refl refl
command_does n cap acts session (command.Poke place address b) long = refl
command_does n cap acts session (command.PokeFlag place number b) long = refl
command_does n cap acts session (command.Buffer c) long = still_has_run n cap acts session session long refl refl
command_does n cap acts session (command.Find tag) long = still_has_run n cap acts session session long refl refl
command_does n cap acts session (command.Events c) long = still_has_run n cap acts session session long refl refl
command_does n cap acts session command.Rule long = still_has_run n cap acts session session long refl refl

read_does : (n cap : ℕ) (acts : List Act) (session : Session) (read : Result (Option Command) Refusal)
    → length session.machine.buffers ≡ 2 ^ n
    → Outcome (asks_poke read) n cap acts session (answered n cap acts session read).session
read_does n cap acts session (Ok None) long = still_has_run n cap acts session session long refl refl
read_does n cap acts session (Ok (Some it)) long = command_does n cap acts session it long
read_does n cap acts session (Err refusal) long = still_has_run n cap acts session session long refl refl

-- whether a line asks for a poke
abbrev pub pokes : ℕ → List Act → List ℕ → Bool
pokes n acts line = asks_poke (command_of n (length acts) (words_of line))

-- a line that asks for no poke
pub line_runs : (n cap : ℕ) (acts : List Act) (session : Session) (line : List ℕ)
    → length session.machine.buffers ≡ 2 ^ n → pokes n acts line ≡ false
    → HasRun n cap acts session (after_line n cap acts session line).session
unfolding after_line
line_runs n cap acts session line long pokeless =
    subst (λ (b : Bool). Outcome b n cap acts session (after_line n cap acts session line).session) pokeless
    (read_does n cap acts session (command_of n (length acts) (words_of line)) long)

-- one that asks for a poke
pub line_pokes : (n cap : ℕ) (acts : List Act) (session : Session) (line : List ℕ)
    → length session.machine.buffers ≡ 2 ^ n → pokes n acts line ≡ true
    → (after_line n cap acts session line).session.machine.logs ≡ session.machine.logs
unfolding after_line
line_pokes n cap acts session line long poked =
    subst (λ (b : Bool). Outcome b n cap acts session (after_line n cap acts session line).session) poked
    (read_does n cap acts session (command_of n (length acts) (words_of line)) long)

-- ---- machines are kept

run_keeps : (n cap : ℕ) (acts : List Act) (before after : Session) → HasRun n cap acts before after
    → IsMachine n cap before.machine → IsMachine n cap after.machine
run_keeps n cap acts before after run h =
    subst (λ (m : Machine). IsMachine n cap m) (sym run.machine_is)
    (IsMachine-run_of n cap before.machine (acts_between before.position after.position acts) h)

obeyed_keeps : (n cap : ℕ) (acts : List Act) (session : Session) (it : Command) → IsFor n (length acts) it
    → IsMachine n cap session.machine → IsMachine n cap (obeyed n cap acts session it).session.machine
obeyed_keeps n cap acts session command.Step is h =
    run_keeps n cap acts session (obeyed n cap acts session command.Step).session
    (command_does n cap acts session command.Step h.buffer_count) h
obeyed_keeps n cap acts session command.Run is h =
    run_keeps n cap acts session (obeyed n cap acts session command.Run).session
    (command_does n cap acts session command.Run h.buffer_count) h
obeyed_keeps n cap acts session (command.Break i) is h = h
obeyed_keeps n cap acts session (command.Clear i) is h = h
obeyed_keeps n cap acts session command.WireOn is h = h
obeyed_keeps n cap acts session command.WireOff is h = h
obeyed_keeps n cap acts session command.WireShow is h = h
obeyed_keeps n cap acts session (command.Field place bits) is h = h
obeyed_keeps n cap acts session (command.Flag place number) is h = h
obeyed_keeps n cap acts session (command.Poke place address b) is h =
    (pokes_keep_machines n cap session.machine place.chip place.proc address b is h).machine
obeyed_keeps n cap acts session (command.PokeFlag place number b) is h =
    (flag_pokes_keep_machines n cap session.machine place.chip place.proc number b is.0 is.1 h).machine
obeyed_keeps n cap acts session (command.Buffer c) is h = h
obeyed_keeps n cap acts session (command.Find tag) is h = h
obeyed_keeps n cap acts session (command.Events c) is h = h
obeyed_keeps n cap acts session command.Rule is h = h

-- a line of words, whatever it is read as
named_keeps : (n cap : ℕ) (acts : List Act) (session : Session) (named : Result Command Refusal)
    → IfOk named (IsFor n (length acts)) → IsMachine n cap session.machine
    → IsMachine n cap (answered n cap acts session (named >>= λ asked. Ok (Some asked))).session.machine
named_keeps n cap acts session (Ok it) is h = obeyed_keeps n cap acts session it is h
named_keeps n cap acts session (Err refusal) is h = h

words_keep : (n cap : ℕ) (acts : List Act) (session : Session) (words : List (List ℕ)) → IsMachine n cap session.machine
    → IsMachine n cap (answered n cap acts session (command_of n (length acts) words)).session.machine
words_keep n cap acts session [] h = h
words_keep n cap acts session (name ∷ operands) h =
    named_keeps n cap acts session (command_named n (length acts) name operands)
    (named_is_for n (length acts) name operands) h

pub line_keeps : (n cap : ℕ) (acts : List Act) (session : Session) (line : List ℕ) → IsMachine n cap session.machine
    → IsMachine n cap (after_line n cap acts session line).session.machine
unfolding after_line
line_keeps n cap acts session line h = words_keep n cap acts session (words_of line) h

pub lines_keep : (n cap : ℕ) (acts : List Act) (session : Session) (lines : List (List ℕ))
    → IsMachine n cap session.machine → IsMachine n cap (after_lines n cap acts session lines).session.machine
unfolding after_lines
lines_keep n cap acts session [] h = h
lines_keep n cap acts session (line ∷ lines) h =
    lines_keep n cap acts (after_line n cap acts session line).session lines (line_keeps n cap acts session line h)

pub sessions_keep_machines : SessionsKeepMachines
sessions_keep_machines n cap start acts lines h = lines_keep n cap acts (opening start (length acts)) lines h

-- ---- lines without a poke

lines_run : (n cap : ℕ) (acts : List Act) (session : Session) (lines : List (List ℕ)) → IsMachine n cap session.machine
    → HaveNoPoke n (length acts) lines → HasRun n cap acts session (after_lines n cap acts session lines).session
unfolding after_lines
lines_run n cap acts session [] h pokeless = still_has_run n cap acts session session h.buffer_count refl refl
lines_run n cap acts session (line ∷ lines) h pokeless =
    let next : Session = (after_line n cap acts session line).session in
    run_on n cap acts session next (after_lines n cap acts next lines).session
    (line_runs n cap acts session line h.buffer_count pokeless.0)
    (lines_run n cap acts next lines (line_keeps n cap acts session line h) pokeless.1)

-- the session after two parts is that after the second part, from the one that the first part leaves
pub session_after-append : (n cap : ℕ) (acts : List Act) (start : Machine) (done lines : List (List ℕ))
    → (after_lines n cap acts (session_after n cap acts start done) lines).session
    ≡ session_after n cap acts start (done ++ lines)
session_after-append n cap acts start done lines =
    sym (ap (λ (a : Answered). a.session) (after_lines-append n cap acts (opening start (length acts)) done lines))

pub lines_run_their_acts : LinesRunTheirActs
lines_run_their_acts n cap start acts done lines h pokeless =
    let before : Session = session_after n cap acts start done in
    subst (λ (s : Session). HasRun n cap acts before s) (session_after-append n cap acts start done lines)
    (lines_run n cap acts before lines (sessions_keep_machines n cap start acts done h) pokeless)
