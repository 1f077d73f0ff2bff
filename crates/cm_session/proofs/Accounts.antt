-- The account over a whole session: each command keeps it, but for what acts inject.
use Rattle.std.proofs.Common.{ℕ, ◌&&◌, Bool, true, false, cond, List, [], ◌∷◌}
use Rattle.std.proofs.Common.{length, drop, refl}
use Rattle.std.specs.Prelude.{Option, Some, None, Result, Ok, Err}
use Rattle.cm_bits.specs.Text.{words_of}
use Rattle.cm_model.specs.declared.act.Act.{Act}
use Rattle.cm_model.specs.Machine.{Machine}
use Rattle.cm_model.proofs.Following.{Follows, follows_itself, follows_on, chips_follow, run_follows, account_follows}
use Rattle.cm_session.specs.declared.command.Command.{Command}
use Rattle.cm_session.specs.declared.command.Command.TheVariants as command
use Rattle.cm_session.specs.declared.command.Refusal.{Refusal}
use Rattle.cm_session.specs.Answer.{at_line, refused_line, CLOCK}
use Rattle.cm_session.specs.Commands.{command_of}
use Rattle.cm_session.specs.Session.{Session, answered_with, preceded_by, lacks_room, answer_of_act, has_acts, going, at_breaks}
use Rattle.cm_session.specs.Session.{everywhere}
use Rattle.cm_session.specs.Session.{one_on, opening, obeyed, answered, after_line, after_lines}
use Rattle.cm_session.specs.Stretches.{acts_on}
use Rattle.cm_session.specs.Laws.{SessionsConserveTheAccount}

-- ---- commands

-- acts, wherever they stop
going_follows : (n cap : ℕ) (stops : ℕ → Bool) (session : Session) (acts : List Act)
    → Follows n session.machine (going n cap stops session acts).session.machine
unfolding going one_on
going_follows n cap stops session [] = follows_itself n session.machine
going_follows n cap stops session (a ∷ acts) =
    by (lacks_room session.machine.clock a) (stops next.position && has_acts acts) (going_follows n cap stops next acts)
  where
    next : Session
    next = acts_on n cap session (a ∷ [])

    by : (refused stop : Bool) → Follows n next.machine (going n cap stops next acts).session.machine
        → Follows n session.machine (cond refused (answered_with session (refused_line CLOCK)) (preceded_by (answer_of_act session a)
        (cond stop (answered_with next (at_line next.position)) (going n cap stops next acts)))).session.machine
    by true stop rest = follows_itself n session.machine
    by false true rest = run_follows n cap session.machine (a ∷ [])
    by false false rest =
        follows_on n session.machine next.machine (going n cap stops next acts).session.machine
        (run_follows n cap session.machine (a ∷ [])) rest

obeyed_follows : (n cap : ℕ) (acts : List Act) (session : Session) (command : Command)
    → Follows n session.machine (obeyed n cap acts session command).session.machine
obeyed_follows n cap acts session command.Step =
    going_follows n cap everywhere session (drop session.position acts)
obeyed_follows n cap acts session command.Run =
    going_follows n cap (at_breaks session.breaks) session (drop session.position acts)
obeyed_follows n cap acts session (command.Break i) = follows_itself n session.machine
obeyed_follows n cap acts session (command.Clear i) = follows_itself n session.machine
obeyed_follows n cap acts session command.WireOn = follows_itself n session.machine
obeyed_follows n cap acts session command.WireOff = follows_itself n session.machine
obeyed_follows n cap acts session command.WireShow = follows_itself n session.machine
obeyed_follows n cap acts session (command.Field place bits) = follows_itself n session.machine
obeyed_follows n cap acts session (command.Flag place number) = follows_itself n session.machine
obeyed_follows n cap acts session (command.Poke place address b) =
    chips_follow n session.machine _ refl refl
obeyed_follows n cap acts session (command.PokeFlag place number b) =
    chips_follow n session.machine _ refl refl
obeyed_follows n cap acts session (command.Buffer c) = follows_itself n session.machine
obeyed_follows n cap acts session (command.Find tag) = follows_itself n session.machine
obeyed_follows n cap acts session (command.Events c) = follows_itself n session.machine
obeyed_follows n cap acts session command.Rule = follows_itself n session.machine

pub answered_follows : (n cap : ℕ) (acts : List Act) (session : Session) (read : Result (Option Command) Refusal)
    → Follows n session.machine (answered n cap acts session read).session.machine
answered_follows n cap acts session (Ok None) = follows_itself n session.machine
answered_follows n cap acts session (Ok (Some it)) = obeyed_follows n cap acts session it
answered_follows n cap acts session (Err refusal) = follows_itself n session.machine

-- ---- lines

pub line_follows : (n cap : ℕ) (acts : List Act) (session : Session) (line : List ℕ)
    → Follows n session.machine (after_line n cap acts session line).session.machine
unfolding after_line
line_follows n cap acts session line = answered_follows n cap acts session (command_of n (length acts) (words_of line))

pub lines_follow : (n cap : ℕ) (acts : List Act) (session : Session) (lines : List (List ℕ))
    → Follows n session.machine (after_lines n cap acts session lines).session.machine
unfolding after_lines after_line
lines_follow n cap acts session [] = follows_itself n session.machine
lines_follow n cap acts session (line ∷ lines) =
    let next : Session = (after_line n cap acts session line).session in
    follows_on n session.machine next.machine (after_lines n cap acts next lines).session.machine
    (answered_follows n cap acts session (command_of n (length acts) (words_of line)))
    (lines_follow n cap acts next lines)

-- the account after a session is that before it, and the lines of what was injected
pub account_is_conserved : SessionsConserveTheAccount
account_is_conserved n cap machine acts lines p =
    let after : Machine = (after_lines n cap acts (opening machine (length acts)) lines).session.machine in
    account_follows p n machine after (lines_follow n cap acts (opening machine (length acts)) lines)
