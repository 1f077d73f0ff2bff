-- Each line of commands is done as it is written.
use Rattle.std.proofs.Common.{◌≡◌, ℕ, ◌^◌, Option, Some, None, Result, Ok, Err, List, [], ◌∷◌, ◌++◌, length, refl}
use Rattle.std.proofs.Common.{ap, ◌∙◌, append-nil}
use Rattle.cm_bits.specs.Text.{words_of}
use Rattle.cm_model.specs.declared.act.Act.{Act}
use Rattle.cm_session.specs.declared.command.Command.{Command}
use Rattle.cm_session.specs.declared.command.Command.TheVariants as command
use Rattle.cm_session.specs.declared.command.Refusal.{Refusal}
use Rattle.cm_session.specs.Commands.{command_of}
use Rattle.cm_session.specs.Session.{Session, Answered, preceded_by, everywhere, at_breaks, obeyed, answered}
use Rattle.cm_session.specs.Session.{opening, after_line, after_lines}
use Rattle.cm_session.specs.Laws.{LinesCanBeParted}
use Rattle.cm_whole.specs.Inputs.{Setup, session_at, written_at, next_line}
use Rattle.cm_whole.specs.Acts.{Does, DoesAsRead, IsLineDone}
use Rattle.cm_whole.proofs.Going.{goes_on}

does : (n cap : ℕ) (acts : List Act) (before : Session) (asked : Command) → length before.machine.buffers ≡ 2 ^ n
    → Does n cap acts before (obeyed n cap acts before asked) asked
does n cap acts before command.Step long = goes_on n cap acts everywhere before long
does n cap acts before command.Run long = goes_on n cap acts (at_breaks before.breaks) before long
does n cap acts before (command.Poke place address b) long = refl
does n cap acts before (command.PokeFlag place number b) long = refl
does n cap acts before (command.Break i) long = refl
does n cap acts before (command.Clear i) long = refl
does n cap acts before command.WireOn long = refl
does n cap acts before command.WireOff long = refl
does n cap acts before command.WireShow long = refl
does n cap acts before (command.Field place bits) long = refl
does n cap acts before (command.Flag place number) long = refl
does n cap acts before (command.Buffer c) long = refl
does n cap acts before (command.Find tag) long = refl
does n cap acts before (command.Events c) long = refl
does n cap acts before command.Rule long = refl

does_as_read : (n cap : ℕ) (acts : List Act) (before : Session) (read : Result (Option Command) Refusal)
    → length before.machine.buffers ≡ 2 ^ n → DoesAsRead n cap acts before (answered n cap acts before read) read
does_as_read n cap acts before (Ok (Some asked)) long = does n cap acts before asked long
does_as_read n cap acts before (Ok None) long = refl
does_as_read n cap acts before (Err refusal) long = refl

-- the lines before, and the one that comes next
one_more : LinesCanBeParted → (setup : Setup) (before : List (List ℕ)) (line : List ℕ)
    → after_lines setup.n setup.cap setup.program.acts (opening setup.machine (length setup.program.acts))
    (before ++ line ∷ [])
    ≡ preceded_by (written_at setup before) (preceded_by (next_line setup before line).answer
    (record { session = (next_line setup before line).session; answer = [] }))
unfolding after_lines
one_more parted setup before line =
    parted setup.n setup.cap setup.program.acts (opening setup.machine (length setup.program.acts)) before (line ∷ [])

pub is_done : LinesCanBeParted → (setup : Setup) (before : List (List ℕ)) (line : List ℕ)
    → length (session_at setup before).machine.buffers ≡ 2 ^ setup.n → IsLineDone setup before line
unfolding after_line
is_done parted setup before line long =
    let both = one_more parted setup before line in
    let next : Answered = next_line setup before line in
    record {
      session_is = ap (λ (a : Answered). a.session) both;
      written = ap (λ (a : Answered). a.answer) both ∙ ap (λ z. written_at setup before ++ z) (append-nil next.answer);
      does = does_as_read setup.n setup.cap setup.program.acts (session_at setup before)
          (command_of setup.n (length setup.program.acts) (words_of line)) long;
    }
