-- A question is answered as a session answers it.
use Rattle.std.proofs.Common.{◌≡◌, ℕ, Bool, true, false, ◌||◌, if◌then◌else◌, Option, Some, None}
use Rattle.std.proofs.Common.{Result, Ok, Err, List, [], ◌∷◌, length, codes, bytes_eq, refl, sym, ap, ◌∙◌, subst, ⊎_elim}
use Rattle.std.proofs.lemmas.Bool.{cases_Bool, false≢true}
use Rattle.cm_bits.specs.Text.{words_of}
use Rattle.cm_model.specs.declared.act.Act.{Act}
use Rattle.cm_model.specs.Machine.{Machine}
use Rattle.cm_session.specs.declared.command.Command.{Command}
use Rattle.cm_session.specs.declared.command.Command.TheVariants as command
use Rattle.cm_session.specs.declared.command.Refusal.{Refusal}
use Rattle.cm_session.specs.declared.command.Refusal.TheVariants.{Word, Operands}
use Rattle.cm_session.specs.Operands.{◌>>=◌}
use Rattle.cm_session.specs.Commands.{index_of, command_of}
use Rattle.cm_session.specs.Session as session
use Rattle.cm_session.specs.Session.{Session}
use Rattle.lab_front.specs.Asked.{is_of_acts, is_report, as_question, question_of}
use Rattle.lab_front.specs.Front.{Front, FrontAnswered, asked, answered_to}
use Rattle.lab_front.specs.Laws.{is_of_machine, AnswerAlike, FrontsAnswerAsSessions}
use Rattle.lab_front.proofs.Saying.{after_asked}
use Rattle.lab_front.proofs.Words.{asked_singly}

-- ---- the machine alone bears on the answer

-- what two sessions answer, and their machines then
record Same (one other : session.Answered) : Type 0 where
  pub answer : one.answer ≡ other.answer
  pub machine : one.session.machine ≡ other.session.machine

of_machine : (n cap : ℕ) (acts : List Act) (here : Session) (it : Command) → is_of_machine it ≡ true
    → Same (session.obeyed n cap [] (session.opening here.machine 0) it) (session.obeyed n cap acts here it)
of_machine n cap acts here command.Step about = absurd (false≢true about)
of_machine n cap acts here command.Run about = absurd (false≢true about)
of_machine n cap acts here (command.Break i) about = absurd (false≢true about)
of_machine n cap acts here (command.Clear i) about = absurd (false≢true about)
of_machine n cap acts here command.WireOn about = absurd (false≢true about)
of_machine n cap acts here command.WireOff about = absurd (false≢true about)
of_machine n cap acts here command.WireShow about = record { answer = refl; machine = refl }
of_machine n cap acts here (command.Field place bits) about = record { answer = refl; machine = refl }
of_machine n cap acts here (command.Flag place number) about = record { answer = refl; machine = refl }
of_machine n cap acts here (command.Poke place address b) about = record { answer = refl; machine = refl }
of_machine n cap acts here (command.PokeFlag place number b) about = record { answer = refl; machine = refl }
of_machine n cap acts here (command.Buffer c) about = record { answer = refl; machine = refl }
of_machine n cap acts here (command.Find tag) about = record { answer = refl; machine = refl }
of_machine n cap acts here (command.Events c) about = record { answer = refl; machine = refl }
of_machine n cap acts here command.Rule about = record { answer = refl; machine = refl }

-- ---- a session reads the same words alike, however many acts it has

or_false : (a b : Bool) → (a || b) ≡ false → (a ≡ false) × (b ≡ false)
or_false true b is = absurd (false≢true (sym is))
or_false false b is = (refl, is)

not_acts : (b : Bool) (q : Result (Option Command) Refusal) (it : Command)
    → (if b then Err Word else q) ≡ Ok (Some it) → (b ≡ false) × (q ≡ Ok (Some it))
not_acts true q it is = let e : Err Word ≡ Ok (Some it) = is in absurd (let f = e in cc)
not_acts false q it is = (refl, is)

-- a line that asks this
abbrev asks_it : Command → Result (Option Command) Refusal
asks_it it = Ok (Some it)

unturned : (q : Result (Option Command) Refusal) (it : Command) → as_question q ≡ Ok (Some it) → q ≡ Ok (Some it)
unturned (Err refusal) it is = is
unturned (Ok None) it is = is
unturned (Ok (Some x)) it is = by (is_report x) is where
  by : (b : Bool) → (if b then Err Operands else asks_it x) ≡ asks_it it → asks_it x ≡ asks_it it
  by true h = absurd (let f : Err Operands ≡ asks_it it = h in cc)
  by false h = h

-- `clear` asks nothing of the machine
not_clear : (r : Result ℕ Refusal) (it : Command) → is_of_machine it ≡ true
    → ((r >>= λ i. Ok (command.Clear i)) >>= λ made. Ok (Some made)) ≡ Ok (Some it) → false ≡ true
not_clear (Err refusal) it about is = absurd (let f : Err refusal ≡ Ok (Some it) = is in cc)
not_clear (Ok i) it about is =
    let same : command.Clear i ≡ it = (let f : Ok (Some (command.Clear i)) ≡ Ok (Some it) = is in cc) in
    ap is_of_machine same ∙ about

read_alike : (n count : ℕ) (name : List ℕ) (operands : List (List ℕ)) (it : Command) → is_of_acts name ≡ false
    → is_of_machine it ≡ true → command_of n 0 (name ∷ operands) ≡ Ok (Some it)
    → command_of n count (name ∷ operands) ≡ Ok (Some it)
read_alike n count name operands it other about is =
    let no_step = or_false (bytes_eq name (codes "step")) (bytes_eq name (codes "run") || bytes_eq name (codes "break")) other in
    let no_run = or_false (bytes_eq name (codes "run")) (bytes_eq name (codes "break")) no_step.1 in
    ⊎_elim
    (λ (clear : bytes_eq name (codes "clear") ≡ true). absurd (false≢true (not_clear (index_of 0 operands) it about
    (subst (λ (q : Result (Option Command) Refusal). q ≡ Ok (Some it))
    (rw no_step.0 (rw no_run.0 (rw no_run.1 (rw clear refl)))) is))))
    (λ (other : bytes_eq name (codes "clear") ≡ false).
    subst (λ (q : Result (Option Command) Refusal). q ≡ Ok (Some it)) (rw no_run.1 (rw other refl)) is)
    (cases_Bool (bytes_eq name (codes "clear")))

heard : (n count : ℕ) (words : List (List ℕ)) (it : Command) → is_of_machine it ≡ true
    → question_of n words ≡ Ok (Some it) → command_of n count words ≡ Ok (Some it)
heard n count [] it about is = is
heard n count (name ∷ operands) it about is =
    let two = not_acts (is_of_acts name) (as_question (command_of n 0 (name ∷ operands))) it is in
    read_alike n count name operands it two.0 about (unturned (command_of n 0 (name ∷ operands)) it two.1)

-- ---- a line

alike : (n cap : ℕ) (acts : List Act) (here : Session) (front : Front) (it : Command)
    (question heard_it : Result (Option Command) Refusal) → here.machine ≡ front.machine → is_of_machine it ≡ true
    → question ≡ Ok (Some it) → heard_it ≡ Ok (Some it)
    → AnswerAlike (asked n cap front question) (session.answered n cap acts here heard_it)
alike n cap acts here front it question heard_it is about asks hears =
    let free = of_machine n cap acts here it about in
    record {
      answer = ap (λ (q : Result (Option Command) Refusal). (answered_to n cap front.machine q).answer) asks
          ∙ ap (λ (m : Machine). (session.obeyed n cap [] (session.opening m 0) it).answer) (sym is)
          ∙ free.answer
          ∙ ap (λ (q : Result (Option Command) Refusal). (session.answered n cap acts here q).answer) (sym hears);
      machine = ap (λ (q : Result (Option Command) Refusal). (answered_to n cap front.machine q).session.machine) asks
          ∙ ap (λ (m : Machine). (session.obeyed n cap [] (session.opening m 0) it).session.machine) (sym is)
          ∙ free.machine
          ∙ ap (λ (q : Result (Option Command) Refusal). (session.answered n cap acts here q).session.machine) (sym hears);
    }

pub fronts_answer_as_sessions : FrontsAnswerAsSessions
unfolding session.after_line
fronts_answer_as_sessions n cap front acts here line it is other asks about =
    let both = alike n cap acts here front it (question_of n (words_of line))
    (command_of n (length acts) (words_of line)) is about asks
    (heard n (length acts) (words_of line) it about asks) in
    let question = after_asked n cap front line other (asked_singly n (words_of line) it asks) in
    record {
      answer = ap (λ (a : FrontAnswered). a.answer) question ∙ both.answer;
      machine = ap (λ (a : FrontAnswered). a.front.machine) question ∙ both.machine;
    }
