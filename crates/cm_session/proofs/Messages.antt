-- Messages over a whole session: each is in one place, and each delivery was one of a line's petit cycles.
use Rattle.std.proofs.Common.{◌≡◌, ℕ, ◌<◌, ◌≤◌, ◌^◌, true, false, List, [], ◌∷◌, ◌++◌, length, refl}
use Rattle.std.proofs.Common.{sym, ap, ◌∙◌, subst, ⊎_elim, arith}
use Rattle.std.proofs.lemmas.Bool.{cases_Bool, cases_lt}
use Rattle.std.proofs.lemmas.List.{get_or_append_left}
use Rattle.cm_model.specs.declared.act.Act.{Act}
use Rattle.cm_model.specs.declared.message.Message.{Message}
use Rattle.cm_model.specs.declared.message.Event.{Event}
use Rattle.cm_model.specs.declared.message.Event.TheVariants.{Delivered}
use Rattle.cm_model.specs.Array.{nth_or_nil}
use Rattle.cm_model.specs.Machine.{Machine}
use Rattle.cm_model.specs.Keeping.{IsMachine}
use Rattle.cm_model.specs.Deliveries.{IsAt, IsDeliveryOf}
use Rattle.cm_model.proofs.Following.{Follows, follows_itself, follows_on}
use Rattle.cm_model.proofs.Moments.{deliveries_of}
use Rattle.cm_model.proofs.OnePlace.{messages_in_one_place}
use Rattle.cm_session.specs.Session.{Session, opening, after_line, after_lines, left}
use Rattle.cm_session.specs.Whole.{HasRun, SessionsKeepMessages, acts_run, SessionsDeliver}
use Rattle.cm_session.proofs.Accounts.{line_follows, lines_follow}
use Rattle.cm_session.proofs.Running.{pokes, line_runs, line_pokes, line_keeps, sessions_keep_machines}

pub sessions_keep_messages : SessionsKeepMessages
sessions_keep_messages n cap start acts lines line h message =
    messages_in_one_place n cap start (left n cap start acts lines) line
    (lines_follow n cap acts (opening start (length acts)) lines)
    (sessions_keep_machines n cap start acts lines h) message

-- ---- deliveries

-- from this session on, one of the lines ran a petit cycle with this delivery
record HasDelivered (n cap : ℕ) (start : Machine) (acts : List Act) (session : Session) (lines : List (List ℕ))
    (c i d : ℕ) (m : Message) : Type 0 where
  pub done : List (List ℕ)
  pub line : List ℕ
  pub more : List (List ℕ)
  pub lines_are : lines ≡ done ++ line ∷ more
  pub delivery : IsDeliveryOf n cap start (after_lines n cap acts session done).session.machine
      (acts_run n cap acts (after_lines n cap acts session done).session line) c i d m

-- it was the first line
delivered_now : (n cap : ℕ) (start : Machine) (acts : List Act) (session : Session) (line : List ℕ)
    (lines : List (List ℕ)) (c i d : ℕ) (m : Message) → Follows n start session.machine
    → IsMachine n cap session.machine → c < 2 ^ n → length (nth_or_nil session.machine.logs c) ≤ i
    → IsAt (nth_or_nil (after_line n cap acts session line).session.machine.logs c) i (Delivered d m)
    → HasDelivered n cap start acts session (line ∷ lines) c i d m
unfolding after_lines
delivered_now n cap start acts session line lines c i d m follows h l old there =
    let next : Session = (after_line n cap acts session line).session in
    ⊎_elim
    (λ (poked : pokes n acts line ≡ true).
    let same : nth_or_nil next.machine.logs c ≡ nth_or_nil session.machine.logs c =
    ap (λ logs. nth_or_nil logs c) (line_pokes n cap acts session line h.buffer_count poked) in
    absurd (omega (arith, there.0, old, ap length same)))
    (λ (pokeless : pokes n acts line ≡ false).
    let run : HasRun n cap acts session next = line_runs n cap acts session line h.buffer_count pokeless in
    record {
      done = [];
      line = line;
      more = lines;
      lines_are = refl;
      delivery = deliveries_of n cap start session.machine (acts_run n cap acts session line) c i d m follows h l old
          (subst (λ (z : Machine). IsAt (nth_or_nil z.logs c) i (Delivered d m)) run.machine_is there);
    })
    (cases_Bool (pokes n acts line))

-- it was a later one
delivered_later : (n cap : ℕ) (start : Machine) (acts : List Act) (session : Session) (line : List ℕ)
    (lines : List (List ℕ)) (c i d : ℕ) (m : Message)
    → HasDelivered n cap start acts (after_line n cap acts session line).session lines c i d m
    → HasDelivered n cap start acts session (line ∷ lines) c i d m
unfolding after_lines
delivered_later n cap start acts session line lines c i d m it = record {
  done = line ∷ it.done;
  line = it.line;
  more = it.more;
  lines_are = ap (λ z. line ∷ z) it.lines_are;
  delivery = it.delivery;
}

delivered_in_lines : (n cap : ℕ) (start : Machine) (acts : List Act) (session : Session) (lines : List (List ℕ))
    (c i d : ℕ) (m : Message) → Follows n start session.machine → IsMachine n cap session.machine → c < 2 ^ n
    → length (nth_or_nil session.machine.logs c) ≤ i
    → IsAt (nth_or_nil (after_lines n cap acts session lines).session.machine.logs c) i (Delivered d m)
    → HasDelivered n cap start acts session lines c i d m
unfolding after_lines
delivered_in_lines n cap start acts session [] c i d m follows h l old there = absurd (omega (arith, there.0, old))
delivered_in_lines n cap start acts session (line ∷ lines) c i d m follows h l old there =
    let next : Session = (after_line n cap acts session line).session in
    let log : List Event = nth_or_nil next.machine.logs c in
    let grown = (lines_follow n cap acts next lines).grows c l in
    ⊎_elim
    (λ (now : i < length log).
    let same : IsAt (log ++ grown.0) i (Delivered d m) =
    subst (λ (events : List Event). IsAt events i (Delivered d m)) grown.1 there in
    delivered_now n cap start acts session line lines c i d m follows h l old
    (now, sym (get_or_append_left log grown.0 (Delivered d m) i now) ∙ same.1))
    (λ (after : length log ≤ i).
    delivered_later n cap start acts session line lines c i d m
    (delivered_in_lines n cap start acts next lines c i d m
    (follows_on n start session.machine next.machine follows (line_follows n cap acts session line))
    (line_keeps n cap acts session line h) l after there))
    (cases_lt i (length log))

pub sessions_deliver : SessionsDeliver
sessions_deliver n cap start acts lines c i d m h l old there =
    let it : HasDelivered n cap start acts (opening start (length acts)) lines c i d m =
    delivered_in_lines n cap start acts (opening start (length acts)) lines c i d m (follows_itself n start) h l old
    there in
    record { done = it.done; line = it.line; more = it.more; lines_are = it.lines_are; delivery = it.delivery }
