-- How far a delivery at one chip has come, message by message from the front, whatever the messages are kept in.
use Rattle.std.proofs.Common.{◌≡◌, ℕ, ◌+◌, ◌<◌, ◌≤◌, Bool, true, false, List, [], ◌∷◌, ◌++◌, length}
use Rattle.std.proofs.Common.{map, get_or, remove}
use Rattle.std.proofs.Common.{refl, sym, ap, ◌∙◌, arith, append_assoc}
use Rattle.std.proofs.lemmas.List.{map-append, append-nil, length-append}
use Rattle.cm_model.specs.declared.message.Message.{Message}
use Rattle.cm_model.specs.declared.message.Event.{Event}
use Rattle.cm_model.specs.declared.message.Event.TheVariants.{Delivered}
use Rattle.cm_model.specs.Processor.{Processor}
use Rattle.cm_model.specs.Letters.{can_receive, chip_after_delivery}
use Rattle.cm_model.specs.OneChip.{delivered, kept}
use Rattle.cm_model.specs.Delivery.{HasDelivered, HasHandedOver}

-- of a buffer, what a whole chip delivers and what stays
abbrev pub out_of : List Processor → List Message → List Message
out_of before ms = delivered (can_receive before) [] ms

abbrev pub staying_of : List Processor → List Message → List Message
staying_of before ms = kept (can_receive before) [] ms

-- the events of these deliveries
abbrev pub delivery_events : ℕ → List Message → List Event
delivery_events here ds = map (λ m. Delivered here m) ds

-- how far a scan has come: the messages are those kept of the ones seen, and then the rest
pub record Scan (before : List Processor) (old : List Message) (told : List Event) (here : ℕ) (chip : List Processor)
    (now : List Message) (place : ℕ) (events : List Event) : Type 0 where
  pub seen : List Message
  pub rest : List Message
  pub gone : HasDelivered before seen chip
  pub all : seen ++ rest ≡ old
  pub stay : now ≡ staying_of before seen ++ rest
  pub at : length (staying_of before seen) ≡ place
  pub log_is : events ≡ told ++ delivery_events here (out_of before seen)

pub scan_begins : (chip : List Processor) (ms : List Message) (told : List Event) (here : ℕ) → HasDelivered chip [] chip
    → Scan chip ms told here chip ms 0 told
scan_begins chip ms told here gone = record {
  seen = [];
  rest = ms;
  gone = gone;
  all = refl;
  stay = refl;
  at = refl;
  log_is = sym (append-nil told);
}

-- in a list that is cut in two, the element where the second part begins
next_is : {X : Type 0} (xs : List X) (x y : X) (ys : List X) → get_or (xs ++ x ∷ ys) (length xs) y ≡ x
next_is [] x y ys = refl
next_is (z ∷ xs) x y ys = next_is xs x y ys

next_removed : {X : Type 0} (xs : List X) (x : X) (ys : List X) → remove (xs ++ x ∷ ys) (length xs) ≡ xs ++ ys
next_removed [] x ys = refl
next_removed (z ∷ xs) x ys = ap (λ w. z ∷ w) (next_removed xs x ys)

-- what the step does, whatever was seen before
abbrev pub HandsOver : Bool → List Processor → Message → List Processor → List Processor → Type 0
HandsOver was_delivered before m chip after = (seen : List Message) → HasDelivered before seen chip
    → HasHandedOver was_delivered before seen m after

accepted_at : (before : List Processor) (old : List Message) (told : List Event) (here : ℕ) (after : List Processor)
    (now : List Message) (place : ℕ) (events : List Event)
    (m : Message) (seen rest : List Message) → HasHandedOver true before seen m after → seen ++ rest ≡ old
    → now ≡ staying_of before seen ++ rest → length (staying_of before seen) ≡ place
    → events ≡ told ++ delivery_events here (out_of before seen) → place < length now → get_or now place m ≡ m
    → Scan before old told here after (remove now place) place (events ++ Delivered here m ∷ [])
accepted_at before old told here after now place events m seen [] step all stay at log_is inside is =
    absurd (omega (arith, ap length stay, length-append (staying_of before seen) []))
accepted_at before old told here after now place events m seen (x ∷ rest) step all stay at log_is inside is =
    let m_is : x ≡ m = sym (next_is (staying_of before seen) x m rest) ∙ rw (at, ← stay) is in
    let same : staying_of before (seen ++ m ∷ []) ≡ staying_of before seen =
    step.kept_is ∙ append-nil (staying_of before seen) in
    record {
      seen = seen ++ m ∷ [];
      rest = rest;
      gone = step.gone;
      all = append_assoc seen (m ∷ []) rest ∙ ap (λ (z : Message). seen ++ z ∷ rest) (sym m_is) ∙ all;
      stay = ap (λ (ms : List Message). remove ms place) stay
          ∙ rw (← at) (next_removed (staying_of before seen) x rest)
          ∙ ap (λ (ms : List Message). ms ++ rest) (sym same);
      at = ap length same ∙ at;
      log_is = rw (log_is, step.delivered_is, map-append (λ d. Delivered here d) (out_of before seen) (m ∷ []))
          (append_assoc told (delivery_events here (out_of before seen)) (Delivered here m ∷ []));
    }

-- the message at the place is delivered, and taken out
pub scan_accepts : (before : List Processor) (old : List Message) (told : List Event) (here : ℕ)
    (chip after : List Processor) (now : List Message) (place : ℕ) (events : List Event)
    (m : Message) → Scan before old told here chip now place events → place < length now → get_or now place m ≡ m
    → HandsOver true before m chip after
    → Scan before old told here after (remove now place) place (events ++ Delivered here m ∷ [])
scan_accepts before old told here chip after now place events m scan inside is step =
    accepted_at before old told here after now place events m scan.seen scan.rest (step scan.seen scan.gone) scan.all
    scan.stay scan.at scan.log_is inside is

kept_at : (before : List Processor) (old : List Message) (told : List Event) (here : ℕ) (after : List Processor)
    (now : List Message) (place : ℕ) (events : List Event)
    (m : Message) (seen rest : List Message) → HasHandedOver false before seen m after → seen ++ rest ≡ old
    → now ≡ staying_of before seen ++ rest → length (staying_of before seen) ≡ place
    → events ≡ told ++ delivery_events here (out_of before seen) → place < length now → get_or now place m ≡ m
    → Scan before old told here after now (place + 1) events
kept_at before old told here after now place events m seen [] step all stay at log_is inside is =
    absurd (omega (arith, ap length stay, length-append (staying_of before seen) []))
kept_at before old told here after now place events m seen (x ∷ rest) step all stay at log_is inside is =
    let m_is : x ≡ m = sym (next_is (staying_of before seen) x m rest) ∙ rw (at, ← stay) is in
    let same : out_of before (seen ++ m ∷ []) ≡ out_of before seen = step.delivered_is
    ∙ append-nil (out_of before seen) in
    record {
      seen = seen ++ m ∷ [];
      rest = rest;
      gone = step.gone;
      all = append_assoc seen (m ∷ []) rest ∙ ap (λ (z : Message). seen ++ z ∷ rest) (sym m_is) ∙ all;
      stay = stay ∙ ap (λ (z : Message). staying_of before seen ++ z ∷ rest) m_is
          ∙ sym (append_assoc (staying_of before seen) (m ∷ []) rest)
          ∙ ap (λ (ms : List Message). ms ++ rest) (sym step.kept_is);
      at = ap length step.kept_is ∙ omega (arith, length-append (staying_of before seen) (m ∷ []), at);
      log_is = log_is ∙ ap (λ (ds : List Message). told ++ delivery_events here ds) (sym same);
    }

-- the message at the place is kept, and the scan goes on behind it
pub scan_keeps : (before : List Processor) (old : List Message) (told : List Event) (here : ℕ)
    (chip after : List Processor) (now : List Message) (place : ℕ) (events : List Event)
    (m : Message) → Scan before old told here chip now place events → place < length now → get_or now place m ≡ m
    → HandsOver false before m chip after
    → Scan before old told here after now (place + 1) events
scan_keeps before old told here chip after now place events m scan inside is step =
    kept_at before old told here after now place events m scan.seen scan.rest (step scan.seen scan.gone) scan.all
    scan.stay scan.at scan.log_is inside is

-- at the end: all were gone through
pub record IsScanned (before : List Processor) (old : List Message) (told : List Event) (here : ℕ)
    (chip : List Processor) (now : List Message) (events : List Event) : Type 0 where
  pub value : now ≡ staying_of before old
  pub chip_is : chip ≡ chip_after_delivery (out_of before old) before
  pub log_is : events ≡ told ++ delivery_events here (out_of before old)

scanned_at : (before : List Processor) (old : List Message) (told : List Event) (here : ℕ) (chip : List Processor)
    (now : List Message) (place : ℕ) (events : List Event) (seen rest : List Message)
    → HasDelivered before seen chip → seen ++ rest ≡ old → now ≡ staying_of before seen ++ rest
    → length (staying_of before seen) ≡ place
    → events ≡ told ++ delivery_events here (out_of before seen) → length now ≤ place
    → IsScanned before old told here chip now events
scanned_at before old told here chip now place events seen [] gone all stay at log_is past =
    let same : seen ≡ old = sym (append-nil seen) ∙ all in
    record {
      value = stay ∙ append-nil (staying_of before seen) ∙ ap (λ (ms : List Message). staying_of before ms) same;
      chip_is = gone.chip_is ∙ ap (λ (ms : List Message). chip_after_delivery (out_of before ms) before) same;
      log_is = log_is ∙ ap (λ (ms : List Message). told ++ delivery_events here (out_of before ms)) same;
    }
scanned_at before old told here chip now place events seen (x ∷ rest) gone all stay at log_is past =
    absurd (omega (arith, at, ap length stay, length-append (staying_of before seen) (x ∷ rest)))

pub scan_ends : (before : List Processor) (old : List Message) (told : List Event) (here : ℕ) (chip : List Processor)
    (now : List Message) (place : ℕ) (events : List Event)
    → Scan before old told here chip now place events → length now ≤ place
    → IsScanned before old told here chip now events
scan_ends before old told here chip now place events was past =
    scanned_at before old told here chip now place events was.seen was.rest was.gone was.all was.stay was.at was.log_is
    past
