-- What injection tells the processors of a chip, and what one delivery takes.
use Rattle.std.proofs.Common.{◌≡◌, ℕ, ◌+◌, ◌<◌, ◌≤◌, Bool, true, false, not, cond, eqb, ◌&&◌, List, [], ◌∷◌, length}
use Rattle.std.proofs.Common.{refl, sym, ◌∙◌, ap, subst, ⊎_elim, arith}
use Rattle.std.proofs.lemmas.Bool.{cases_Bool, cases_eq, and_parts, and_right, or_left, or_right, eq-eqb}
use Rattle.std.proofs.lemmas.Bool.{ne_eqb, both_ways, not-true}
use Rattle.std.proofs.lemmas.List.{length-set, get_or-set_same, get_or-set_other}
use Rattle.std.proofs.lemmas.List.Elements.{All-nil, All-cons}
use Rattle.std.proofs.lemmas.List.Sums.{sum_by-cons}
use Rattle.std.specs.Prelude.{slice_set}
use Rattle.std.specs.List.{All, count_by}
use Rattle.cm_model.specs.declared.message.Message.{Message}
use Rattle.cm_model.specs.Processor.{Processor, SEND, ACK, flag}
use Rattle.cm_model.specs.Chip.{processor_at, no_processor}
use Rattle.cm_model.specs.Whole.{IsProcessor, IsChip}
use Rattle.cm_model.specs.Letters.{is_among, is_for, has_arrived, processor_after_injection}
use Rattle.cm_model.specs.Letters.{chip_after_injection, IsAcknowledged, AreDeliveries}
use Rattle.cm_model.specs.OneChip.{is_accepted, arrived_for, delivered}
use Rattle.cm_model.proofs.Each.{get_or-each_below}

-- ---- injection

acknowledged : (was_taken : Bool) (processor : Processor) → IsProcessor processor
    → IsAcknowledged was_taken processor (processor_after_injection was_taken processor)
acknowledged true processor h =
    let flags : length processor.flags ≡ 16 = h.flags in
    let still : length (slice_set processor.flags SEND false) ≡ 16 = length-set processor.flags SEND false ∙ flags in
    record {
      ack = get_or-set_same (slice_set processor.flags SEND false) ACK true false (omega arith);
      send = get_or-set_other (slice_set processor.flags SEND false) ACK SEND true false (λ e. omega (arith, e))
          ∙ (get_or-set_same processor.flags SEND false false (omega arith)
          ∙ sym (and_right (flag processor SEND) false refl));
    }
acknowledged false processor h =
    let flags : length processor.flags ≡ 16 = h.flags in
    record {
      ack = get_or-set_same processor.flags ACK false false (omega arith);
      send = get_or-set_other processor.flags ACK SEND false false (λ e. omega (arith, e))
          ∙ sym (and_true (flag processor SEND));
    }
  where
    and_true : (b : Bool) → (b && true) ≡ b
    and_true true = refl
    and_true false = refl

pub senders_are_acknowledged : (taken : List ℕ) (chip : List Processor) (p : ℕ) → IsChip chip → p < 16 →
    IsAcknowledged (is_among p taken) (processor_at chip p) (processor_at (chip_after_injection taken chip) p)
unfolding chip_after_injection
senders_are_acknowledged taken chip p h l =
    subst (λ (q : Processor). IsAcknowledged (is_among p taken) (processor_at chip p) q)
    (sym (get_or-each_below 16 (λ k. processor_after_injection (is_among k taken) (processor_at chip k)) p
    no_processor l))
    (acknowledged (is_among p taken) (processor_at chip p) (h.each p l))

-- ---- delivery

accepted_parts : (receives : ℕ → Bool) (before : List ℕ) (m : Message) → is_accepted receives before m ≡ true →
    (has_arrived m ≡ true) × (receives m.proc ≡ true) × (is_among m.proc before ≡ false)
accepted_parts receives before m e =
    let one = and_parts (has_arrived m) (receives m.proc && not (is_among m.proc before)) e in
    let two = and_parts (receives m.proc) (not (is_among m.proc before)) one.1 in
    (one.0, two.0, not-true (is_among m.proc before) two.1)

all_home : (receives : ℕ → Bool) (before : List ℕ) (ms : List Message)
    → All (λ m. has_arrived m ≡ true) (delivered receives before ms)
all_home receives before [] = All-nil (λ (m : Message). has_arrived m ≡ true)
all_home receives before (m ∷ ms) =
    ⊎_elim
    (λ (e : is_accepted receives before m ≡ true). rw e
    (All-cons (λ q. has_arrived q ≡ true) m (delivered receives (arrived_for before m) ms)
    (accepted_parts receives before m e).0 (all_home receives (arrived_for before m) ms)))
    (λ (e : is_accepted receives before m ≡ false). rw e (all_home receives (arrived_for before m) ms))
    (cases_Bool (is_accepted receives before m))

all_received : (receives : ℕ → Bool) (before : List ℕ) (ms : List Message)
    → All (λ m. receives m.proc ≡ true) (delivered receives before ms)
all_received receives before [] = All-nil (λ (m : Message). receives m.proc ≡ true)
all_received receives before (m ∷ ms) =
    ⊎_elim
    (λ (e : is_accepted receives before m ≡ true). rw e
    (All-cons (λ q. receives q.proc ≡ true) m (delivered receives (arrived_for before m) ms)
    (accepted_parts receives before m e).1 (all_received receives (arrived_for before m) ms)))
    (λ (e : is_accepted receives before m ≡ false). rw e (all_received receives (arrived_for before m) ms))
    (cases_Bool (is_accepted receives before m))

-- none more for a processor for which one has arrived
stays_among : (before : List ℕ) (m : Message) (p : ℕ) → is_among p before ≡ true
    → is_among p (arrived_for before m) ≡ true
stays_among before m p h =
    ⊎_elim (λ (e : has_arrived m ≡ true). rw e (or_right (eqb m.proc p) (is_among p before) h))
    (λ (e : has_arrived m ≡ false). rw e h) (cases_Bool (has_arrived m))

none_more : (receives : ℕ → Bool) (before : List ℕ) (ms : List Message) (p : ℕ) → is_among p before ≡ true
    → count_by (is_for p) (delivered receives before ms) ≡ 0
none_more receives before [] p h = refl
none_more receives before (m ∷ ms) p h =
    let ih : count_by (is_for p) (delivered receives (arrived_for before m) ms) ≡ 0 =
    none_more receives (arrived_for before m) ms p (stays_among before m p h) in
    ⊎_elim
    (λ (e : is_accepted receives before m ≡ true).
    let other : is_for p m ≡ false =
    ne_eqb m.proc p (λ s. both_ways (is_among m.proc before) (accepted_parts receives before m e).2
    (ap (λ k. is_among k before) s ∙ h)) in
    let here : ◌≡◌ {A = ℕ} (cond (is_for p m) 1 0) 0 = rw other refl in
    rw e (omega (arith, sum_by-cons (λ q. cond (is_for p q) 1 0) m (delivered receives (arrived_for before m) ms))))
    (λ (e : is_accepted receives before m ≡ false). rw e ih)
    (cases_Bool (is_accepted receives before m))

one_each : (receives : ℕ → Bool) (before : List ℕ) (ms : List Message) (p : ℕ)
    → count_by (is_for p) (delivered receives before ms) ≤ 1
one_each receives before [] p = omega arith
one_each receives before (m ∷ ms) p =
    let ih : count_by (is_for p) (delivered receives (arrived_for before m) ms) ≤ 1 =
    one_each receives (arrived_for before m) ms p in
    ⊎_elim
    (λ (e : is_accepted receives before m ≡ true).
    let step : count_by (is_for p) (m ∷ delivered receives (arrived_for before m) ms) ≡ cond (is_for p m) 1 0
    + count_by (is_for p) (delivered receives (arrived_for before m) ms) =
    sum_by-cons (λ q. cond (is_for p q) 1 0) m (delivered receives (arrived_for before m) ms) in
    ⊎_elim
    (λ (s : m.proc ≡ p).
    let mine : is_for p m ≡ true = eq-eqb m.proc p s in
    let home : has_arrived m ≡ true = (accepted_parts receives before m e).0 in
    let among : is_among p (arrived_for before m) ≡ true = rw home (or_left (eqb m.proc p) (is_among p before) mine) in
    let here : ◌≡◌ {A = ℕ} (cond (is_for p m) 1 0) 1 = rw mine refl in
    rw e (omega (arith, step, none_more receives (arrived_for before m) ms p among)))
    (λ (s : m.proc ≡ p → ⊥).
    let other : is_for p m ≡ false = ne_eqb m.proc p s in
    let here : ◌≡◌ {A = ℕ} (cond (is_for p m) 1 0) 0 = rw other refl in
    rw e (omega (arith, step)))
    (cases_eq m.proc p))
    (λ (e : is_accepted receives before m ≡ false). rw e ih)
    (cases_Bool (is_accepted receives before m))

pub deliveries_are_apart : (receives : ℕ → Bool) (here : List Message)
    → AreDeliveries receives (delivered receives [] here)
deliveries_are_apart receives here =
    record {
      home = all_home receives [] here;
      received = all_received receives [] here;
      apart =
          one_each receives [] here;
    }
