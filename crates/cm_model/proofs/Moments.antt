-- The moment of each delivery that a log tells of, and the one place of each message.
use Rattle.std.proofs.Common.{◌≡◌, ℕ, zero, suc, ◌+◌, ◌-◌, ◌<◌, ◌≤◌, ◌^◌, true, List, [], ◌∷◌, ◌++◌}
use Rattle.std.proofs.Common.{length, take, map, refl, sym, ap, ◌∙◌, subst, ⊎_elim, arith, rules, append_assoc}
use Rattle.std.proofs.lemmas.Bool.{cases_lt}
use Rattle.std.proofs.lemmas.List.{length-append, get_or-append_right, get_or_append_left, append-nil}
use Rattle.std.proofs.lemmas.List.Elements.{All-contains}
use Rattle.std.specs.List.{Contains}
use Rattle.cm_model.specs.declared.act.Act.{Act}
use Rattle.cm_model.specs.declared.message.Message.{Message}
use Rattle.cm_model.specs.declared.message.Event.{Event}
use Rattle.cm_model.specs.declared.message.Event.TheVariants.{Injected, Delivered}
use Rattle.cm_model.specs.Array.{chip_at, nth_or_nil}
use Rattle.cm_model.specs.Letters.{can_receive}
use Rattle.cm_model.specs.Steps.{Step, Instruct, Look, Inject, Cross, Deliver, all_steps}
use Rattle.cm_model.specs.Buffers.{sent_in, machine_after_injection, delivered_in, machine_after_dimension}
use Rattle.cm_model.specs.Buffers.{machine_after_delivery}
use Rattle.cm_model.specs.Buffers.{after_step, after_steps}
use Rattle.cm_model.specs.Machine.{Machine, machine_at, run_of}
use Rattle.cm_model.specs.Keeping.{IsSound, IsMachine}
use Rattle.cm_model.specs.Deliveries.{IsAt, IsMoment, IsDeliveryOf, DeliveriesAreOfMessages}
use Rattle.cm_model.proofs.Each.{get_or-each_below}
use Rattle.cm_model.proofs.Accounting.{Extends, AreSteps, AreSteps-all}
use Rattle.cm_model.proofs.Apart.{deliveries_are_apart}
use Rattle.cm_model.proofs.Delivered.{later_place, delivered_are_received}
use Rattle.cm_model.proofs.Keeping.{sound-step, sound-steps, sound-machine}
use Rattle.cm_model.proofs.Parts.{AreSteps-take, steps_are_told, after_acts-steps}
use Rattle.cm_model.proofs.Runs.{run_of-acted}
use Rattle.cm_model.proofs.Following.{Follows, follows_itself, follows_on, steps_follow}
use Rattle.cm_model.proofs.Origins.{origin}

-- ---- what each step adds to a log

-- the events that a step adds to the log of a chip
abbrev added : ℕ → ℕ → Machine → ℕ → Step → List Event
added n cap machine c (Instruct nano) = []
added n cap machine c Look = []
added n cap machine c Inject = map Injected (sent_in n cap machine c)
added n cap machine c (Cross d) = []
added n cap machine c Deliver = map (λ m. Delivered c m) (delivered_in machine c)

log_after : (n cap : ℕ) (machine : Machine) (step : Step) (c : ℕ) → c < 2 ^ n
    → nth_or_nil (after_step n cap machine step).logs c ≡ nth_or_nil machine.logs c ++ added n cap machine c step
unfolding machine_after_injection machine_after_delivery machine_after_dimension
log_after n cap machine (Instruct nano) c l = sym (append-nil (nth_or_nil machine.logs c))
log_after n cap machine Look c l = sym (append-nil (nth_or_nil machine.logs c))
log_after n cap machine Inject c l =
    get_or-each_below (2 ^ n) (λ b. nth_or_nil machine.logs b ++ map Injected (sent_in n cap machine b)) c [] l
log_after n cap machine (Cross d) c l = sym (append-nil (nth_or_nil machine.logs c))
log_after n cap machine Deliver c l =
    get_or-each_below (2 ^ n) (λ b. nth_or_nil machine.logs b ++ map (λ m. Delivered b m) (delivered_in machine b)) c [] l

log_after_all : (n cap : ℕ) (machine : Machine) (steps : List Step) (c : ℕ) → c < 2 ^ n
    → Extends (nth_or_nil machine.logs c) (nth_or_nil (after_steps n cap machine steps).logs c)
log_after_all n cap machine [] c l = ([], sym (append-nil (nth_or_nil machine.logs c)))
log_after_all n cap machine (step ∷ steps) c l =
    let rest = log_after_all n cap (after_step n cap machine step) steps c l in (
      added n cap machine c step ++ rest.0,
      rest.1 ∙ (ap (λ z. z ++ rest.0) (log_after n cap machine step c l)
          ∙ append_assoc (nth_or_nil machine.logs c) (added n cap machine c step) rest.0),
    )

-- ---- a delivery among what a step adds

not_injected : (ms : List Message) (m : Message) (d : ℕ) → Contains (map Injected ms) (Delivered d m) → ⊥
not_injected [] m d h = omega (arith, h.1)
not_injected (q ∷ ms) m d (zero, l, e) = search (rules, e)
not_injected (q ∷ ms) m d (suc k, l, e) = not_injected ms m d (k, omega arith, e)

-- it tells of one of the messages that were delivered
record IsOneOf (c d : ℕ) (ms : List Message) (m : Message) : Type 0 where
  pub here : d ≡ c
  pub inside : Contains ms m

message_told : Event → Message → Message
message_told (Injected m) q = q
message_told (Delivered c m) q = m

chip_told : Event → ℕ → ℕ
chip_told (Injected m) b = b
chip_told (Delivered c m) b = c

is_one_of : (c d : ℕ) (ms : List Message) (m : Message) → Contains (map (λ q. Delivered c q) ms) (Delivered d m)
    → IsOneOf c d ms m
unfolding message_told chip_told
is_one_of c d [] m h = absurd (omega (arith, h.1))
is_one_of c d (q ∷ ms) m (zero, l, e) = record {
  here = sym (ap (λ event. chip_told event c) e);
  inside = (0, omega arith, ap (λ event. message_told event m) e);
}
is_one_of c d (q ∷ ms) m (suc k, l, e) =
    let rest = is_one_of c d ms m (k, omega arith, e) in
    record { here = rest.here; inside = later_place q m ms rest.inside }

added_here : (log more : List Event) (i : ℕ) (event : Event) → length log ≤ i → IsAt (log ++ more) i event
    → Contains more event
added_here log more i event old there = (
  i - length log,
  omega (arith, there.0, old, length-append log more),
  sym (get_or-append_right log more (length log) i event refl old) ∙ there.1,
)

-- ---- the moment

-- among steps from this machine on
record HasMoment (n cap : ℕ) (machine : Machine) (steps : List Step) (c i d : ℕ) (m : Message) : Type 0 where
  pub here : d ≡ c
  pub count : ℕ
  pub step : IsAt steps count Deliver
  pub moment : IsMoment n (after_steps n cap machine (take count steps))
      (after_steps n cap machine (take (suc count) steps)) c i m

delivery_here : (n cap : ℕ) (machine : Machine) (steps : List Step) (c i d : ℕ) (m : Message) → IsSound n cap machine
    → c < 2 ^ n → length (nth_or_nil machine.logs c) ≤ i
    → IsAt (nth_or_nil (machine_after_delivery n machine).logs c) i (Delivered d m)
    → HasMoment n cap machine (Deliver ∷ steps) c i d m
delivery_here n cap machine steps c i d m h l old there =
    let log : List Event = nth_or_nil machine.logs c in
    let out : List Message = delivered_in machine c in
    let told : IsAt (log ++ map (λ q. Delivered c q) out) i (Delivered d m) =
    subst (λ (events : List Event). IsAt events i (Delivered d m)) (log_after n cap machine Deliver c l) there in
    let one : IsOneOf c d out m = is_one_of c d out m
    (added_here log (map (λ q. Delivered c q) out) i (Delivered d m) old told) in
    record {
      here = one.here;
      count = 0;
      step = (omega arith, refl);
      moment = record {
        next = refl;
        receives = All-contains (λ q. can_receive (chip_at machine.chips c) q.proc ≡ true) out m
            (deliveries_are_apart (can_receive (chip_at machine.chips c)) (nth_or_nil machine.buffers c)).received
            one.inside;
        received = delivered_are_received n cap machine c m l h one.inside;
        untold = old;
        told = subst (λ (b : ℕ). IsAt (nth_or_nil (machine_after_delivery n machine).logs c) i (Delivered b m))
            one.here there;
      };
    }

moment_first : (n cap : ℕ) (machine : Machine) (step : Step) (steps : List Step) (c i d : ℕ) (m : Message)
    → IsSound n cap machine → c < 2 ^ n → length (nth_or_nil machine.logs c) ≤ i
    → IsAt (nth_or_nil (after_step n cap machine step).logs c) i (Delivered d m)
    → HasMoment n cap machine (step ∷ steps) c i d m
unfolding machine_after_dimension
moment_first n cap machine (Instruct nano) steps c i d m h l old there = absurd (omega (arith, there.0, old))
moment_first n cap machine Look steps c i d m h l old there = absurd (omega (arith, there.0, old))
moment_first n cap machine Inject steps c i d m h l old there =
    let log : List Event = nth_or_nil machine.logs c in
    let more : List Event = map Injected (sent_in n cap machine c) in
    absurd (not_injected (sent_in n cap machine c) m d (added_here log more i (Delivered d m) old
    (subst (λ (events : List Event). IsAt events i (Delivered d m)) (log_after n cap machine Inject c l) there)))
moment_first n cap machine (Cross e) steps c i d m h l old there = absurd (omega (arith, there.0, old))
moment_first n cap machine Deliver steps c i d m h l old there = delivery_here n cap machine steps c i d m h l old there

moment_later : (n cap : ℕ) (machine : Machine) (step : Step) (steps : List Step) (c i d : ℕ) (m : Message)
    → HasMoment n cap (after_step n cap machine step) steps c i d m → HasMoment n cap machine (step ∷ steps) c i d m
moment_later n cap machine step steps c i d m it = record {
  here = it.here;
  count = suc it.count;
  step = (omega (arith, it.step.0), it.step.1);
  moment = it.moment;
}

moments : (n cap : ℕ) (machine : Machine) (steps : List Step) (c i d : ℕ) (m : Message) → AreSteps n steps
    → IsSound n cap machine → c < 2 ^ n → length (nth_or_nil machine.logs c) ≤ i
    → IsAt (nth_or_nil (after_steps n cap machine steps).logs c) i (Delivered d m)
    → HasMoment n cap machine steps c i d m
moments n cap machine [] c i d m s h l old there = absurd (omega (arith, there.0, old))
moments n cap machine (step ∷ steps) c i d m s h l old there =
    let next : Machine = after_step n cap machine step in
    let log : List Event = nth_or_nil next.logs c in
    let grown = log_after_all n cap next steps c l in
    ⊎_elim
    (λ (now : i < length log).
    let same : IsAt (log ++ grown.0) i (Delivered d m) =
    subst (λ (events : List Event). IsAt events i (Delivered d m)) grown.1 there in
    moment_first n cap machine step steps c i d m h l old
    (now, sym (get_or_append_left log grown.0 (Delivered d m) i now) ∙ same.1))
    (λ (after : length log ≤ i).
    moment_later n cap machine step steps c i d m
    (moments n cap next steps c i d m s.1 (sound-step n cap machine step s.0 h) l after there))
    (cases_lt i (length log))

grown_length : (n : ℕ) (first machine : Machine) → Follows n first machine → (c : ℕ) → c < 2 ^ n
    → length (nth_or_nil first.logs c) ≤ length (nth_or_nil machine.logs c)
grown_length n first machine follows c l =
    omega (
      arith,
      ap length (follows.grows c l).1,
      length-append (nth_or_nil first.logs c) (follows.grows c l).0,
    )

-- ---- a run, seen by who was handed an earlier machine

pub deliveries_of : (n cap : ℕ) (first machine : Machine) (acts : List Act) (c i d : ℕ) (m : Message)
    → Follows n first machine → IsMachine n cap machine → c < 2 ^ n → length (nth_or_nil machine.logs c) ≤ i
    → IsAt (nth_or_nil (run_of n cap machine acts).logs c) i (Delivered d m)
    → IsDeliveryOf n cap first machine acts c i d m
deliveries_of n cap first machine acts c i d m follows h l old there =
    let steps : List Step = all_steps n acts in
    let sound : IsSound n cap machine = sound-machine n cap machine h in
    let all : AreSteps n steps = AreSteps-all n acts in
    let told : (count : ℕ) → machine_at n cap machine acts count ≡ after_steps n cap machine (take count steps) =
    λ count. steps_are_told n cap machine acts count h.buffer_count in
    let it : HasMoment n cap machine steps c i d m = moments n cap machine steps c i d m all sound l old
    (subst (λ (z : Machine). IsAt (nth_or_nil z.logs c) i (Delivered d m))
    (run_of-acted n cap machine acts h.buffer_count ∙ after_acts-steps n cap machine acts) there) in
    let before : Machine = machine_at n cap machine acts it.count in
    let after : Machine = machine_at n cap machine acts (it.count + 1) in
    let one_more : suc it.count ≡ it.count + 1 = omega arith in
    let moment : IsMoment n before after c i m =
    subst (λ (z : Machine). IsMoment n z after c i m) (sym (told it.count))
    (subst (λ (z : Machine). IsMoment n (after_steps n cap machine (take it.count steps)) z c i m)
    (ap (λ k. after_steps n cap machine (take k steps)) one_more ∙ sym (told (it.count + 1))) it.moment) in
    let sound_before : IsSound n cap before =
    subst (λ (z : Machine). IsSound n cap z) (sym (told it.count))
    (sound-steps n cap machine (take it.count steps) (AreSteps-take n it.count steps all) sound) in
    record {
      here = it.here;
      count = it.count;
      step = it.step;
      moment = moment;
      origin = origin n first before after c i m
          (follows_on n first machine before follows (steps_follow n cap machine acts it.count))
          (follows_on n first machine after follows (steps_follow n cap machine acts (it.count + 1)))
          moment.next sound_before.events l (omega (arith, old, grown_length n first machine follows c l)) moment.told;
    }

pub deliveries_are_of_messages : DeliveriesAreOfMessages
deliveries_are_of_messages n cap machine acts c i d m h l old there =
    deliveries_of n cap machine machine acts c i d m (follows_itself n machine) h l old there
