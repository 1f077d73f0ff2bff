-- Logs that are set aside: no step reads one, and a run tells few events of a chip.
use Rattle.std.proofs.Common.{◌≡◌, ℕ, zero, suc, ◌+◌, ◌*◌, ◌<◌, ◌≤◌, ◌^◌, Bool, true, false, cond, List, [], ◌∷◌, ◌++◌, length}
use Rattle.std.proofs.Common.{map, refl, sym, ap, ◌∙◌, subst, arith, ⊎_elim, min, ◌-◌, mul_comm, get_or, set, ◌≢◌}
use Rattle.std.proofs.Math.Nat.{mul-add}
use Rattle.std.proofs.lemmas.Bool.{cases_Bool, cases_eq, cases_lt}
use Rattle.std.proofs.lemmas.List.{append_assoc, append-nil, length-append, length-map, length-take, get_or-map, get_or_past}
use Rattle.std.proofs.lemmas.List.Elements.{All-nil}
use Rattle.std.proofs.lemmas.List.Sums.{sum_by-append, sum_by-cons}
use Rattle.std.specs.List.{All, count_by, sum_by, filter_map, range_with_len}
use Rattle.cm_model.specs.declared.act.Act.{Act}
use Rattle.cm_model.specs.declared.act.Act.TheVariants as act
use Rattle.cm_model.specs.declared.message.Message.{Message}
use Rattle.cm_model.specs.declared.message.Event.{Event}
use Rattle.cm_model.specs.declared.message.Event.TheVariants.{Injected, Delivered}
use Rattle.cm_model.specs.Array.{nth_or_nil, chip_at}
use Rattle.cm_model.specs.Each.{tabulate}
use Rattle.cm_model.specs.Found.{same_tag}
use Rattle.cm_model.specs.Letters.{senders, message_sent, can_receive}
use Rattle.cm_model.specs.OneChip.{delivered, is_accepted, arrived_for}
use Rattle.cm_model.specs.Steps.{Step, Instruct, Look, Inject, Cross, Deliver, all_steps}
use Rattle.cm_model.specs.Machine.{Machine, run_of}
use Rattle.cm_model.specs.Buffers.{taken_in, sent_in, delivered_in, machine_after_injection, machine_after_dimension}
use Rattle.cm_model.specs.Buffers.{machine_after_delivery, after_step, after_steps, after_act, after_acts}
use Rattle.cm_model.specs.Account.{Triple, account, account_at, standing_triple, delivered_triple}
use Rattle.cm_model.specs.Keeping.{HasRoom, HasTagsOnce, IsEventOf, IsMachine}
use Rattle.cm_model.proofs.Accounting.{AreSteps, AreSteps-act}
use Rattle.cm_model.proofs.Counting.{sum_by-flat_map, sum_by-map, sum_by-same}
use Rattle.cm_model.proofs.Each.{length-tabulate, get_or-each_below, same_each_below, is_each}
use Rattle.cm_model.proofs.Keeping.{IsMachine-after_act}
use Rattle.cm_model.proofs.Parts.{after_acts-steps}
use Rattle.cm_model.proofs.Rooms.{HasRoom-after_step}
use Rattle.cm_model.proofs.Runs.{run_of-acted}
use Rattle.cm_model.proofs.Unlogged.{tags_counted, BornBefore-buffers, born_at, none_injected}
use Rattle.cm_array.specs.Acts.{is_cycle, cycles_in}
use Rattle.cm_router.specs.Logs.{Log, log_room, log_rooms_of}
use Rattle.cm_router.specs.Rows.{events_of_chip, with_row}
use Rattle.cm_router.proofs.Telling.{length-with_row, with_row_at}
use Rattle.cm_petit.specs.Routers.{events_of}
use Rattle.cm_array.specs.SavedLogs.{unlogged, logs_appended, TakeIn}
use Rattle.cm_array.proofs.Laying.{log_left, log_here}

-- ---- no step reads a log

-- behind earlier events, and then others: in either order
told_behind : (n : ℕ) (earlier logs : List (List Event)) (news : ℕ → List Event)
    → tabulate 0 (2 ^ n) (λ c. nth_or_nil (tabulate 0 (2 ^ n) (λ b. nth_or_nil earlier b ++ nth_or_nil logs b)) c ++ news c)
    ≡ tabulate 0 (2 ^ n) (λ c. nth_or_nil earlier c ++ nth_or_nil (tabulate 0 (2 ^ n) (λ b. nth_or_nil logs b ++ news b)) c)
told_behind n earlier logs news =
    same_each_below [] (2 ^ n)
    (λ c. nth_or_nil (tabulate 0 (2 ^ n) (λ b. nth_or_nil earlier b ++ nth_or_nil logs b)) c ++ news c)
    (λ c. nth_or_nil earlier c ++ nth_or_nil (tabulate 0 (2 ^ n) (λ b. nth_or_nil logs b ++ news b)) c)
    (λ c l. ap (λ z. z ++ news c) (get_or-each_below (2 ^ n) (λ b. nth_or_nil earlier b ++ nth_or_nil logs b) c [] l)
    ∙ append_assoc (nth_or_nil earlier c) (nth_or_nil logs c) (news c)
    ∙ sym (ap (λ z. nth_or_nil earlier c ++ z) (get_or-each_below (2 ^ n) (λ b. nth_or_nil logs b ++ news b) c [] l)))

logs_appended-step : (n cap : ℕ) (earlier : List (List Event)) (machine : Machine) (step : Step)
    → after_step n cap (logs_appended n earlier machine) step ≡ logs_appended n earlier (after_step n cap machine step)
unfolding machine_after_injection machine_after_dimension machine_after_delivery
logs_appended-step n cap earlier machine (Instruct nano) = refl
logs_appended-step n cap earlier machine Look = refl
logs_appended-step n cap earlier machine Inject = λ i. record (machine_after_injection n cap machine) {
  logs = told_behind n earlier machine.logs (λ c. map Injected (sent_in n cap machine c)) i;
}
logs_appended-step n cap earlier machine (Cross d) = refl
logs_appended-step n cap earlier machine Deliver = λ i. record (machine_after_delivery n machine) {
  logs = told_behind n earlier machine.logs (λ c. map (λ m. Delivered c m) (delivered_in machine c)) i;
}

logs_appended-steps : (n cap : ℕ) (earlier : List (List Event)) (machine : Machine) (steps : List Step)
    → after_steps n cap (logs_appended n earlier machine) steps ≡ logs_appended n earlier (after_steps n cap machine steps)
logs_appended-steps n cap earlier machine [] = refl
logs_appended-steps n cap earlier machine (step ∷ steps) =
    ap (λ (m : Machine). after_steps n cap m steps) (logs_appended-step n cap earlier machine step)
    ∙ logs_appended-steps n cap earlier (after_step n cap machine step) steps

-- a machine is itself without its events, behind these
pub logs_appended-unlogged : (n : ℕ) (machine : Machine) → length machine.logs ≡ 2 ^ n
    → logs_appended n machine.logs (unlogged n machine) ≡ machine
logs_appended-unlogged n machine long =
    let same : machine.logs
    ≡ tabulate 0 (2 ^ n) (λ c. nth_or_nil machine.logs c ++ nth_or_nil (tabulate 0 (2 ^ n) (λ b. [])) c) =
    is_each [] (2 ^ n) (λ c. nth_or_nil machine.logs c ++ nth_or_nil (tabulate 0 (2 ^ n) (λ b. [])) c) machine.logs long
    (λ c l. sym (ap (λ z. nth_or_nil machine.logs c ++ z) (get_or-each_below (2 ^ n) (λ b. []) c [] l)
    ∙ append-nil (nth_or_nil machine.logs c))) in
    λ i. record machine { logs = sym same i }

run_of-steps : (n cap : ℕ) (machine : Machine) (acts : List Act) → length machine.buffers ≡ 2 ^ n
    → run_of n cap machine acts ≡ after_steps n cap machine (all_steps n acts)
run_of-steps n cap machine acts long = run_of-acted n cap machine acts long ∙ after_acts-steps n cap machine acts

pub logs_are_never_read : (n cap : ℕ) (machine : Machine) (acts : List Act) → IsMachine n cap machine
    → run_of n cap machine acts ≡ logs_appended n machine.logs (run_of n cap (unlogged n machine) acts)
logs_are_never_read n cap machine acts is =
    run_of-steps n cap machine acts is.buffer_count
    ∙ ap (λ (m : Machine). after_steps n cap m (all_steps n acts)) (sym (logs_appended-unlogged n machine is.log_count))
    ∙ logs_appended-steps n cap machine.logs (unlogged n machine) (all_steps n acts)
    ∙ ap (logs_appended n machine.logs) (sym (run_of-steps n cap (unlogged n machine) acts is.buffer_count))

-- ---- without its events a machine is a machine

some_more : {X : Type 0} (f : X → ℕ) (xs ys : ℕ → List X) (a k : ℕ)
    → sum_by (λ c. sum_by f (xs c)) (range_with_len a k) ≤ sum_by (λ c. sum_by f (xs c ++ ys c)) (range_with_len a k)
some_more f xs ys a zero = omega arith
some_more f xs ys a (suc k) =
    omega (
      arith,
      sum_by-cons (λ c. sum_by f (xs c)) a (range_with_len (a + 1) k),
      sum_by-cons (λ c. sum_by f (xs c ++ ys c)) a (range_with_len (a + 1) k),
      sum_by-append f (xs a) (ys a),
      some_more f xs ys (a + 1) k,
    )

tags_once : (n : ℕ) (machine : Machine) → HasTagsOnce n machine → HasTagsOnce n (unlogged n machine)
unfolding account
tags_once n machine once tag =
    let has : Triple → ℕ = λ triple. cond (same_tag triple.tag tag) 1 0 in
    let told : ℕ → List Triple = λ c. filter_map delivered_triple (nth_or_nil machine.logs c) in
    let stands : ℕ → List Triple = λ c. map (standing_triple c) (nth_or_nil machine.buffers c) in
    let all : count_by (λ triple. same_tag triple.tag tag) (account n machine)
    ≡ sum_by (λ c. sum_by has (stands c ++ told c)) (range_with_len 0 (2 ^ n)) =
    sum_by-flat_map has (account_at machine) (range_with_len 0 (2 ^ n)) in
    let left : count_by (λ triple. same_tag triple.tag tag) (account n (unlogged n machine))
    ≡ sum_by (λ c. sum_by has (stands c)) (range_with_len 0 (2 ^ n)) =
    tags_counted n (unlogged n machine) tag refl
    ∙ sum_by-flat_map (λ (m : Message). cond (same_tag m.tag tag) 1 0) (λ c. nth_or_nil machine.buffers c)
    (range_with_len 0 (2 ^ n))
    ∙ sym stand in
    omega (arith, once tag, all, left, some_more has stands told 0 (2 ^ n))
  where
    stand : sum_by (λ c. sum_by (λ (triple : Triple). cond (same_tag triple.tag tag) 1 0)
        (map (standing_triple c) (nth_or_nil machine.buffers c))) (range_with_len 0 (2 ^ n))
        ≡ sum_by (λ c. sum_by (λ (m : Message). cond (same_tag m.tag tag) 1 0) (nth_or_nil machine.buffers c))
        (range_with_len 0 (2 ^ n))
    stand = sum_by-same
        (λ c. sum_by (λ (triple : Triple). cond (same_tag triple.tag tag) 1 0)
        (map (standing_triple c) (nth_or_nil machine.buffers c)))
        (λ c. sum_by (λ (m : Message). cond (same_tag m.tag tag) 1 0) (nth_or_nil machine.buffers c))
        (range_with_len 0 (2 ^ n))
        (λ c. sum_by-map (λ (triple : Triple). cond (same_tag triple.tag tag) 1 0) (standing_triple c)
        (nth_or_nil machine.buffers c))

pub IsMachine-unlogged : (n cap : ℕ) (machine : Machine) → IsMachine n cap machine → IsMachine n cap (unlogged n machine)
IsMachine-unlogged n cap machine is = record {
  chip_count = is.chip_count;
  buffer_count = is.buffer_count;
  log_count = length-tabulate 0 (2 ^ n) (λ c. []);
  whole = is.whole;
  room = is.room;
  messages = is.messages;
  events = λ c l. subst (λ (log : List Event). All (IsEventOf n c) log)
      (sym (get_or-each_below (2 ^ n) (λ b. []) c [] l)) (All-nil (IsEventOf n c));
  births = BornBefore-buffers n (unlogged n machine) refl (λ c l. born_at n machine c is.births l);
  tags = tags_once n machine is.tags;
  injected = none_injected n (unlogged n machine) refl;
  routing = is.routing;
}

-- ---- few events are told

length-delivered : (receives : ℕ → Bool) (before : List ℕ) (ms : List Message)
    → length (delivered receives before ms) ≤ length ms
length-delivered receives before [] = omega arith
length-delivered receives before (m ∷ ms) =
    let ih : length (delivered receives (arrived_for before m) ms) ≤ length ms =
    length-delivered receives (arrived_for before m) ms in
    ⊎_elim (λ (e : is_accepted receives before m ≡ true). rw e (omega arith))
    (λ (e : is_accepted receives before m ≡ false). rw e (omega arith)) (cases_Bool (is_accepted receives before m))

-- how many events of a chip its log has
told : Machine → ℕ → ℕ
told machine c = length (nth_or_nil machine.logs c)

told_at_injection : (n cap c : ℕ) (machine : Machine) → c < 2 ^ n
    → told (machine_after_injection n cap machine) c ≤ told machine c + 4
unfolding machine_after_injection told
told_at_injection n cap c machine l =
    let is = ap length (get_or-each_below (2 ^ n)
    (λ b. nth_or_nil machine.logs b ++ map Injected (sent_in n cap machine b)) c [] l) in
    omega (
      arith,
      is,
      length-append (nth_or_nil machine.logs c) (map Injected (sent_in n cap machine c)),
      length-map (sent_in n cap machine c) Injected,
      length-map (taken_in cap machine c) (message_sent n machine.clock c (chip_at machine.chips c)),
      length-take (min 4 (cap - length (nth_or_nil machine.buffers c))) (senders (chip_at machine.chips c)),
    )

told_at_delivery : (n cap c : ℕ) (machine : Machine) → c < 2 ^ n → HasRoom n cap machine
    → told (machine_after_delivery n machine) c ≤ told machine c + cap
unfolding machine_after_delivery told
told_at_delivery n cap c machine l room =
    let is = ap length (get_or-each_below (2 ^ n)
    (λ b. nth_or_nil machine.logs b ++ map (λ m. Delivered b m) (delivered_in machine b)) c [] l) in
    omega (
      arith,
      is,
      length-append (nth_or_nil machine.logs c) (map (λ m. Delivered c m) (delivered_in machine c)),
      length-map (delivered_in machine c) (λ m. Delivered c m),
      length-delivered (can_receive (chip_at machine.chips c)) [] (nth_or_nil machine.buffers c),
      room c l,
    )

told_at_crossing : (n cap d c : ℕ) (machine : Machine) → told (machine_after_dimension n cap d machine) c ≡ told machine c
unfolding machine_after_dimension told
told_at_crossing n cap d c machine = refl

-- over the dimensions of a petit cycle, and at its end
told_beyond : (n cap c : ℕ) (machine : Machine) (ds : List ℕ) → c < 2 ^ n
    → AreSteps n (map Cross ds ++ Deliver ∷ []) → HasRoom n cap machine
    → told (after_steps n cap machine (map Cross ds ++ Deliver ∷ [])) c ≤ told machine c + cap
told_beyond n cap c machine [] l are room = told_at_delivery n cap c machine l room
told_beyond n cap c machine (d ∷ ds) l are room =
    let rest = told_beyond n cap c (machine_after_dimension n cap d machine) ds l are.1
    (HasRoom-after_step n cap machine (Cross d) are.0 room) in
    subst (λ (k : ℕ). told (after_steps n cap (machine_after_dimension n cap d machine) (map Cross ds ++ Deliver ∷ [])) c
    ≤ k + cap) (told_at_crossing n cap d c machine) rest

told_in_act : (n cap c : ℕ) (machine : Machine) (a : Act) → c < 2 ^ n → HasRoom n cap machine
    → told (after_act n cap machine a) c ≤ told machine c + cycles_in (a ∷ []) * (4 + cap)
unfolding told
told_in_act n cap c machine (act.Nano nano) l room = omega arith
told_in_act n cap c machine act.Sense l room = omega arith
told_in_act n cap c machine act.Cycle l room =
    let are = AreSteps-act n act.Cycle in
    let more = told_beyond n cap c (machine_after_injection n cap machine) (range_with_len 0 n) l are.1
    (HasRoom-after_step n cap machine Inject are.0 room) in
    let first = told_at_injection n cap c machine l in
    let one : cycles_in (act.Cycle ∷ []) * (4 + cap) ≡ 4 + cap = omega arith in
    omega (arith, more, first, one)

told_in_acts : (n cap c : ℕ) (machine : Machine) (acts : List Act) → c < 2 ^ n → IsMachine n cap machine
    → told (after_acts n cap machine acts) c ≤ told machine c + cycles_in acts * (4 + cap)
told_in_acts n cap c machine [] l is = omega arith
told_in_acts n cap c machine (a ∷ acts) l is =
    let rest = told_in_acts n cap c (after_act n cap machine a) acts l (IsMachine-after_act n cap machine a is) in
    let first = told_in_act n cap c machine a l is.room in
    let both : cycles_in (a ∷ acts) ≡ cycles_in (a ∷ []) + cycles_in acts =
    sum_by-append (λ (one : Act). cond (is_cycle one) 1 0) (a ∷ []) acts in
    let all : cycles_in (a ∷ acts) * (4 + cap) ≡ cycles_in (a ∷ []) * (4 + cap) + cycles_in acts * (4 + cap) =
    ap (λ (k : ℕ). k * (4 + cap)) both ∙ mul_comm (cycles_in (a ∷ []) + cycles_in acts) (4 + cap)
    ∙ mul-add (4 + cap) (cycles_in (a ∷ [])) (cycles_in acts)
    ∙ (λ i. mul_comm (4 + cap) (cycles_in (a ∷ [])) i + mul_comm (4 + cap) (cycles_in acts) i) in
    omega (arith, rest, first, all)

pub few_events_are_told : (n cap : ℕ) (machine : Machine) (acts : List Act) (c : ℕ) → IsMachine n cap machine → c < 2 ^ n
    → length (nth_or_nil (run_of n cap machine acts).logs c)
    ≤ length (nth_or_nil machine.logs c) + cycles_in acts * (4 + cap)
unfolding told
few_events_are_told n cap machine acts c is l =
    subst (λ (m : Machine). length (nth_or_nil m.logs c) ≤ length (nth_or_nil machine.logs c) + cycles_in acts * (4 + cap))
    (sym (run_of-acted n cap machine acts is.buffer_count)) (told_in_acts n cap c machine acts l is)

-- ---- events that are put behind those of logs

items_at : (logs : List Log) (i : ℕ) (d : Log) → i < length logs → nth_or_nil (events_of logs) i ≡ (get_or logs i d).items
items_at logs i d l = get_or-map (λ (x : Log). x.items) logs i d [] l

-- a log that takes in the events at its place has room for them
pub room_behind : (logs was more : List Log) (i : ℕ) (d e : Log) → i < length was → i < length more
    → get_or logs i d ≡ get_or was i d → TakeIn (log_rooms_of was) (events_of more)
    → length (get_or more i e).items ≤ log_room (get_or logs i d)
room_behind logs was more i d e l there same takes =
    omega (
      arith,
      takes i (omega (arith, l, length-map was log_room)),
      ap length (items_at more i e there),
      get_or-map log_room was i d 0 l,
      ap log_room same,
    )

-- one more that has them
pub one_more_behind : (logs was more : List Log) (i : ℕ) (d e now : Log) → i < length logs → i < length was
    → i < length more
    → get_or logs i d ≡ get_or was i d → now.items ≡ (get_or logs i d).items ++ (get_or more i e).items
    → ((k : ℕ) → k < i → nth_or_nil (events_of logs) k ≡ nth_or_nil (events_of was) k ++ nth_or_nil (events_of more) k)
    → (k : ℕ) → k < i + 1
    → nth_or_nil (events_of (set logs i now)) k ≡ nth_or_nil (events_of was) k ++ nth_or_nil (events_of more) k
one_more_behind logs was more i d e now l was_there there same is before k below =
    ⊎_elim
    (λ (h : k ≡ i). subst (λ (j : ℕ). nth_or_nil (events_of (set logs i now)) j
    ≡ nth_or_nil (events_of was) j ++ nth_or_nil (events_of more) j) (sym h)
    (log_here logs i now l ∙ is
    ∙ (λ j. (ap (λ (x : Log). x.items) same ∙ sym (items_at was i d was_there)) j ++ sym (items_at more i e there) j)))
    (λ (h : k ≢ i). log_left logs i k now h ∙ before k (omega (arith, h, below)))
    (cases_eq k i)

-- all that have them
pub all_behind : (logs was more : List Log) → length logs ≡ length was → length more ≡ length was
    → ((c : ℕ) (d e : Log) → c < length was
    → (get_or logs c e).items ≡ (get_or was c e).items ++ (get_or more c d).items)
    → events_of logs
    ≡ tabulate 0 (length was) (λ c. nth_or_nil (events_of was) c ++ nth_or_nil (events_of more) c)
all_behind logs [] more long there each =
    is_each [] 0 (λ c. nth_or_nil [] c ++ nth_or_nil (events_of more) c) (events_of logs)
    (length-map logs (λ (x : Log). x.items) ∙ long) (λ i h. absurd (omega (arith, h)))
all_behind logs (x ∷ rest) more long there each =
    let was : List Log = x ∷ rest in
    is_each [] (length was) (λ c. nth_or_nil (events_of was) c ++ nth_or_nil (events_of more) c) (events_of logs)
    (length-map logs (λ (y : Log). y.items) ∙ long)
    (λ i h. items_at logs i x (omega (arith, h, long)) ∙ each i x x h
    ∙ (λ j. sym (items_at was i x h) j ++ sym (items_at more i x (omega (arith, h, there))) j))

-- where they take in what a machine tells, they take in what of it is dealt out
pub take_in_dealt : (rooms : List ℕ) (logs : List (List Event)) (row : List Event) → TakeIn rooms (with_row logs row)
    → TakeIn rooms logs
take_in_dealt rooms logs row takes c l =
    ⊎_elim
    (λ (here : c < length logs). omega (
      arith,
      takes c l,
      ap length (with_row_at logs row c here),
      length-append (nth_or_nil logs c) (events_of_chip c row),
    ))
    (λ (past : length logs ≤ c). omega (arith, ap length (get_or_past logs c [] past)))
    (cases_lt c (length logs))

-- what a row tells stands behind earlier events as it stood behind the later ones
pub row_behind : (n : ℕ) (earlier logs now : List (List Event)) (row : List Event) → length logs ≡ 2 ^ n
    → now ≡ tabulate 0 (2 ^ n) (λ c. nth_or_nil earlier c ++ nth_or_nil logs c)
    → with_row now row ≡ tabulate 0 (2 ^ n) (λ c. nth_or_nil earlier c ++ nth_or_nil (with_row logs row) c)
row_behind n earlier logs now row long is =
    let both : ℕ → List Event = λ c. nth_or_nil earlier c ++ nth_or_nil logs c in
    let many : length now ≡ 2 ^ n = ap length is ∙ length-tabulate 0 (2 ^ n) both in
    is_each [] (2 ^ n) (λ c. nth_or_nil earlier c ++ nth_or_nil (with_row logs row) c) (with_row now row)
    (length-with_row now row ∙ many)
    (λ c l. with_row_at now row c (omega (arith, l, many))
    ∙ ap (λ z. z ++ events_of_chip c row)
    (ap (λ lists. nth_or_nil lists c) is ∙ get_or-each_below (2 ^ n) both c [] l)
    ∙ append_assoc (nth_or_nil earlier c) (nth_or_nil logs c) (events_of_chip c row)
    ∙ ap (λ z. nth_or_nil earlier c ++ z) (sym (with_row_at logs row c (omega (arith, l, long)))))

-- the logs of a machine that were set aside, with its own behind them
pub logs_behind : (n : ℕ) (was more now first second : List Log) → length was ≡ 2 ^ n → first ≡ was → second ≡ more
    → events_of now
    ≡ tabulate 0 (length first) (λ c. nth_or_nil (events_of first) c ++ nth_or_nil (events_of second) c)
    → events_of now ≡ tabulate 0 (2 ^ n) (λ c. nth_or_nil (events_of was) c ++ nth_or_nil (events_of more) c)
logs_behind n was more now first second long one two is =
    is
    ∙ (λ i. tabulate 0 (length (one i)) (λ c. nth_or_nil (events_of (one i)) c ++ nth_or_nil (events_of (two i)) c))
    ∙ ap (λ (k : ℕ). tabulate 0 k (λ c. nth_or_nil (events_of was) c ++ nth_or_nil (events_of more) c)) long
