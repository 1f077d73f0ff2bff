-- As many messages as stood or are taken in are delivered or stand at the end.
use Rattle.std.proofs.Common.{◌≡◌, ℕ, zero, suc, ◌+◌, ◌<◌, ◌^◌, Bool, true, cond, List, [], ◌∷◌, ◌++◌}
use Rattle.std.proofs.Common.{length, map, drop, sum_by, count_by, filter_map, flat_map, refl, sym, ap, ◌∙◌, arith}
use Rattle.std.proofs.Common.{length-append, subst, ◌-◌}
use Rattle.std.specs.List.{range_with_len}
use Rattle.std.proofs.lemmas.List.Sums.{sum_by-cons}
use Rattle.std.proofs.lemmas.List.Concat.{length-flat_map}
use Rattle.cm_model.specs.declared.act.Act.TheVariants.{Cycle}
use Rattle.cm_model.specs.declared.message.Message.{Message}
use Rattle.cm_model.specs.declared.message.Event.{Event}
use Rattle.cm_model.specs.declared.message.Event.TheVariants.{Injected, Delivered}
use Rattle.cm_model.specs.Each.{tabulate}
use Rattle.cm_model.specs.Array.{each_chip, nth_or_nil}
use Rattle.cm_model.specs.Machine.{Machine, blank_machine, run_of}
use Rattle.cm_model.specs.Wiring.{Routing}
use Rattle.cm_model.specs.Buffers.{delivered_in, machine_after_delivery, machine_after_injection, after_act}
use Rattle.cm_model.specs.Account.{Triple, injected_triple, delivered_triple, standing_triple}
use Rattle.cm_model.specs.Account.{new_events, newly_injected}
use Rattle.cm_model.specs.Deliveries.{standing_lines, newly_delivered, StandOrWereDelivered}
use Rattle.cm_model.proofs.Counting.{sum_by-map, sum_by-range, sum_by-none}
use Rattle.cm_model.proofs.Each.{get_or-each_below, is_each, length-tabulate}
use Rattle.cm_model.proofs.Cycles.{after_crossings, after_cycle-is}
use Rattle.cm_model.proofs.Following.{run_follows, stand_or_were_delivered}
use Rattle.cm_model.proofs.Runs.{run_of-one, length-buffers-run_of}
use Rattle.lab_load.specs.declared.offers.Load.{Load}
use Rattle.lab_load.specs.Loaded.{Loaded, asking_of, machine_asked, after_one, after_cycles, unloaded, untold}
use Rattle.lab_load.specs.Conserved.{count_in_routers, delivered_count}
use Rattle.lab_load.specs.Conserved.{TakenAreDeliveredOrStand, StoodAreDeliveredOrStand}
use Rattle.lab_load.specs.Telling.{is_injection_event, injected_count, latency_logged, latencies_in}

-- ---- lines and events, counted

-- every line counts
abbrev any : Triple → Bool
any line = true

all_count : (lines : List Triple) → count_by any lines ≡ length lines
all_count [] = refl
all_count (line ∷ lines) =
    let more : count_by any (line ∷ lines) ≡ 1 + count_by any lines = sum_by-cons (λ x. 1) line lines in
    let next : 1 + length lines ≡ suc (length lines) = omega arith in
    more ∙ ap (λ (k : ℕ). 1 + k) (all_count lines) ∙ next

both_count : (xs ys : List Triple) → count_by any (xs ++ ys) ≡ length xs + length ys
both_count xs ys = all_count (xs ++ ys) ∙ length-append xs ys

-- as many injections as lines of them
injections : (events : List Event) → count_by is_injection_event events ≡ length (filter_map injected_triple events)
injections [] = refl
injections (Injected m ∷ events) =
    let one : count_by is_injection_event (Injected m ∷ events) ≡ 1 + count_by is_injection_event events =
    sum_by-cons (λ e. cond (is_injection_event e) 1 0) (Injected m) events in
    let next : 1 + length (filter_map injected_triple events) ≡ suc (length (filter_map injected_triple events)) =
    omega arith in
    one ∙ ap (λ (k : ℕ). 1 + k) (injections events) ∙ next
injections (Delivered c m ∷ events) =
    let none : count_by is_injection_event (Delivered c m ∷ events) ≡ 0 + count_by is_injection_event events =
    sum_by-cons (λ e. cond (is_injection_event e) 1 0) (Delivered c m) events in
    let same : 0 + count_by is_injection_event events ≡ count_by is_injection_event events = omega arith in
    none ∙ same ∙ injections events

-- as many latencies as lines of deliveries
deliveries : (t : ℕ) (events : List Event)
    → length (flat_map (latency_logged t) events) ≡ length (filter_map delivered_triple events)
deliveries t [] = refl
deliveries t (Injected m ∷ events) = deliveries t events
deliveries t (Delivered c m ∷ events) = ap suc (deliveries t events)

-- ---- all chips

-- a sum over the logs of all chips is the length of what is gathered from them
gathered : {X : Type 0} (n : ℕ) (f : List Event → ℕ) (logs : List (List Event)) (g : ℕ → List X)
    → length logs ≡ 2 ^ n → ((c : ℕ) → c < 2 ^ n → f (nth_or_nil logs c) ≡ length (g c))
    → sum_by f logs ≡ length (flat_map g (range_with_len 0 (2 ^ n)))
unfolding tabulate
gathered n f logs g long same =
    ap (sum_by f) (is_each [] (2 ^ n) (nth_or_nil logs) logs long (λ i below. refl))
    ∙ sum_by-map f (nth_or_nil logs) (range_with_len 0 (2 ^ n))
    ∙ sum_by-range (λ c. f (nth_or_nil logs c)) (λ c. length (g c)) 0 (2 ^ n)
    (λ c from below. same c (omega (arith, below)))
    ∙ sym (length-flat_map g (range_with_len 0 (2 ^ n)))

drop_none : (events : List Event) → drop 0 events ≡ events
drop_none [] = refl
drop_none (event ∷ events) = refl

-- where no log had an event all events are new
all_new : (n : ℕ) (before after : Machine) (c : ℕ) → before.logs ≡ each_chip n (λ k. []) → c < 2 ^ n
    → nth_or_nil after.logs c ≡ new_events before after c
all_new n before after c empty below =
    sym (ap (λ logs. drop (length (nth_or_nil logs c)) (nth_or_nil after.logs c)) empty
    ∙ ap (λ (log : List Event). drop (length log) (nth_or_nil after.logs c))
    (get_or-each_below (2 ^ n) (λ k. []) c [] below)
    ∙ drop_none (nth_or_nil after.logs c))

taken : (n : ℕ) (before after : Machine) → before.logs ≡ each_chip n (λ k. []) → length after.logs ≡ 2 ^ n
    → injected_count after.logs ≡ length (newly_injected n before after)
unfolding newly_injected
taken n before after empty long =
    gathered n (count_by is_injection_event) after.logs (λ c. filter_map injected_triple (new_events before after c))
    long
    (λ c below. injections (nth_or_nil after.logs c)
    ∙ ap (λ events. length (filter_map injected_triple events)) (all_new n before after c empty below))

gone : (n t : ℕ) (before after : Machine) → before.logs ≡ each_chip n (λ k. []) → length after.logs ≡ 2 ^ n
    → length (latencies_in t after.logs) ≡ length (newly_delivered n before after)
unfolding newly_delivered
gone n t before after empty long =
    length-flat_map (flat_map (latency_logged t)) after.logs
    ∙ gathered n (λ log. length (flat_map (latency_logged t) log)) after.logs
    (λ c. filter_map delivered_triple (new_events before after c)) long
    (λ c below. deliveries t (nth_or_nil after.logs c)
    ∙ ap (λ events. length (filter_map delivered_triple events)) (all_new n before after c empty below))

-- ---- one petit cycle

-- delivery leaves a log for each chip, and so does a petit cycle
length-logs-machine_after_delivery : (n : ℕ) (machine : Machine)
    → length (machine_after_delivery n machine).logs ≡ 2 ^ n
unfolding machine_after_delivery
length-logs-machine_after_delivery n machine =
    length-tabulate 0 (2 ^ n) (λ c. nth_or_nil machine.logs c ++ map (λ m. Delivered c m) (delivered_in machine c))

length-logs : (n cap : ℕ) (machine : Machine) → length (after_act n cap machine Cycle).logs ≡ 2 ^ n
length-logs n cap machine =
    ap (λ (m : Machine). length m.logs) (after_cycle-is n cap machine)
    ∙ length-logs-machine_after_delivery n (after_crossings n cap (machine_after_injection n cap machine) n)

-- each line as often, and so as many lines
balance : (n cap : ℕ) (before : Machine) → length before.buffers ≡ 2 ^ n
    → StandOrWereDelivered n before (after_act n cap before Cycle)
balance n cap before long =
    subst (λ (m : Machine). StandOrWereDelivered n before m) (run_of-one n cap before Cycle long)
    (stand_or_were_delivered n before (run_of n cap before (Cycle ∷ [])) (run_follows n cap before (Cycle ∷ [])))

-- what stood and is taken in stands or is delivered
pub cycle-conserves : (n cap t : ℕ) (before : Machine) → length before.buffers ≡ 2 ^ n
    → before.logs ≡ each_chip n (λ k. [])
    → length (standing_lines n before) + injected_count (after_act n cap before Cycle).logs
    ≡ length (standing_lines n (after_act n cap before Cycle))
    + length (latencies_in t (after_act n cap before Cycle).logs)
cycle-conserves n cap t before long empty =
    let after : Machine = after_act n cap before Cycle in
    ap (λ (k : ℕ). length (standing_lines n before) + k) (taken n before after empty (length-logs n cap before))
    ∙ sym (both_count (standing_lines n before) (newly_injected n before after))
    ∙ balance n cap before long any
    ∙ both_count (standing_lines n after) (newly_delivered n before after)
    ∙ sym (ap (λ (k : ℕ). length (standing_lines n after) + k) (gone n t before after empty (length-logs n cap before)))

-- ---- a load

-- from one state to a later one: what stood and was taken in since was delivered since or stands
abbrev pub Conserves : ℕ → Loaded → Loaded → Type 0
Conserves n first later =
    count_in_routers n first + (later.taken + delivered_count first)
    ≡ first.taken + (delivered_count later + count_in_routers n later)

-- routers of two machines that hold the same
standing_lines-same : (n : ℕ) (one other : Machine) → one.buffers ≡ other.buffers
    → length (standing_lines n one) ≡ length (standing_lines n other)
unfolding standing_lines
standing_lines-same n one other same =
    ap (λ buffers. length (flat_map (λ c. map (standing_triple c) (nth_or_nil buffers c)) (range_with_len 0 (2 ^ n))))
    same

-- a petit cycle
once : (cap : ℕ) (load : Load) (now : Loaded) → length now.machine.buffers ≡ 2 ^ load.dims
    → Conserves load.dims now (after_one cap load now)
unfolding after_one
once cap load now long =
    let begun : Machine = machine_asked load.dims now.machine (asking_of load now).chips in
    let after : Machine = after_act load.dims cap begun Cycle in
    omega (
      arith,
      cycle-conserves load.dims cap now.machine.clock begun long refl,
      length-append now.latencies (latencies_in now.machine.clock after.logs),
      standing_lines-same load.dims now.machine begun refl,
      standing_lines-same load.dims (after_one cap load now).machine after refl,
    )

-- it leaves a buffer for each chip
length-buffers : (cap : ℕ) (load : Load) (now : Loaded) → length now.machine.buffers ≡ 2 ^ load.dims
    → length (after_one cap load now).machine.buffers ≡ 2 ^ load.dims
unfolding after_one
length-buffers cap load now long =
    let begun : Machine = machine_asked load.dims now.machine (asking_of load now).chips in
    ap (λ (m : Machine). length m.buffers) (sym (run_of-one load.dims cap begun Cycle long))
    ∙ length-buffers-run_of load.dims cap begun (Cycle ∷ [])

length-buffers-after_cycles : (cap : ℕ) (load : Load) (first : Loaded) (k : ℕ)
    → length first.machine.buffers ≡ 2 ^ load.dims
    → length (after_cycles cap load first k).machine.buffers ≡ 2 ^ load.dims
unfolding after_cycles
length-buffers-after_cycles cap load first zero long = long
length-buffers-after_cycles cap load first (suc k) long =
    length-buffers cap load (after_cycles cap load first k) (length-buffers-after_cycles cap load first k long)

-- and so many petit cycles
many : (cap : ℕ) (load : Load) (first : Loaded) (k : ℕ) → length first.machine.buffers ≡ 2 ^ load.dims
    → Conserves load.dims first (after_cycles cap load first k)
unfolding after_cycles
many cap load first zero long = omega arith
many cap load first (suc k) long =
    let so_far = many cap load first k long in
    let last = once cap load (after_cycles cap load first k) (length-buffers-after_cycles cap load first k long) in
    omega (arith, so_far, last)

-- ---- from a blank machine on

length-buffers-unloaded : (load : Load) (routing : Routing)
    → length (unloaded load.dims routing).machine.buffers ≡ 2 ^ load.dims
unfolding unloaded blank_machine
length-buffers-unloaded load routing = length-tabulate 0 (2 ^ load.dims) (λ c. [])

-- nothing stands at first
count_in_routers-unloaded : (n : ℕ) (routing : Routing) → count_in_routers n (unloaded n routing) ≡ 0
unfolding standing_lines unloaded blank_machine
count_in_routers-unloaded n routing =
    length-flat_map (lines blank) (range_with_len 0 (2 ^ n))
    ∙ sum_by-range (λ c. length (lines blank c)) (λ c. 0) 0 (2 ^ n)
    (λ c from below. ap (λ (here : List Message). length (map (standing_triple c) here))
    (get_or-each_below (2 ^ n) (λ k. []) c [] (omega (arith, below))))
    ∙ sum_by-none (λ c. 0) (range_with_len 0 (2 ^ n)) (λ c. refl)
  where
    blank : List (List Message)
    blank = each_chip n (λ c. [])

    lines : List (List Message) → ℕ → List Triple
    lines buffers c = map (standing_triple c) (nth_or_nil buffers c)

-- what stood behind the first petit cycles and was taken in since
pub stood_are_delivered_or_stand : StoodAreDeliveredOrStand
stood_are_delivered_or_stand cap load routing skip cycles =
    let first : Loaded = after_cycles cap load (unloaded load.dims routing) skip in
    let long =
    length-buffers-after_cycles cap load (unloaded load.dims routing) skip (length-buffers-unloaded load routing) in
    omega (arith, many cap load (untold first) (cycles - skip) long)

-- no petit cycle
after_cycles-none : (cap : ℕ) (load : Load) (first : Loaded) → after_cycles cap load first 0 ≡ first
unfolding after_cycles
after_cycles-none cap load first = refl

-- all that was taken in
pub taken_are_delivered_or_stand : TakenAreDeliveredOrStand
taken_are_delivered_or_stand cap load routing cycles =
    let all = stood_are_delivered_or_stand cap load routing 0 cycles in
    let none : count_in_routers load.dims (after_cycles cap load (unloaded load.dims routing) 0) ≡ 0 =
    ap (count_in_routers load.dims) (after_cycles-none cap load (unloaded load.dims routing))
    ∙ count_in_routers-unloaded load.dims routing in
    omega (arith, all, none)
