-- A petit cycle part by part, and one that takes nothing in and delivers nothing.
use Rattle.std.proofs.Common.{◌≡◌, ℕ, zero, suc, ◌+◌, ◌<◌, ◌≤◌, ◌^◌, Bool, true, false, not, cond, List, [], ◌∷◌, ◌++◌}
use Rattle.std.proofs.Common.{length, map, sum, refl, sym, ap, ◌∙◌, ⊎_elim, arith, length-append}
use Rattle.std.proofs.lemmas.Bool.{cases_lt}
use Rattle.std.proofs.lemmas.List.{length-map, get_or_past, get_or-set_other}
use Rattle.std.specs.Prelude.{slice_set}
use Rattle.std.specs.List.{filter, range_with_len}
use Rattle.cm_model.specs.declared.act.Act.TheVariants.{Cycle}
use Rattle.cm_model.specs.declared.message.Message.{Message}
use Rattle.cm_model.specs.declared.message.Event.{Event}
use Rattle.cm_model.specs.declared.message.Event.TheVariants.{Injected, Delivered}
use Rattle.cm_model.specs.Each.{tabulate}
use Rattle.cm_model.specs.Processor.{Processor, SEND, ACK, RECV, flag}
use Rattle.cm_model.specs.Chip.{each_processor, processor_at, no_processor}
use Rattle.cm_model.specs.Array.{Chips, each_chip, chip_at, nth_or_nil}
use Rattle.cm_model.specs.Wiring.{Routing}
use Rattle.cm_model.specs.Letters.{senders, message_sent, is_among, can_receive}
use Rattle.cm_model.specs.Letters.{processor_after_injection, chip_after_injection}
use Rattle.cm_model.specs.Letters.{chip_after_delivery}
use Rattle.cm_model.specs.OneChip.{delivered_here, kept_here}
use Rattle.cm_model.specs.Steps.{Cross}
use Rattle.cm_model.specs.Machine.{Machine, run_of}
use Rattle.cm_model.specs.Buffers.{taken_in, sent_in, buffers_after_dimension, after_steps}
use Rattle.cm_model.specs.Buffers.{machine_after_injection, machine_after_dimension, machine_after_delivery}
use Rattle.cm_model.proofs.Cycles.{after_cycle-is}
use Rattle.cm_model.proofs.Each.{get_or-each_below, length-tabulate, same_each_below}
use Rattle.cm_model.proofs.Runs.{run_of-one}
use Rattle.lab_study.specs.Holdings.{event_count}
use Rattle.lab_study.proofs.Sums.{sum-tabulate-more}

-- ---- part by part

-- buffers after these dimensions are crossed
abbrev pub crossed_buffers : Routing → ℕ → ℕ → List ℕ → List (List Message) → List (List Message)
crossed_buffers routing n cap [] buffers = buffers
crossed_buffers routing n cap (d ∷ ds) buffers =
    crossed_buffers routing n cap ds (buffers_after_dimension routing n cap d buffers)

crossings_are : (n cap : ℕ) (machine : Machine) (ds : List ℕ) → after_steps n cap machine (map Cross ds)
    ≡ record machine { buffers = crossed_buffers machine.routing n cap ds machine.buffers }
unfolding machine_after_dimension
crossings_are n cap machine [] = refl
crossings_are n cap machine (d ∷ ds) = crossings_are n cap (machine_after_dimension n cap d machine) ds

-- all chips after injection
abbrev pub chips_in : ℕ → ℕ → Machine → Chips
chips_in n cap machine =
    each_chip n (λ c. chip_after_injection (taken_in cap machine c) (chip_at machine.chips c))

-- all buffers before delivery
abbrev pub buffers_in : ℕ → ℕ → Machine → List (List Message)
buffers_in n cap machine = crossed_buffers machine.routing n cap (range_with_len 0 n)
    (each_chip n (λ c. nth_or_nil machine.buffers c ++ sent_in n cap machine c))

-- the log of a chip after injection
abbrev log_in : ℕ → ℕ → Machine → ℕ → List Event
log_in n cap machine c = nth_or_nil machine.logs c ++ map Injected (sent_in n cap machine c)

-- what a chip delivers
abbrev pub out_of : ℕ → ℕ → Machine → ℕ → List Message
out_of n cap machine c = delivered_here (nth_or_nil (buffers_in n cap machine) c) (chip_at (chips_in n cap machine) c)

-- the machine after all of it
abbrev pub cycled : ℕ → ℕ → Machine → Machine
cycled n cap machine = record {
  chips = each_chip n (λ c. chip_after_delivery (out_of n cap machine c) (chip_at (chips_in n cap machine) c));
  buffers = each_chip n (λ c. kept_here (nth_or_nil (buffers_in n cap machine) c) (chip_at (chips_in n cap machine) c));
  logs = each_chip n (λ c. nth_or_nil (each_chip n (log_in n cap machine)) c
      ++ map (λ m. Delivered c m) (out_of n cap machine c));
  clock = machine.clock + 1;
  routing = machine.routing;
}

pub run_of-cycle : (n cap : ℕ) (machine : Machine) → length machine.buffers ≡ 2 ^ n
    → run_of n cap machine (Cycle ∷ []) ≡ cycled n cap machine
unfolding machine_after_injection machine_after_delivery
run_of-cycle n cap machine long =
    run_of-one n cap machine Cycle long ∙ after_cycle-is n cap machine
    ∙ ap (machine_after_delivery n) (crossings_are n cap (machine_after_injection n cap machine) (range_with_len 0 n))

-- ---- nothing comes in or out

pub record IsIdle (n cap : ℕ) (machine : Machine) : Type 0 where
  pub taken : (c : ℕ) → c < 2 ^ n → sent_in n cap machine c ≡ []
  pub out : (c : ℕ) → c < 2 ^ n → out_of n cap machine c ≡ []

-- how many events chip c has
abbrev told : Machine → ℕ → ℕ
told machine c = length (nth_or_nil machine.logs c)

-- and how many more a petit cycle tells
abbrev more : ℕ → ℕ → Machine → ℕ → ℕ
more n cap machine c = length (sent_in n cap machine c) + length (out_of n cap machine c)

told-cycled : (n cap : ℕ) (machine : Machine) (c : ℕ) → c < 2 ^ n
    → told (cycled n cap machine) c ≡ told machine c + more n cap machine c
told-cycled n cap machine c l =
    let sent = sent_in n cap machine c in
    let out = out_of n cap machine c in
    let before = nth_or_nil machine.logs c ++ map Injected sent in
    let first = get_or-each_below (2 ^ n) (log_in n cap machine) c [] l in
    let both = get_or-each_below (2 ^ n)
    (λ k. nth_or_nil (each_chip n (log_in n cap machine)) k
    ++ map (λ m. Delivered k m) (out_of n cap machine k)) c [] l
    ∙ ap (λ events. events ++ map (λ m. Delivered c m) out) first in
    let all = ap length both ∙ length-append before (map (λ m. Delivered c m) out) in
    let half = length-append (nth_or_nil machine.logs c) (map Injected sent) in
    let injected = length-map sent Injected in
    let delivered = length-map out (λ m. Delivered c m) in
    omega (arith, all, half, injected, delivered)

event_count-cycled : (n cap : ℕ) (machine : Machine) → event_count n (cycled n cap machine)
    ≡ sum (tabulate 0 (2 ^ n) (λ c. told machine c + more n cap machine c))
unfolding event_count
event_count-cycled n cap machine =
    ap sum (same_each_below 0 (2 ^ n) (told (cycled n cap machine)) (λ c. told machine c + more n cap machine c)
    (told-cycled n cap machine))

-- one number more
one_more : (f : ℕ → ℕ) (count : ℕ) → sum (tabulate 0 (suc count) f) ≡ sum (tabulate 0 count f) + f count
one_more f count =
    let next : suc count ≡ count + 1 = omega arith in
    ap (λ (k : ℕ). sum (tabulate 0 k f)) next ∙ sum-tabulate-more f count

nothing : (f : ℕ → ℕ) → sum (tabulate 0 zero f) ≡ 0
unfolding tabulate
nothing f = refl

-- more makes a sum no less
no_less : (f g : ℕ → ℕ) (count : ℕ) → sum (tabulate 0 count f) ≤ sum (tabulate 0 count (λ c. f c + g c))
no_less f g zero = omega (arith, nothing f, nothing (λ c. f c + g c))
no_less f g (suc count) =
    omega (arith, no_less f g count, one_more f count, one_more (λ c. f c + g c) count)

-- where it is the same nothing was more
none_more : (f g : ℕ → ℕ) (count : ℕ) → sum (tabulate 0 count (λ c. f c + g c)) ≡ sum (tabulate 0 count f)
    → (c : ℕ) → c < count → g c ≡ 0
none_more f g zero same c l = absurd (omega (arith, l))
none_more f g (suc count) same c l =
    let one = one_more f count in
    let both = one_more (λ k. f k + g k) count in
    let less = no_less f g count in
    ⊎_elim
    (λ (below : c < count). none_more f g count (omega (arith, same, one, both, less)) c below)
    (λ (past : count ≤ c). let last : c ≡ count = omega (arith, l, past) in
    ap g last ∙ omega (arith, same, one, both, less))
    (cases_lt c count)

empty : {X : Type 0} (xs : List X) → length xs ≡ 0 → xs ≡ []
empty [] e = refl
empty (x ∷ xs) e = absurd (omega (arith, e))

pub idle_from_still : (n cap : ℕ) (machine : Machine) → event_count n (cycled n cap machine) ≡ event_count n machine
    → IsIdle n cap machine
unfolding event_count
idle_from_still n cap machine still =
    let none = none_more (told machine) (more n cap machine) (2 ^ n) (sym (event_count-cycled n cap machine) ∙ still) in
    record {
      taken = λ c l. empty (sent_in n cap machine c) (omega (arith, none c l));
      out = λ c l. empty (out_of n cap machine c) (omega (arith, none c l));
    }

pub still_from_idle : (n cap : ℕ) (machine : Machine) → IsIdle n cap machine
    → event_count n (cycled n cap machine) ≡ event_count n machine
unfolding event_count
still_from_idle n cap machine idle =
    event_count-cycled n cap machine
    ∙ ap sum (same_each_below 0 (2 ^ n) (λ c. told machine c + more n cap machine c) (told machine)
    (λ c l. let in_none = ap length (idle.taken c l) in let out_none = ap length (idle.out c l) in
    omega (arith, in_none, out_none)))

-- ---- who sends and who receives then

unsent : {X Y : Type 0} (f : X → Y) (xs : List X) → map f xs ≡ [] → xs ≡ []
unsent f [] e = refl
unsent f (x ∷ xs) e = absurd cc

pub none_taken : (n cap : ℕ) (machine : Machine) (c : ℕ) → sent_in n cap machine c ≡ [] → taken_in cap machine c ≡ []
none_taken n cap machine c e =
    unsent (message_sent n machine.clock c (chip_at machine.chips c)) (taken_in cap machine c) e

of_each : (f : ℕ → Processor) (p : ℕ) → p < 16 → processor_at (each_processor f) p ≡ f p
of_each f p l = get_or-each_below 16 f p no_processor l

past_each : (f : ℕ → Processor) (p : ℕ) → 16 ≤ p → processor_at (each_processor f) p ≡ no_processor
past_each f p l = get_or_past (each_processor f) p no_processor (omega (arith, length-tabulate 0 16 f, l))

recv_stays : (was_taken : Bool) (processor : Processor)
    → flag (processor_after_injection was_taken processor) RECV ≡ flag processor RECV
recv_stays true processor =
    get_or-set_other (slice_set processor.flags SEND false) ACK RECV true false (λ e. omega (arith, e))
    ∙ get_or-set_other processor.flags SEND RECV false false (λ e. omega (arith, e))
recv_stays false processor = get_or-set_other processor.flags ACK RECV false false (λ e. omega (arith, e))

send_stays : (processor : Processor) → flag (processor_after_injection false processor) SEND ≡ flag processor SEND
send_stays processor = get_or-set_other processor.flags ACK SEND false false (λ e. omega (arith, e))

-- a chip from which nobody's message was taken and to which none was delivered
abbrev left_alone : List Processor → List Processor
left_alone chip = chip_after_delivery [] (chip_after_injection [] chip)

asks_on : (chip : List Processor) (p : ℕ) → p < 16
    → flag (processor_at (left_alone chip) p) SEND ≡ flag (processor_at chip p) SEND
unfolding chip_after_injection chip_after_delivery
asks_on chip p l =
    let injected = λ (k : ℕ). processor_after_injection false (processor_at chip k) in
    ap (λ (q : Processor). flag q SEND)
    (of_each (λ k. processor_at (each_processor injected) k) p l ∙ of_each injected p l)
    ∙ send_stays (processor_at chip p)

-- whatever is taken in after that
receives_on : (chip : List Processor) (taken : List ℕ) (p : ℕ)
    → can_receive (chip_after_injection taken (left_alone chip)) p ≡ can_receive (chip_after_injection [] chip) p
unfolding chip_after_injection chip_after_delivery
receives_on chip taken p =
    let injected = λ (k : ℕ). processor_after_injection false (processor_at chip k) in
    let alone = λ (k : ℕ). processor_at (each_processor injected) k in
    let again = λ (k : ℕ). processor_after_injection (is_among k taken) (processor_at (each_processor alone) k) in
    ⊎_elim
    (λ (l : p < 16). ap (λ (q : Processor). not (flag q RECV)) (of_each again p l)
    ∙ ap not (recv_stays (is_among p taken) (processor_at (each_processor alone) p))
    ∙ ap (λ (q : Processor). not (flag q RECV)) (of_each alone p l))
    (λ (l : 16 ≤ p). ap (λ (q : Processor). not (flag q RECV)) (past_each again p l ∙ sym (past_each injected p l)))
    (cases_lt p 16)

chip_left : (n cap : ℕ) (machine : Machine) (c : ℕ) → IsIdle n cap machine → c < 2 ^ n
    → chip_at (cycled n cap machine).chips c ≡ left_alone (chip_at machine.chips c)
chip_left n cap machine c idle l =
    let injected = λ (k : ℕ). chip_after_injection (taken_in cap machine k) (chip_at machine.chips k) in
    let delivered = λ (k : ℕ). chip_after_delivery (out_of n cap machine k) (chip_at (chips_in n cap machine) k) in
    get_or-each_below (2 ^ n) delivered c [] l
    ∙ (λ i. chip_after_delivery (idle.out c l i) (get_or-each_below (2 ^ n) injected c [] l i))
    ∙ ap (λ ps. chip_after_delivery [] (chip_after_injection ps (chip_at machine.chips c)))
    (none_taken n cap machine c (idle.taken c l))

filter-range : (f g : ℕ → Bool) (first count : ℕ) → ((p : ℕ) → first ≤ p → p < first + count → f p ≡ g p)
    → filter f (range_with_len first count) ≡ filter g (range_with_len first count)
filter-range f g first zero same = refl
filter-range f g first (suc count) same =
    let later : (p : ℕ) → first + 1 ≤ p → p < first + 1 + count → f p ≡ g p =
    λ p from below. same p (omega (arith, from)) (omega (arith, below)) in
    let rest = filter-range f g (first + 1) count later in
    let here = same first (omega arith) (omega arith) in
    λ i. cond (here i) (first ∷ rest i) (rest i)

-- the same processors ask to send
pub asks_stay : (n cap : ℕ) (machine : Machine) (c : ℕ) → IsIdle n cap machine → c < 2 ^ n
    → senders (chip_at (cycled n cap machine).chips c) ≡ senders (chip_at machine.chips c)
unfolding senders
asks_stay n cap machine c idle l =
    let chip = chip_at machine.chips c in
    ap senders (chip_left n cap machine c idle l)
    ∙ filter-range (λ p. flag (processor_at (left_alone chip) p) SEND) (λ p. flag (processor_at chip p) SEND) 0 16
    (λ p from below. asks_on chip p (omega (arith, below)))

-- the same can receive
pub receives_stay : (n cap : ℕ) (machine : Machine) (c p : ℕ) → IsIdle n cap machine → c < 2 ^ n
    → can_receive (chip_at (chips_in n cap (cycled n cap machine)) c) p
    ≡ can_receive (chip_at (chips_in n cap machine) c) p
receives_stay n cap machine c p idle l =
    let next = cycled n cap machine in
    let chip = chip_at machine.chips c in
    let taken = taken_in cap next c in
    let injected = λ (k : ℕ). chip_after_injection (taken_in cap machine k) (chip_at machine.chips k) in
    ap (λ (chip : List Processor). can_receive chip p)
    (get_or-each_below (2 ^ n) (λ k. chip_after_injection (taken_in cap next k) (chip_at next.chips k)) c [] l
    ∙ ap (chip_after_injection taken) (chip_left n cap machine c idle l))
    ∙ receives_on chip taken p
    ∙ ap (λ (chip : List Processor). can_receive chip p)
    (sym (get_or-each_below (2 ^ n) injected c [] l
    ∙ ap (λ ps. chip_after_injection ps chip) (none_taken n cap machine c (idle.taken c l))))
