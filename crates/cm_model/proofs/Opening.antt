-- A machine handed over: its set of records, and the machine of that set.
use Rattle.std.proofs.Common.{◌≡◌, ℕ, ◌+◌, ◌<◌, ◌≤◌, ◌^◌, List, [], ◌∷◌, length, refl, sym, ◌∙◌, ap}
use Rattle.std.proofs.Common.{subst, ⊎_elim, arith}
use Rattle.std.proofs.lemmas.Bool.{cases_lt, eq-eqb}
use Rattle.std.proofs.lemmas.Bool.Decides.{nat_tests}
use Rattle.std.specs.List.{range_with_len}
use Rattle.cm_model.specs.declared.message.Message.{Message}
use Rattle.cm_model.specs.Array.{each_chip, nth_or_nil}
use Rattle.cm_model.specs.Router.{Standing}
use Rattle.cm_model.specs.Order.{in_order, queue, messages_of, buffer}
use Rattle.cm_model.specs.Cycle.{State}
use Rattle.cm_model.specs.Machine.{Machine, records_from, opened, closed}
use Rattle.cm_model.proofs.Each.{get_or-each_below, is_each}
use Rattle.cm_model.proofs.Order.{AllBefore, AllAfter, IsRising, in_order-rising}
use Rattle.cm_model.proofs.Readiness.{IsReady, AllAt, AllBefore-flat_map, gathered, gathered_past}
use Rattle.cm_model.proofs.Injecting.{cycle_begins}

AllAt-records : (c i : ℕ) (ms : List Message) → AllAt c (records_from c i ms)
AllAt-records c i [] = tt
AllAt-records c i (m ∷ ms) = (eq-eqb c c refl, AllAt-records c (i + 1) ms)

AllAfter-records : (c i j : ℕ) (ms : List Message) → i < j
    → AllAfter (record { cycle = 0; turn = i }) (records_from c j ms)
AllAfter-records c i j [] h = tt
AllAfter-records c i j (m ∷ ms) h = (grind (arith, nat_tests), AllAfter-records c i (j + 1) ms (omega arith))

IsRising-records : (c i : ℕ) (ms : List Message) → IsRising (records_from c i ms)
IsRising-records c i [] = tt
IsRising-records c i (m ∷ ms) = (AllAfter-records c i (i + 1) ms (omega arith), IsRising-records c (i + 1) ms)

AllBefore-records : (c i : ℕ) (ms : List Message) → AllBefore (cycle_begins 1) (records_from c i ms)
AllBefore-records c i [] = tt
AllBefore-records c i (m ∷ ms) = (grind (arith, nat_tests), AllBefore-records c (i + 1) ms)

messages_of-records : (c i : ℕ) (ms : List Message) → messages_of (records_from c i ms) ≡ ms
messages_of-records c i [] = refl
messages_of-records c i (m ∷ ms) = ap (λ z. m ∷ z) (messages_of-records c (i + 1) ms)

-- the records of a chip of the machine
abbrev pub handed_over : Machine → ℕ → List Standing
handed_over machine c = records_from c 0 (nth_or_nil machine.buffers c)

queue-opened : (n : ℕ) (machine : Machine) (c : ℕ) → c < 2 ^ n
    → queue c (opened n machine).standing ≡ handed_over machine c
unfolding opened queue
queue-opened n machine c l =
    ap in_order (gathered (handed_over machine) (λ b. AllAt-records b 0 (nth_or_nil machine.buffers b)) c 0 (2 ^ n)
    (omega arith) (omega arith))
    ∙ in_order-rising (handed_over machine c) (IsRising-records c 0 (nth_or_nil machine.buffers c))

queue-opened_past : (n : ℕ) (machine : Machine) (c : ℕ) → 2 ^ n ≤ c → queue c (opened n machine).standing ≡ []
unfolding opened queue
queue-opened_past n machine c l =
    ap in_order (gathered_past (handed_over machine) (λ b. AllAt-records b 0 (nth_or_nil machine.buffers b)) c 0
    (2 ^ n) (omega arith))

IsRising-opened : (n : ℕ) (machine : Machine) (c : ℕ) → IsRising (queue c (opened n machine).standing)
IsRising-opened n machine c =
    ⊎_elim
    (λ (l : c < 2 ^ n). subst (λ (xs : List Standing). IsRising xs) (sym (queue-opened n machine c l))
    (IsRising-records c 0 (nth_or_nil machine.buffers c)))
    (λ (l : 2 ^ n ≤ c). subst (λ (xs : List Standing). IsRising xs) (sym (queue-opened_past n machine c l)) tt)
    (cases_lt c (2 ^ n))

-- the first petit cycle finds the set ready
pub IsReady-opened : (n : ℕ) (machine : Machine)
    → IsReady (cycle_begins (opened n machine).cycle) (opened n machine).standing
unfolding opened
IsReady-opened n machine = record {
  before = AllBefore-flat_map (cycle_begins 1) (handed_over machine) (range_with_len 0 (2 ^ n))
      (λ c. AllBefore-records c 0 (nth_or_nil machine.buffers c));
  rising = IsRising-opened n machine;
}

pub buffer-opened : (n : ℕ) (machine : Machine) (c : ℕ) → c < 2 ^ n
    → buffer c (opened n machine).standing ≡ nth_or_nil machine.buffers c
buffer-opened n machine c l = ap messages_of (queue-opened n machine c l)
    ∙ messages_of-records c 0 (nth_or_nil machine.buffers c)

-- what is handed over and not run is as it was
pub closed-opened : (n : ℕ) (machine : Machine) → length machine.buffers ≡ 2 ^ n → closed n (opened n machine) ≡ machine
unfolding closed opened
closed-opened n machine long =
    let same : machine.buffers ≡ each_chip n (λ c. buffer c (opened n machine).standing) =
    is_each [] (2 ^ n) (λ c. buffer c (opened n machine).standing) machine.buffers long
    (λ c l. sym (buffer-opened n machine c l)) in
    λ i. record {
      chips = machine.chips;
      buffers = sym same i;
      logs = machine.logs;
      clock = machine.clock;
      routing = machine.routing;
    }

-- the buffer of a chip, of the machine of a state
pub nth_or_nil-closed : (n : ℕ) (state : State) (c : ℕ) → c < 2 ^ n
    → nth_or_nil (closed n state).buffers c ≡ buffer c state.standing
unfolding closed
nth_or_nil-closed n state c l = get_or-each_below (2 ^ n) (λ b. buffer b state.standing) c [] l
