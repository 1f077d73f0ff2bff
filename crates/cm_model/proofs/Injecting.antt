-- Injection, on the set and by the buffers.
use Rattle.std.proofs.Common.{◌≡◌, ℕ, zero, suc, ◌+◌, ◌-◌, ◌<◌, ◌≤◌, ◌^◌, Bool, true, false, min, List, [], ◌∷◌, ◌++◌}
use Rattle.std.proofs.Common.{length, map, take, refl, sym, ◌∙◌, ap, subst, ⊎_elim, arith}
use Rattle.std.proofs.lemmas.Bool.{cases_Bool, cases_lt, eq-eqb}
use Rattle.std.proofs.lemmas.Bool.Decides.{nat_tests}
use Rattle.std.proofs.lemmas.List.{map-append, append-nil}
use Rattle.std.proofs.lemmas.List.Elements.{filter-append}
use Rattle.std.specs.List.{filter, flat_map, range_with_len}
use Rattle.cm_model.specs.Processor.{Processor, SEND, flag}
use Rattle.cm_model.specs.Chip.{processor_at}
use Rattle.cm_model.specs.Array.{chip_at}
use Rattle.cm_model.specs.Router.{Since, Standing, is_at, is_before, standing_at}
use Rattle.cm_model.specs.Order.{in_order, queue, messages_of, buffer}
use Rattle.cm_model.specs.Letters.{senders, senders_taken, message_sent, messages_sent}
use Rattle.cm_model.specs.Cycle.{State, taken_at, new_record, new_records}
use Rattle.cm_model.proofs.Order.{AllBefore, AllAfter, IsRising, Precedes, in_order-append}
use Rattle.cm_model.proofs.Crossing.{AllBefore-filter, AllBefore-in_order}
use Rattle.cm_model.proofs.Readiness.{IsReady, AllAt, AllBefore-later, AllBefore-append, AllBefore-flat_map}
use Rattle.cm_model.proofs.Readiness.{IsRising-append, gathered, gathered_past}

-- ---- the taken rise, and are processors of a chip

-- each number of the list is above this one
abbrev pub AllAbove : ℕ → List ℕ → Type 0
AllAbove p [] = Unit {0}
AllAbove p (q ∷ qs) = (p < q) × AllAbove p qs

abbrev pub IsAscending : List ℕ → Type 0
IsAscending [] = Unit {0}
IsAscending (p ∷ ps) = AllAbove p ps × IsAscending ps

abbrev pub AllBelow : ℕ → List ℕ → Type 0
AllBelow n [] = Unit {0}
AllBelow n (p ∷ ps) = (p < n) × AllBelow n ps

AllAbove-range : (p a k : ℕ) → p < a → AllAbove p (range_with_len a k)
AllAbove-range p a zero h = tt
AllAbove-range p a (suc k) h = (h, AllAbove-range p (a + 1) k (omega arith))

IsAscending-range : (a k : ℕ) → IsAscending (range_with_len a k)
IsAscending-range a zero = tt
IsAscending-range a (suc k) = (AllAbove-range a (a + 1) k (omega arith), IsAscending-range (a + 1) k)

AllBelow-range : (n a k : ℕ) → a + k ≤ n → AllBelow n (range_with_len a k)
AllBelow-range n a zero h = tt
AllBelow-range n a (suc k) h = (omega arith, AllBelow-range n (a + 1) k (omega arith))

AllAbove-filter : (t : ℕ → Bool) (p : ℕ) (ps : List ℕ) → AllAbove p ps → AllAbove p (filter t ps)
AllAbove-filter t p [] h = tt
AllAbove-filter t p (q ∷ qs) h =
    ⊎_elim (λ (e : t q ≡ true). rw e (h.0, AllAbove-filter t p qs h.1))
    (λ (e : t q ≡ false). rw e (AllAbove-filter t p qs h.1)) (cases_Bool (t q))

IsAscending-filter : (t : ℕ → Bool) (ps : List ℕ) → IsAscending ps → IsAscending (filter t ps)
IsAscending-filter t [] h = tt
IsAscending-filter t (q ∷ qs) h =
    ⊎_elim (λ (e : t q ≡ true). rw e (AllAbove-filter t q qs h.0, IsAscending-filter t qs h.1))
    (λ (e : t q ≡ false). rw e (IsAscending-filter t qs h.1)) (cases_Bool (t q))

AllBelow-filter : (t : ℕ → Bool) (n : ℕ) (ps : List ℕ) → AllBelow n ps → AllBelow n (filter t ps)
AllBelow-filter t n [] h = tt
AllBelow-filter t n (q ∷ qs) h =
    ⊎_elim (λ (e : t q ≡ true). rw e (h.0, AllBelow-filter t n qs h.1))
    (λ (e : t q ≡ false). rw e (AllBelow-filter t n qs h.1)) (cases_Bool (t q))

AllAbove-take : (p k : ℕ) (ps : List ℕ) → AllAbove p ps → AllAbove p (take k ps)
AllAbove-take p zero ps h = tt
AllAbove-take p (suc k) [] h = tt
AllAbove-take p (suc k) (q ∷ qs) h = (h.0, AllAbove-take p k qs h.1)

IsAscending-take : (k : ℕ) (ps : List ℕ) → IsAscending ps → IsAscending (take k ps)
IsAscending-take zero ps h = tt
IsAscending-take (suc k) [] h = tt
IsAscending-take (suc k) (q ∷ qs) h = (AllAbove-take q k qs h.0, IsAscending-take k qs h.1)

AllBelow-take : (n k : ℕ) (ps : List ℕ) → AllBelow n ps → AllBelow n (take k ps)
AllBelow-take n zero ps h = tt
AllBelow-take n (suc k) [] h = tt
AllBelow-take n (suc k) (q ∷ qs) h = (h.0, AllBelow-take n k qs h.1)

IsAscending-senders : (chip : List Processor) → IsAscending (senders chip)
unfolding senders
IsAscending-senders chip =
    IsAscending-filter (λ p. flag (processor_at chip p) SEND) (range_with_len 0 16) (IsAscending-range 0 16)

AllBelow-senders : (chip : List Processor) → AllBelow 16 (senders chip)
unfolding senders
AllBelow-senders chip =
    AllBelow-filter (λ p. flag (processor_at chip p) SEND) 16 (range_with_len 0 16)
    (AllBelow-range 16 0 16 (omega arith))

pub IsAscending-taken : (cap standing : ℕ) (chip : List Processor) → IsAscending (senders_taken cap standing chip)
IsAscending-taken cap standing chip =
    IsAscending-take (min 4 (cap - standing)) (senders chip) (IsAscending-senders chip)

pub AllBelow-taken : (cap standing : ℕ) (chip : List Processor) → AllBelow 16 (senders_taken cap standing chip)
AllBelow-taken cap standing chip = AllBelow-take 16 (min 4 (cap - standing)) (senders chip) (AllBelow-senders chip)

-- ---- the records that a chip adds

abbrev pub cycle_begins : ℕ → Since
cycle_begins cycle = record { cycle = cycle; turn = 0 }

abbrev pub cycle_routes : ℕ → Since
cycle_routes cycle = record { cycle = cycle; turn = 16 }

AllAt-new : (n : ℕ) (state : State) (c : ℕ) (ps : List ℕ) → AllAt c (map (new_record n state c) ps)
AllAt-new n state c [] = tt
AllAt-new n state c (p ∷ ps) = (eq-eqb c c refl, AllAt-new n state c ps)

AllAfter-new : (n : ℕ) (state : State) (c p : ℕ) (ps : List ℕ) → AllAbove p ps
    → AllAfter (record { cycle = state.cycle; turn = p }) (map (new_record n state c) ps)
AllAfter-new n state c p [] h = tt
AllAfter-new n state c p (q ∷ qs) h = let below : p < q = h.0 in
    (grind (arith, nat_tests), AllAfter-new n state c p qs h.1)

IsRising-new : (n : ℕ) (state : State) (c : ℕ) (ps : List ℕ) → IsAscending ps → IsRising (map (new_record n state c) ps)
IsRising-new n state c [] h = tt
IsRising-new n state c (p ∷ ps) h = (AllAfter-new n state c p ps h.0, IsRising-new n state c ps h.1)

AllBefore-new : (n : ℕ) (state : State) (c : ℕ) (ps : List ℕ) → AllBelow 16 ps
    → AllBefore (cycle_routes state.cycle) (map (new_record n state c) ps)
AllBefore-new n state c [] h = tt
AllBefore-new n state c (p ∷ ps) h = let below : p < 16 = h.0 in
    (grind (arith, nat_tests), AllBefore-new n state c ps h.1)

AllAfter-old : (s : Since) (n : ℕ) (state : State) (c : ℕ) (ps : List ℕ)
    → is_before s (cycle_begins state.cycle) ≡ true → AllAfter s (map (new_record n state c) ps)
AllAfter-old s n state c [] h = tt
AllAfter-old s n state c (p ∷ ps) h = (grind (arith, nat_tests), AllAfter-old s n state c ps h)

Precedes-new : (n : ℕ) (state : State) (c : ℕ) (ps : List ℕ) (xs : List Standing)
    → AllBefore (cycle_begins state.cycle) xs → Precedes xs (map (new_record n state c) ps)
Precedes-new n state c ps [] h = tt
Precedes-new n state c ps (x ∷ xs) h = (AllAfter-old x.since n state c ps h.0, Precedes-new n state c ps xs h.1)

messages_of-new : (n : ℕ) (state : State) (c : ℕ) (ps : List ℕ)
    → messages_of (map (new_record n state c) ps) ≡ messages_sent n state.clock c (chip_at state.chips c) ps
messages_of-new n state c [] = refl
messages_of-new n state c (p ∷ ps) =
    ap (λ z. message_sent n state.clock c (chip_at state.chips c) p ∷ z) (messages_of-new n state c ps)

-- ---- the queues after injection

new_at : (n cap : ℕ) (state : State) (b : ℕ) → AllAt b (new_records n cap state b)
new_at n cap state b = AllAt-new n state b (taken_at cap state b)

-- the set after injection
abbrev pub with_new : ℕ → ℕ → State → List Standing
with_new n cap state = state.standing ++ flat_map (new_records n cap state) (range_with_len 0 (2 ^ n))

pub queue-with_new : (n cap : ℕ) (state : State) (c : ℕ) → IsReady (cycle_begins state.cycle) state.standing
    → c < 2 ^ n → queue c (with_new n cap state) ≡ queue c state.standing ++ new_records n cap state c
unfolding queue
queue-with_new n cap state c h l =
    ap in_order (filter-append (is_at c) state.standing (flat_map (new_records n cap state) (range_with_len 0 (2 ^ n)))
    ∙ ap (λ z. standing_at c state.standing ++ z)
    (gathered (new_records n cap state) (new_at n cap state) c 0 (2 ^ n) (omega arith) (omega arith)))
    ∙ in_order-append (standing_at c state.standing) (new_records n cap state c)
    (IsRising-new n state c (taken_at cap state c)
    (IsAscending-taken cap (length (standing_at c state.standing)) (chip_at state.chips c)))
    (Precedes-new n state c (taken_at cap state c) (standing_at c state.standing)
    (AllBefore-filter (is_at c) (cycle_begins state.cycle) state.standing h.before))

queue-with_none : (n cap : ℕ) (state : State) (c : ℕ) → 2 ^ n ≤ c
    → queue c (with_new n cap state) ≡ queue c state.standing
unfolding queue
queue-with_none n cap state c l =
    ap in_order (filter-append (is_at c) state.standing (flat_map (new_records n cap state) (range_with_len 0 (2 ^ n)))
    ∙ (ap (λ z. standing_at c state.standing ++ z)
    (gathered_past (new_records n cap state) (new_at n cap state) c 0 (2 ^ n) (omega arith))
    ∙ append-nil (standing_at c state.standing)))

IsRising-with_new : (n cap : ℕ) (state : State) (c : ℕ) → IsReady (cycle_begins state.cycle) state.standing
    → IsRising (queue c (with_new n cap state))
unfolding queue
IsRising-with_new n cap state c h =
    ⊎_elim
    (λ (l : c < 2 ^ n). subst (λ (xs : List Standing). IsRising xs) (sym (queue-with_new n cap state c h l))
    (IsRising-append (in_order (standing_at c state.standing)) (new_records n cap state c) (h.rising c)
    (IsRising-new n state c (taken_at cap state c)
    (IsAscending-taken cap (length (standing_at c state.standing)) (chip_at state.chips c)))
    (Precedes-new n state c (taken_at cap state c) (in_order (standing_at c state.standing))
    (AllBefore-in_order (cycle_begins state.cycle) (standing_at c state.standing)
    (AllBefore-filter (is_at c) (cycle_begins state.cycle) state.standing h.before)))))
    (λ (l : 2 ^ n ≤ c). subst (λ (xs : List Standing). IsRising xs) (sym (queue-with_none n cap state c l))
    (h.rising c))
    (cases_lt c (2 ^ n))

-- the first dimension finds the set ready
pub IsReady-with_new : (n cap : ℕ) (state : State) → IsReady (cycle_begins state.cycle) state.standing
    → IsReady (cycle_routes state.cycle) (with_new n cap state)
IsReady-with_new n cap state h = record {
  before = AllBefore-append (cycle_routes state.cycle) state.standing
      (flat_map (new_records n cap state) (range_with_len 0 (2 ^ n)))
      (AllBefore-later (cycle_begins state.cycle) (cycle_routes state.cycle) state.standing (grind (arith, nat_tests))
      h.before)
      (AllBefore-flat_map (cycle_routes state.cycle) (new_records n cap state) (range_with_len 0 (2 ^ n))
      (λ c. AllBefore-new n state c (taken_at cap state c)
      (AllBelow-taken cap (length (standing_at c state.standing)) (chip_at state.chips c))));
  rising = λ c. IsRising-with_new n cap state c h;
}

-- the buffer after injection: what was taken stands last
pub buffer-with_new : (n cap : ℕ) (state : State) (c : ℕ) → IsReady (cycle_begins state.cycle) state.standing
    → c < 2 ^ n →
    buffer c (with_new n cap state) ≡ buffer c state.standing ++ messages_sent n state.clock c (chip_at state.chips c)
    (taken_at cap state c)
buffer-with_new n cap state c h l =
    ap messages_of (queue-with_new n cap state c h l)
    ∙ (map-append (λ r. r.message) (queue c state.standing) (new_records n cap state c)
    ∙ ap (λ z. buffer c state.standing ++ z) (messages_of-new n state c (taken_at cap state c)))
