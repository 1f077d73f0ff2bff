-- No buffer overflows: injection, a dimension step and delivery keep room.
use Rattle.std.proofs.Common.{◌≡◌, ℕ, ◌+◌, ◌-◌, ◌<◌, ◌≤◌, ◌^◌, min, Bool, true, false, eqb, ltb, List, [], ◌∷◌, ◌++◌}
use Rattle.std.proofs.Common.{length, Option, Some, None, refl, sym, ap, subst, ⊎_elim, arith}
use Rattle.std.proofs.lemmas.Bool.{cases_Bool, cases_lt, cond_both, ltb-true, eqb-false}
use Rattle.std.proofs.lemmas.List.{length-append, length-map, length-take, nil_from_length}
use Rattle.std.proofs.lemmas.List.Edits.{length-remove}
use Rattle.std.specs.Prelude.{bit_xor}
use Rattle.std.specs.List.{position_or_len}
use Rattle.std.specs.Option.{option_or, option_map, option_to_list}
use Rattle.cm_model.specs.declared.message.Message.{Message}
use Rattle.cm_model.specs.Processor.{Processor}
use Rattle.cm_model.specs.Array.{chip_at, nth_or_nil}
use Rattle.cm_model.specs.Router.{has_to_cross, message_across}
use Rattle.cm_model.specs.Letters.{senders, senders_taken, message_sent, can_receive}
use Rattle.cm_model.specs.Steps.{Step, Instruct, Look, Inject, Cross, Deliver, IsStep}
use Rattle.cm_model.specs.Machine.{Machine}
use Rattle.cm_model.specs.declared.rule.Rule.{Rule}
use Rattle.cm_model.specs.declared.rule.Rule.TheVariants.{First, Oldest}
use Rattle.cm_model.specs.Wiring.{Routing, Way, way_of}
use Rattle.cm_model.specs.Buffers.{taken_in, sent_in, machine_after_injection, first_place, last_place, referred_place}
use Rattle.cm_model.specs.Buffers.{chosen_place, leaving_place, element_at, without, outgoing}
use Rattle.cm_model.specs.Buffers.{buffer_after_dimension, sent_across, buffers_after_dimension}
use Rattle.cm_model.specs.Buffers.{machine_after_dimension}
use Rattle.cm_model.specs.Buffers.{machine_after_delivery, after_step}
use Rattle.cm_model.specs.OneChip.{is_accepted, arrived_for, kept}
use Rattle.cm_model.specs.Keeping.{HasRoom}
use Rattle.cm_model.proofs.Each.{get_or-each_below}
use Rattle.cm_model.proofs.Flips.{across_below}
use Rattle.cm_model.proofs.Leaving.{remove_past}
use Rattle.cm_model.proofs.Wires.{way_of-across}
use Rattle.cm_model.proofs.Places.{IsPlaceOf, oldest_place-within, youngest_place-some}

-- ---- one buffer

length-taken : (cap standing : ℕ) (chip : List Processor) → standing ≤ cap
    → standing + length (senders_taken cap standing chip) ≤ cap
length-taken cap standing chip h = omega (arith, length-take (min 4 (cap - standing)) (senders chip))

length-without : (xs : List Message) (o : Option ℕ) → length (without xs o) ≤ length xs
length-without xs None = omega arith
length-without xs (Some i) =
    ⊎_elim (λ (l : i < length xs). omega (arith, length-remove xs i l))
    (λ (l : length xs ≤ i). omega (arith, ap length (remove_past xs i l))) (cases_lt i (length xs))

length-option : {X : Type 0} (o : Option X) → length (option_to_list o) ≤ 1
length-option None = omega arith
length-option (Some x) = omega arith

-- the list without the one at a place of it
without_one : (here : List Message) (i : ℕ) → i < length here → length (without here (Some i)) < length here
without_one here i l = omega (arith, length-remove here i l)

-- who goes last of a list that is not empty
last_is_gone : (rule : Rule) (here : List Message) → 0 < length here
    → length (without here (last_place rule here)) < length here
last_is_gone First here some = without_one here (length here - 1) (omega arith)
last_is_gone Oldest [] some = absurd (omega arith)
last_is_gone Oldest (m ∷ ms) some =
    let youngest = youngest_place-some m ms in
    subst (λ (o : Option ℕ). length (without (m ∷ ms) o) < length (m ∷ ms)) (sym youngest.2)
    (without_one (m ∷ ms) youngest.0 youngest.1)

first_is_gone : (here : List Message) (o p : Option ℕ) → IsPlaceOf here o
    → length (without here p) < length here → length (without here (option_or o p)) < length here
first_is_gone here None p h l = l
first_is_gone here (Some i) p h l = without_one here i h

first_place-within : (rule : Rule) (d : ℕ) (here : List Message) → IsPlaceOf here (first_place rule d here)
first_place-within First d here =
    cond_both (ltb (position_or_len (has_to_cross d) here) (length here))
    (Some (position_or_len (has_to_cross d) here)) None (λ o. IsPlaceOf here o)
    (λ e. ltb-true (position_or_len (has_to_cross d) here) (length here) e) (λ e. tt)
first_place-within Oldest d here = oldest_place-within d here

-- at a full chip somebody is chosen
full_loses_one : (rule : Rule) (cap d : ℕ) (here : List Message) → length here ≡ cap → 0 < cap
    → length (without here (chosen_place rule cap d here)) < cap
full_loses_one rule cap d here full room =
    let last : length (without here (referred_place rule cap here)) < length here =
    cond_both (eqb (length here) cap) (last_place rule here) None (λ o. length (without here o) < length here)
    (λ t. last_is_gone rule here (omega arith)) (λ t. absurd (eqb-false (length here) cap t full)) in
    let gone : length (without here (chosen_place rule cap d here)) < length here =
    first_is_gone here (first_place rule d here) (referred_place rule cap here) (first_place-within rule d here) last in
    omega arith

-- who has been left by whom it chooses has room for one who comes
pub choosing_makes_room : (rule : Rule) (cap d : ℕ) (here : List Message) → length here ≤ cap → 0 < cap
    → length (without here (chosen_place rule cap d here)) < cap
choosing_makes_room rule cap d here within some =
    let fewer : length (without here (chosen_place rule cap d here)) ≤ length here =
    length-without here (chosen_place rule cap d here) in
    ⊎_elim (λ (l : length here < cap). omega arith)
    (λ (l : cap ≤ length here). full_loses_one rule cap d here (omega arith) some) (cases_lt (length here) cap)

-- who has been left by all who leave has room for one who comes, where the wire is not cut
pub leaving_makes_room : (way : Way) (cap d : ℕ) (here : List Message) → way.cut ≡ false → length here ≤ cap → 0 < cap
    → length (without here (leaving_place way cap d here)) < cap
unfolding leaving_place
leaving_makes_room way cap d here joined within some =
    rw joined (choosing_makes_room way.rule cap d here within some)

none_leaves_none : (rule : Rule) (cap d : ℕ) (there : List Message) → length there ≡ 0
    → element_at there (chosen_place rule cap d there) ≡ None
none_leaves_none rule cap d there e = let empty : there ≡ [] = nil_from_length there e in
    rw empty (from_nobody (chosen_place rule cap d []))
  where
    from_nobody : (o : Option ℕ) → element_at {X = Message} [] o ≡ None
    from_nobody None = refl
    from_nobody (Some i) = refl

-- a buffer that all who leave have left, and who comes from across
length-exchanged : (rule : Rule) (cap d : ℕ) (here there : List Message) → length here ≤ cap → length there ≤ cap
    → length (without here (chosen_place rule cap d here)
    ++ option_to_list (option_map (message_across d) (element_at there (chosen_place rule cap d there)))) ≤ cap
length-exchanged rule cap d here there h k =
    let comes : Option Message = option_map (message_across d) (element_at there (chosen_place rule cap d there)) in
    let long : length (without here (chosen_place rule cap d here) ++ option_to_list comes)
    ≡ length (without here (chosen_place rule cap d here)) + length (option_to_list comes) =
    length-append (without here (chosen_place rule cap d here)) (option_to_list comes) in
    let most : length (option_to_list comes) ≤ 1 = length-option comes in
    ⊎_elim
    (λ (room : 0 < cap). let less : length (without here (chosen_place rule cap d here)) < cap =
    choosing_makes_room rule cap d here h room in omega arith)
    (λ (none : cap ≤ 0).
    let fewer : length (without here (chosen_place rule cap d here)) ≤ length here =
    length-without here (chosen_place rule cap d here) in
    let nobody : length (option_to_list comes) ≡ 0 =
    ap (λ o. length (option_to_list (option_map (message_across d) o)))
    (none_leaves_none rule cap d there (omega arith)) in omega arith)
    (cases_lt 0 cap)

-- the two ends of a wire send in one way
length-after_dimension : (way : Way) (cap d : ℕ) (here there : List Message) → length here ≤ cap → length there ≤ cap
    → length (buffer_after_dimension way cap d here (outgoing way cap d there)) ≤ cap
unfolding buffer_after_dimension leaving_place
length-after_dimension way cap d here there h k =
    ⊎_elim
    (λ (e : way.cut ≡ true). rw e (omega (arith, h, length-append here [])))
    (λ (e : way.cut ≡ false). rw e (length-exchanged way.rule cap d here there h k))
    (cases_Bool way.cut)

length-kept : (receives : ℕ → Bool) (before : List ℕ) (ms : List Message) → length (kept receives before ms) ≤ length ms
length-kept receives before [] = omega arith
length-kept receives before (m ∷ ms) =
    let ih : length (kept receives (arrived_for before m) ms) ≤ length ms =
    length-kept receives (arrived_for before m) ms in
    ⊎_elim (λ (e : is_accepted receives before m ≡ true). rw e (omega arith))
    (λ (e : is_accepted receives before m ≡ false). rw e (omega arith)) (cases_Bool (is_accepted receives before m))

-- ---- all buffers

pub HasRoom-after_injection : (n cap : ℕ) (machine : Machine) → HasRoom n cap machine
    → HasRoom n cap (machine_after_injection n cap machine)
unfolding machine_after_injection
HasRoom-after_injection n cap machine h c l =
    let here : length (nth_or_nil machine.buffers c) ≤ cap = h c l in
    subst (λ (xs : List Message). length xs ≤ cap)
    (sym (get_or-each_below (2 ^ n) (λ b. nth_or_nil machine.buffers b ++ sent_in n cap machine b) c [] l))
    (omega (
      arith,
      length-append (nth_or_nil machine.buffers c) (sent_in n cap machine c),
      length-taken cap (length (nth_or_nil machine.buffers c)) (chip_at machine.chips c) here,
      length-map (taken_in cap machine c) (message_sent n machine.clock c (chip_at machine.chips c)),
    ))

pub crossings_keep_room : (routing : Routing) (n cap d : ℕ) (buffers : List (List Message)) → d < n
    → ((c : ℕ) → c < 2 ^ n → length (nth_or_nil buffers c) ≤ cap) → (c : ℕ) → c < 2 ^ n →
    length (nth_or_nil (buffers_after_dimension routing n cap d buffers) c) ≤ cap
crossings_keep_room routing n cap d buffers below h c l =
    let across : ℕ = bit_xor c (2 ^ d) in
    subst (λ (xs : List Message). length xs ≤ cap)
    (sym (get_or-each_below (2 ^ n)
    (λ b. buffer_after_dimension (way_of routing b d) cap d (nth_or_nil buffers b)
    (sent_across routing cap d buffers (bit_xor b (2 ^ d)))) c [] l))
    (subst (λ (way : Way). length (buffer_after_dimension (way_of routing c d) cap d (nth_or_nil buffers c)
    (outgoing way cap d (nth_or_nil buffers across))) ≤ cap)
    (sym (way_of-across routing c d))
    (length-after_dimension (way_of routing c d) cap d (nth_or_nil buffers c) (nth_or_nil buffers across) (h c l)
    (h across (across_below n d c below l))))

pub HasRoom-after_dimension : (n cap d : ℕ) (machine : Machine) → d < n → HasRoom n cap machine
    → HasRoom n cap (machine_after_dimension n cap d machine)
unfolding machine_after_dimension
HasRoom-after_dimension n cap d machine below h = crossings_keep_room machine.routing n cap d machine.buffers below h

pub HasRoom-after_delivery : (n cap : ℕ) (machine : Machine) → HasRoom n cap machine
    → HasRoom n cap (machine_after_delivery n machine)
unfolding machine_after_delivery
HasRoom-after_delivery n cap machine h c l =
    let here : length (nth_or_nil machine.buffers c) ≤ cap = h c l in
    subst (λ (xs : List Message). length xs ≤ cap)
    (sym (get_or-each_below (2 ^ n)
    (λ b. kept (can_receive (chip_at machine.chips b)) [] (nth_or_nil machine.buffers b)) c [] l))
    (omega (arith, length-kept (can_receive (chip_at machine.chips c)) [] (nth_or_nil machine.buffers c)))

pub HasRoom-after_step : (n cap : ℕ) (machine : Machine) (step : Step) → IsStep n step → HasRoom n cap machine
    → HasRoom n cap (after_step n cap machine step)
HasRoom-after_step n cap machine (Instruct nano) s h = h
HasRoom-after_step n cap machine Look s h = h
HasRoom-after_step n cap machine Inject s h = HasRoom-after_injection n cap machine h
HasRoom-after_step n cap machine (Cross d) s h = HasRoom-after_dimension n cap d machine s h
HasRoom-after_step n cap machine Deliver s h = HasRoom-after_delivery n cap machine h
