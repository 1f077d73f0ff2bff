-- Who leaves each chip of a run, chip by chip, and who comes from across.
use Rattle.std.proofs.Common.{◌≡◌, ℕ, ◌+◌, ◌*◌, ◌/◌, ◌%◌, ◌^◌, ◌<◌, ◌≤◌, ◌++◌, ◌⊎◌, true, false, List, [], length, get_or}
use Rattle.std.proofs.Common.{Option, None, map, refl, sym, ap, ◌∙◌, subst, ⊎_elim, inl, inr, arith}
use Rattle.std.specs.Prelude.{bit_xor}
use Rattle.std.specs.List.{All}
use Rattle.std.specs.Option.{option_map, option_to_list}
use Rattle.std.specs.Int.Bits.{xor_zero_r}
use Rattle.std.proofs.lemmas.Bool.{cases_Bool}
use Rattle.std.proofs.lemmas.List.{length-map, length-append}
use Rattle.std.proofs.lemmas.Nat.{xor_block, pow_below, pow_pos}
use Rattle.cm_model.specs.declared.message.Message.{Message}
use Rattle.cm_model.specs.Each.{tabulate}
use Rattle.cm_model.specs.Array.{each_chip, nth_or_nil}
use Rattle.cm_model.specs.Wiring.{Routing, Way, plain_way, is_cut, way_of}
use Rattle.cm_model.specs.Buffers.{leaving_place, without, outgoing, buffer_after_dimension}
use Rattle.cm_model.proofs.Each.{length-tabulate, get_or-each_below, same_each_below}
use Rattle.cm_model.proofs.Flips.{across_below}
use Rattle.cm_model.proofs.Rooms.{leaving_makes_room}
use Rattle.cm_model.proofs.Wires.{way_of-across}
use Rattle.cm_slots.specs.declared.ticket.Ticket.{Ticket}
use Rattle.cm_slots.specs.Queues.{stayers_of}
use Rattle.cm_slots.specs.Tickets.{has_to_go, ticket_going, queue_exchanged}
use Rattle.cm_router_engine.specs.Standing.{message_of_ticket, standing, all_standing, HaveMessages, HasMessage}
use Rattle.cm_router_engine.specs.Routed.{ticket_leaving, tickets_staying, tickets_crossed}
use Rattle.cm_router_engine.proofs.Carrying.{staying-standing, plain_staying, plain_leaving, plain_crossed, mapped_each}
use Rattle.cm_router_engine.proofs.Carrying.{crossed_standing, left_standing, gone_standing, left_kept, gone_kept, crossed_kept}
use Rattle.cm_router_engine.proofs.Carrying.{All-tabulate, all_at, as_many, room_for_one, standing_at}

-- across a dimension that a run spans a chip stays in it
stays_in : (span first i d : ℕ) → first % 2 ^ span ≡ 0 → d < span → i < 2 ^ span
    → bit_xor (first + i) (2 ^ d) ≡ first + bit_xor i (2 ^ d)
stays_in span first i d even below inside =
    let q : ℕ = first / 2 ^ span in
    let some : 0 < 2 ^ span = pow_pos span in
    let begins : q * 2 ^ span ≡ first = grind (arith, even, some) in
    let flip : 0 * 2 ^ span + 2 ^ d ≡ 2 ^ d = omega arith in
    rw (flip, xor_zero_r q, begins) at (xor_block span q 0 i (2 ^ d) inside (pow_below d span below))

-- ---- one chip

module _ (row : List Message) (room d : ℕ) (way : Way) (ts : List Ticket) where
  pub nobody_leaves : way.cut ≡ true → ticket_leaving row way room d ts ≡ None
  unfolding leaving_place
  nobody_leaves cut = rw cut refl

  all_stay : way.cut ≡ true → tickets_staying row way room d ts ≡ ts
  unfolding leaving_place
  all_stay cut = rw cut refl

  pub room_is_made : way.cut ≡ false → length ts ≤ room → 0 < room → length (tickets_staying row way room d ts) < room
  room_is_made joined within some =
      let left : length (tickets_staying row way room d ts)
      ≡ length (without (standing row ts) (leaving_place way room d (standing row ts))) =
      sym (length-map (tickets_staying row way room d ts) (message_of_ticket row)) ∙ ap length (staying-standing row room d way ts) in
      rw left (leaving_makes_room way room d (standing row ts) joined (rw length-map within) some)

  pub stays_within : length ts ≤ room → 0 < room → length (tickets_staying row way room d ts) ≤ room
  stays_within within some =
      ⊎_elim (λ (e : way.cut ≡ true). rw (all_stay e) within)
      (λ (e : way.cut ≡ false). omega (arith, room_is_made e within some)) (cases_Bool way.cut)

-- the same, where who comes from another queue stands last
crossed_within : (row : List Message) (room d : ℕ) (way : Way) (here there : List Ticket) → length here ≤ room → 0 < room
    → length (tickets_crossed row way room d here there) ≤ room
crossed_within row room d way here there within some =
    ⊎_elim
    (λ (e : way.cut ≡ true). rw (all_stay row room d way here e, nobody_leaves row room d way there e)
    (omega (arith, length-append here [], within)))
    (λ (e : way.cut ≡ false). room_for_one room (tickets_staying row way room d here)
    (ticket_leaving row way room d there) (room_is_made row room d way here e within some))
    (cases_Bool way.cut)

-- ---- all chips of a run

module _ (row : List Message) (routing : Routing) (room d span first : ℕ) (old left : List (List Ticket))
    (gone : List (Option Ticket)) (begins : first % 2 ^ span ≡ 0) (below : d < span) (long : length old ≡ 2 ^ span)
    (staying : left ≡ tabulate 0 (length old)
    (λ c. tickets_staying row (way_of routing (first + c) d) room d (nth_or_nil old c)))
    (leaving : gone ≡ tabulate 0 (length old)
    (λ c. ticket_leaving row (way_of routing (first + c) d) room d (nth_or_nil old c))) where
  way_across : (c : ℕ) → c < 2 ^ span → way_of routing (first + bit_xor c (2 ^ d)) d ≡ way_of routing (first + c) d
  way_across c l =
      sym (ap (λ (b : ℕ). way_of routing b d) (stays_in span first c d begins below l)) ∙ way_of-across routing (first + c) d

  left_at : (c : ℕ) → c < 2 ^ span
      → nth_or_nil left c ≡ tickets_staying row (way_of routing (first + c) d) room d (nth_or_nil old c)
  left_at c l = ap (λ (xs : List (List Ticket)). nth_or_nil xs c) staying
      ∙ get_or-each_below (length old) (λ b. tickets_staying row (way_of routing (first + b) d) room d (nth_or_nil old b)) c []
      (omega (arith, long, l))

  gone_at : (c : ℕ) → c < 2 ^ span
      → get_or gone c None ≡ ticket_leaving row (way_of routing (first + c) d) room d (nth_or_nil old c)
  gone_at c l = ap (λ (xs : List (Option Ticket)). get_or xs c None) leaving
      ∙ get_or-each_below (length old) (λ b. ticket_leaving row (way_of routing (first + b) d) room d (nth_or_nil old b)) c
      None (omega (arith, long, l))

  pub gone_across : (c : ℕ) → c < 2 ^ span → get_or gone (bit_xor c (2 ^ d)) None
      ≡ ticket_leaving row (way_of routing (first + c) d) room d (nth_or_nil old (bit_xor c (2 ^ d)))
  gone_across c l =
      let there : ℕ = bit_xor c (2 ^ d) in
      gone_at there (across_below span d c below l)
      ∙ ap (λ (way : Way). ticket_leaving row way room d (nth_or_nil old there)) (way_across c l)

  pub space_across : All (λ ts. length ts ≤ room) old → 0 < room → (c : ℕ) → c < 2 ^ span
      → (get_or gone (bit_xor c (2 ^ d)) None ≡ None) ⊎ (length (nth_or_nil left c) < room)
  space_across within some c l =
      let way : Way = way_of routing (first + c) d in
      ⊎_elim
      (λ (e : way.cut ≡ true).
      inl (gone_across c l ∙ nobody_leaves row room d way (nth_or_nil old (bit_xor c (2 ^ d))) e))
      (λ (e : way.cut ≡ false).
      inr (rw (left_at c l) (room_is_made row room d way (nth_or_nil old c) e (within c [] (omega (arith, long, l))) some)))
      (cases_Bool way.cut)

  pub crossed : tabulate 0 (length left) (λ c. nth_or_nil left c ++ option_to_list (get_or gone (bit_xor c (2 ^ d)) None))
      ≡ each_chip span (λ c. tickets_crossed row (way_of routing (first + c) d) room d
      (nth_or_nil old c) (nth_or_nil old (bit_xor c (2 ^ d))))
  crossed =
      let many : length left ≡ 2 ^ span = ap length staying ∙ (length-tabulate 0 (length old)
      (λ c. tickets_staying row (way_of routing (first + c) d) room d (nth_or_nil old c)) ∙ long) in
      rw many (same_each_below [] (2 ^ span)
      (λ c. nth_or_nil left c ++ option_to_list (get_or gone (bit_xor c (2 ^ d)) None))
      (λ c. tickets_crossed row (way_of routing (first + c) d) room d (nth_or_nil old c) (nth_or_nil old (bit_xor c (2 ^ d))))
      (λ c l. λ i. left_at c l i ++ option_to_list (gone_across c l i)))

-- ---- where no wire is cut, and who came first goes first

module _ (row : List Message) (routing : Routing) (room d first : ℕ) (old : List (List Ticket))
    (plain : (c : ℕ) → way_of routing c d ≡ plain_way) where
  pub all_crossed : (span : ℕ)
      → each_chip span (λ c. queue_exchanged room d (nth_or_nil old c) (nth_or_nil old (bit_xor c (2 ^ d))))
      ≡ each_chip span (λ c. tickets_crossed row (way_of routing (first + c) d) room d
      (nth_or_nil old c) (nth_or_nil old (bit_xor c (2 ^ d))))
  all_crossed span =
      same_each_below [] (2 ^ span) (λ c. queue_exchanged room d (nth_or_nil old c) (nth_or_nil old (bit_xor c (2 ^ d))))
      (λ c. tickets_crossed row (way_of routing (first + c) d) room d (nth_or_nil old c) (nth_or_nil old (bit_xor c (2 ^ d))))
      (λ c l. plain_crossed row room d (nth_or_nil old c) (nth_or_nil old (bit_xor c (2 ^ d)))
      ∙ ap (λ (way : Way). tickets_crossed row way room d (nth_or_nil old c) (nth_or_nil old (bit_xor c (2 ^ d))))
      (sym (plain (first + c))))

  pub all_staying : map (λ ts. stayers_of (has_to_go d) room ts) old
      ≡ tabulate 0 (length old) (λ c. tickets_staying row (way_of routing (first + c) d) room d (nth_or_nil old c))
  all_staying =
      mapped_each (λ ts. stayers_of (has_to_go d) room ts) [] [] old
      ∙ same_each_below [] (length old) (λ c. stayers_of (has_to_go d) room (nth_or_nil old c))
      (λ c. tickets_staying row (way_of routing (first + c) d) room d (nth_or_nil old c))
      (λ c l. sym (plain_staying row room d (nth_or_nil old c))
      ∙ ap (λ (way : Way). tickets_staying row way room d (nth_or_nil old c)) (sym (plain (first + c))))

  pub all_leaving : map (λ ts. ticket_going room d ts) old
      ≡ tabulate 0 (length old) (λ c. ticket_leaving row (way_of routing (first + c) d) room d (nth_or_nil old c))
  all_leaving =
      mapped_each (λ ts. ticket_going room d ts) [] None old
      ∙ same_each_below None (length old) (λ c. ticket_going room d (nth_or_nil old c))
      (λ c. ticket_leaving row (way_of routing (first + c) d) room d (nth_or_nil old c))
      (λ c l. sym (plain_leaving row room d (nth_or_nil old c))
      ∙ ap (λ (way : Way). ticket_leaving row way room d (nth_or_nil old c)) (sym (plain (first + c))))

-- ---- told by messages

-- of a run of chips, whose tickets stand for these messages, all after they crossed
module _ (row items : List Message) (same : row ≡ items) (routing : Routing) (room d span first : ℕ)
    (old new : List (List Ticket)) (buffers : List (List Message)) (are : all_standing items old ≡ buffers)
    (value : new ≡ each_chip span (λ c. tickets_crossed row (way_of routing (first + c) d) room d
    (nth_or_nil old c) (nth_or_nil old (bit_xor c (2 ^ d))))) where
  kept_value : new ≡ each_chip span (λ c. tickets_crossed items (way_of routing (first + c) d) room d
      (nth_or_nil old c) (nth_or_nil old (bit_xor c (2 ^ d))))
  kept_value = value ∙ (λ i. each_chip span (λ c. tickets_crossed (same i) (way_of routing (first + c) d) room d
      (nth_or_nil old c) (nth_or_nil old (bit_xor c (2 ^ d)))))

  pub whole_crossed : all_standing items new
      ≡ each_chip span (λ c. buffer_after_dimension (way_of routing (first + c) d) room d (nth_or_nil buffers c)
      (outgoing (way_of routing (first + c) d) room d (nth_or_nil buffers (bit_xor c (2 ^ d)))))
  whole_crossed =
      ap (all_standing items) kept_value
      ∙ (crossed_standing span room d (λ c. way_of routing (first + c) d) items old
      ∙ (λ i. each_chip span (λ c. buffer_after_dimension (way_of routing (first + c) d) room d (nth_or_nil (are i) c)
      (outgoing (way_of routing (first + c) d) room d (nth_or_nil (are i) (bit_xor c (2 ^ d)))))))

  pub whole_crossed_long : length new ≡ 2 ^ span
  whole_crossed_long = ap length value ∙ length-tabulate 0 (2 ^ span) _

  pub whole_crossed_kept : All (HaveMessages (length items)) old → All (HaveMessages (length items)) new
  whole_crossed_kept kept =
      subst (All (HaveMessages (length items))) (sym kept_value)
      (crossed_kept room d (length items) (λ c. way_of routing (first + c) d) items old kept span)

  pub whole_crossed_within : All (λ ms. length ms ≤ room) buffers → 0 < room
      → All (λ ms. length ms ≤ room) (all_standing items new)
  whole_crossed_within within some =
      let few : All (λ ts. length ts ≤ room) old = (as_many (λ n. n ≤ room) items old).1 (rw are within) in
      (as_many (λ n. n ≤ room) items new).0 (subst (All (λ ts. length ts ≤ room)) (sym value)
      (All-tabulate (λ (ts : List Ticket). length ts ≤ room) 0 (2 ^ span)
      (λ c. tickets_crossed row (way_of routing (first + c) d) room d (nth_or_nil old c) (nth_or_nil old (bit_xor c (2 ^ d))))
      (λ c. crossed_within row room d (way_of routing (first + c) d) (nth_or_nil old c) (nth_or_nil old (bit_xor c (2 ^ d)))
      (all_at (λ ts. length ts ≤ room) (omega arith) old c few) some)))

-- the same, after the first half
module _ (row items : List Message) (same : row ≡ items) (routing : Routing) (room d first : ℕ)
    (old new : List (List Ticket)) (buffers : List (List Message)) (are : all_standing items old ≡ buffers)
    (value : new ≡ tabulate 0 (length old)
    (λ c. tickets_staying row (way_of routing (first + c) d) room d (nth_or_nil old c))) where
  left_value : new ≡ tabulate 0 (length old)
      (λ c. tickets_staying items (way_of routing (first + c) d) room d (nth_or_nil old c))
  left_value = value ∙ (λ i. tabulate 0 (length old)
      (λ c. tickets_staying (same i) (way_of routing (first + c) d) room d (nth_or_nil old c)))

  many : length old ≡ length buffers
  many = sym (length-map old (standing items)) ∙ ap length are

  pub whole_left_long : length new ≡ length old
  whole_left_long = ap length value ∙ length-tabulate 0 (length old) _

  pub whole_left : all_standing items new ≡ tabulate 0 (length buffers) (λ c. without (nth_or_nil buffers c)
      (leaving_place (way_of routing (first + c) d) room d (nth_or_nil buffers c)))
  whole_left =
      ap (all_standing items) left_value
      ∙ (left_standing (length old) room d (λ c. way_of routing (first + c) d) items old
      ∙ (λ i. tabulate 0 (many i) (λ c. without (nth_or_nil (are i) c)
      (leaving_place (way_of routing (first + c) d) room d (nth_or_nil (are i) c)))))

  pub whole_left_kept : All (HaveMessages (length items)) old → All (HaveMessages (length items)) new
  whole_left_kept kept =
      subst (All (HaveMessages (length items))) (sym left_value)
      (left_kept room d (length items) (λ c. way_of routing (first + c) d) items old kept (length old))

  pub whole_gone_kept : (gone : List (Option Ticket)) → gone ≡ tabulate 0 (length old)
      (λ c. ticket_leaving row (way_of routing (first + c) d) room d (nth_or_nil old c)) → All (HaveMessages (length items)) old
      → All (HasMessage (length row)) gone
  whole_gone_kept gone leaving kept =
      subst (All (HasMessage (length row))) (sym leaving)
      (gone_kept room d (length row) (λ c. way_of routing (first + c) d) row old (rw same kept) (length old))

  pub whole_gone : (gone : List (Option Ticket)) → gone ≡ tabulate 0 (length old)
      (λ c. ticket_leaving row (way_of routing (first + c) d) room d (nth_or_nil old c))
      → map (λ t. option_map (message_of_ticket items) t) gone
      ≡ tabulate 0 (length buffers) (λ c. outgoing (way_of routing (first + c) d) room d (nth_or_nil buffers c))
  whole_gone gone leaving =
      ap (map (λ t. option_map (message_of_ticket items) t)) (leaving ∙ (λ i. tabulate 0 (length old)
      (λ c. ticket_leaving (same i) (way_of routing (first + c) d) room d (nth_or_nil old c))))
      ∙ (gone_standing (length old) room d (λ c. way_of routing (first + c) d) items old
      ∙ (λ i. tabulate 0 (many i) (λ c. outgoing (way_of routing (first + c) d) room d (nth_or_nil (are i) c))))

  few_old : All (λ ms. length ms ≤ room) buffers → All (λ ts. length ts ≤ room) old
  few_old within = (as_many (λ n. n ≤ room) items old).1 (rw are within)

  pub whole_left_within : All (λ ms. length ms ≤ room) buffers → 0 < room
      → All (λ ms. length ms ≤ room) (all_standing items new)
  whole_left_within within some =
      (as_many (λ n. n ≤ room) items new).0 (subst (All (λ ts. length ts ≤ room)) (sym value)
      (All-tabulate (λ (ts : List Ticket). length ts ≤ room) 0 (length old)
      (λ c. tickets_staying row (way_of routing (first + c) d) room d (nth_or_nil old c))
      (λ c. stays_within row room d (way_of routing (first + c) d) (nth_or_nil old c)
      (all_at (λ ts. length ts ≤ room) (omega arith) old c (few_old within)) some)))

  pub whole_left_space : All (λ ms. length ms ≤ room) buffers → 0 < room → (c : ℕ) → c < length buffers
      → is_cut routing (first + c) d ≡ false → length (nth_or_nil (all_standing items new) c) < room
  whole_left_space within some c l joined =
      let here : nth_or_nil new c ≡ tickets_staying row (way_of routing (first + c) d) room d (nth_or_nil old c) =
      ap (λ (xs : List (List Ticket)). nth_or_nil xs c) value
      ∙ get_or-each_below (length old) (λ b. tickets_staying row (way_of routing (first + b) d) room d (nth_or_nil old b)) c []
      (omega (arith, many, l)) in
      rw (standing_at items new c, length-map (nth_or_nil new c) (message_of_ticket items), here)
      (room_is_made row room d (way_of routing (first + c) d) (nth_or_nil old c) joined
      (all_at (λ ts. length ts ≤ room) (omega arith) old c (few_old within)) some)
