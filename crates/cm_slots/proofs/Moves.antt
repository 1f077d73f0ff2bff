-- Tickets that cross several dimensions at once: in a queue, in slots, in all tiles, and as contracts see them.
use Rattle.std.proofs.Common.{◌≡◌, ◌≢◌, ℕ, zero, suc, ◌-◌, ◌*◌, ◌/◌, ◌%◌, ◌^◌, ◌<◌, ◌≤◌, ◌↔◌}
use Rattle.std.proofs.Common.{true, false, List, [], ◌∷◌, length, map, Option, Some, None, refl, sym, ◌∙◌, ap}
use Rattle.std.proofs.Common.{⊎_elim, arith, slice_index}
use Rattle.std.specs.Prelude.{bit_xor}
use Rattle.std.specs.Int.Bits.{xor_zero_r, xor_assoc}
use Rattle.std.specs.List.{All, list_any, slice_get}
use Rattle.std.proofs.Math.Path.{fun_ext}
use Rattle.std.proofs.lemmas.Bool.{cases_eq, cases_lt, cases_Bool, ne_eqb}
use Rattle.std.proofs.lemmas.List.Elements.{All-from_get_or}
use Rattle.std.proofs.lemmas.List.{length-map, map-id, get_or_past}
use Rattle.std.proofs.lemmas.Simd.{map-map}
use Rattle.std.proofs.lemmas.Nat.{xor_shr, xor_mod, xor_lt, xor_comm, shl-shr}
use Rattle.cm_model.specs.Each.{tabulate}
use Rattle.cm_model.specs.Array.{each_chip, nth_or_nil}
use Rattle.cm_model.proofs.Each.{same_each_below, is_each, length-tabulate, get_or-each_below}
use Rattle.cm_model.proofs.Flips.{across_below, xor_twice}
use Rattle.cm_slots.specs.declared.ticket.Ticket.{Ticket}
use Rattle.cm_slots.specs.declared.order.Order.{Order}
use Rattle.cm_slots.specs.declared.order.Order.TheVariants.{Arrival, Number}
use Rattle.cm_slots.specs.Queues.{place_of_leaver}
use Rattle.cm_slots.specs.Tickets.{has_to_go, has_come, ticket_of}
use Rattle.cm_slots.specs.Choice.{place_by, exchanged_by}
use Rattle.cm_slots.specs.declared.tile.Tile.{Tile}
use Rattle.cm_slots.specs.Slots.{is_taken, is_arrival, leaver_at, comers, AreSlots}
use Rattle.cm_slots.specs.Tiles.{slots_of, numbers_standing_at, IsTile}
use Rattle.cm_slots.specs.Runs.{no_tile, tile_at, leavers_at, numbers_at, tickets_of, queues_in, AreTiles, AreWithin}
use Rattle.cm_slots.specs.Moves.{ticket_over, queues_over, AreMovable, slot_over, AreFirst, HasMoved}
use Rattle.cm_slots.proofs.Standing.{standing_is, stands}
use Rattle.cm_slots.proofs.Changing.{taken_in, nobody_past}
use Rattle.cm_slots.proofs.Arriving.{same_test}
use Rattle.cm_slots.proofs.Views.{as_many, ticket_list, none_made}

-- ---- of lists of queues

over_none : (ts : List Ticket) → map (ticket_over 0) ts ≡ ts
over_none ts =
    ap (λ (f : Ticket → Ticket). map f ts)
    (fun_ext (λ t. ap (λ (r : ℕ). record t { rel = r }) (xor_zero_r t.rel)))
    ∙ map-id ts

over_both : (x y : ℕ) (ts : List Ticket) → map (ticket_over y) (map (ticket_over x) ts) ≡ map (ticket_over (bit_xor x y)) ts
over_both x y ts =
    map-map (ticket_over y) (ticket_over x) ts
    ∙ ap (λ (f : Ticket → Ticket). map f ts)
    (fun_ext (λ t. ap (λ (r : ℕ). record t { rel = r }) (xor_assoc t.rel x y)))

pub length-over : (dims : ℕ) (q : List (List Ticket)) → length (queues_over dims q) ≡ length q
length-over dims q =
    length-tabulate 0 (length q) (λ c. map (ticket_over dims) (nth_or_nil q (bit_xor c dims)))

pub nth_or_nil-over : (dims c : ℕ) (q : List (List Ticket)) → c < length q
    → nth_or_nil (queues_over dims q) c ≡ map (ticket_over dims) (nth_or_nil q (bit_xor c dims))
nth_or_nil-over dims c q h =
    get_or-each_below (length q) (λ k. map (ticket_over dims) (nth_or_nil q (bit_xor k dims))) c [] h

pub queues_over-none : (q : List (List Ticket)) → queues_over 0 q ≡ q
queues_over-none q = sym (is_each [] (length q) (λ c. map (ticket_over 0) (nth_or_nil q (bit_xor c 0))) q refl
    (λ c h. sym (over_none (nth_or_nil q (bit_xor c 0)) ∙ ap (nth_or_nil q) (xor_zero_r c))))

-- over some dimensions, and then over others
pub queues_over-both : (x y : ℕ) (q : List (List Ticket)) → ((c : ℕ) → c < length q → bit_xor c y < length q)
    → queues_over (bit_xor x y) q ≡ queues_over y (queues_over x q)
queues_over-both x y q inside =
    same_each_below [] (length q) (λ c. map (ticket_over (bit_xor x y)) (nth_or_nil q (bit_xor c (bit_xor x y))))
    (λ c. map (ticket_over y) (nth_or_nil (queues_over x q) (bit_xor c y)))
    (λ c h. sym (ap (map (ticket_over y)) (nth_or_nil-over x (bit_xor c y) q (inside c h))
    ∙ over_both x y (nth_or_nil q (bit_xor (bit_xor c y) x))
    ∙ ap (λ (k : ℕ). map (ticket_over (bit_xor x y)) (nth_or_nil q k)) (xor_assoc c y x ∙ ap (bit_xor c) (xor_comm y x))))
    ∙ ap (λ (n : ℕ). tabulate 0 n (λ c. map (ticket_over y) (nth_or_nil (queues_over x q) (bit_xor c y))))
    (sym (length-over x q))

-- as many stand at each chip as at that where its tickets come from
module _ (dims room : ℕ) (q : List (List Ticket)) (inside : (c : ℕ) → c < length q → bit_xor c dims < length q) where
  pub over_within : All (λ ts. length ts ≤ room) q → All (λ ts. length ts ≤ room) (queues_over dims q)
  over_within few k d h =
      let low : k < length q = omega (arith, length-over dims q) in
      omega (
        arith,
        ap length (get_or-each_below (length q) (λ c. map (ticket_over dims) (nth_or_nil q (bit_xor c dims))) k d low),
        length-map (nth_or_nil q (bit_xor k dims)) (ticket_over dims),
        few (bit_xor k dims) [] (inside k low),
      )

pub within_before : (dims room : ℕ) (q : List (List Ticket)) → ((c : ℕ) → c < length q → bit_xor c dims < length q)
    → All (λ ts. length ts ≤ room) (queues_over dims q) → All (λ ts. length ts ≤ room) q
within_before dims room q inside few = All-from_get_or (λ ts. length ts ≤ room) q [] (λ k h.
    let there : bit_xor k dims < length q = inside k h in
    let same : nth_or_nil q (bit_xor (bit_xor k dims) dims) ≡ nth_or_nil q k = ap (nth_or_nil q) (xor_twice k dims) in
    omega (
      arith,
      ap length (nth_or_nil-over dims (bit_xor k dims) q there),
      length-map (nth_or_nil q (bit_xor (bit_xor k dims) dims)) (ticket_over dims),
      ap length same,
      few (bit_xor k dims) [] (omega (arith, length-over dims q)),
    ))

-- ---- of a queue where there is room for one

-- who stands by himself leaves
one_leaves : (order : Order) (d : ℕ) (t : Ticket) → place_by order 1 d (t ∷ []) ≡ Some 0
unfolding place_of_leaver
one_leaves Arrival d t =
    ⊎_elim (λ (e : has_to_go d t ≡ true). rw e refl) (λ (e : has_to_go d t ≡ false). rw e refl)
    (cases_Bool (has_to_go d t))
one_leaves Number d t =
    ⊎_elim (λ (e : has_to_go d t ≡ true). rw e refl) (λ (e : has_to_go d t ≡ false). rw e refl)
    (cases_Bool (has_to_go d t))

none_leaves : (order : Order) (d : ℕ) → place_by order 1 d [] ≡ None
unfolding place_of_leaver
none_leaves Arrival d = refl
none_leaves Number d = refl

pub one_for_one : (order : Order) (d : ℕ) (here there : List Ticket) → length here ≤ 1 → length there ≤ 1
    → exchanged_by order 1 d here there ≡ map (ticket_over (2 ^ d)) there
one_for_one order d [] [] h l = rw (none_leaves order d) refl
one_for_one order d [] (u ∷ []) h l = rw (none_leaves order d, one_leaves order d u) refl
one_for_one order d (t ∷ []) [] h l = rw (none_leaves order d, one_leaves order d t) refl
one_for_one order d (t ∷ []) (u ∷ []) h l = rw (one_leaves order d t, one_leaves order d u) refl
one_for_one order d (t ∷ s ∷ ts) there h l = absurd (omega (arith, h))
one_for_one order d here (t ∷ s ∷ ts) h l = absurd (omega (arith, l))

-- ---- of one slot

rel-over : (dims x : ℕ) → bit_xor (x / 2 ^ 16) dims ≡ bit_xor x (dims * 2 ^ 16) / 2 ^ 16
rel-over dims x = sym (xor_shr x (dims * 2 ^ 16) 16 ∙ ap (bit_xor (x / 2 ^ 16)) (shl-shr dims 16))

number-over : (dims x : ℕ) → bit_xor x (dims * 2 ^ 16) % 2 ^ 16 ≡ x % 2 ^ 16
number-over dims x =
    let none : dims * 2 ^ 16 % 2 ^ 16 ≡ 0 = omega arith in
    xor_mod x (dims * 2 ^ 16) 16 ∙ ap (bit_xor (x % 2 ^ 16)) none ∙ xor_zero_r (x % 2 ^ 16)

ticket_over_is : (dims x : ℕ) → ticket_over dims (ticket_of x) ≡ ticket_of (bit_xor x (dims * 65536))
ticket_over_is dims x =
    rw (number-over dims x) (ap (λ (r : ℕ). record { rel = r; number = x % 65536 - 1 }) (rel-over dims x))

over_taken : (dims x : ℕ) → is_taken x ≡ true → is_taken (bit_xor x (dims * 65536)) ≡ true
over_taken dims x taken = rw (number-over dims x) taken

slot_over_taken : (dims x : ℕ) → (x ≢ 0 → is_taken x ≡ true) → slot_over dims x ≢ 0 → is_taken (slot_over dims x) ≡ true
slot_over_taken dims x taken = ⊎_elim (λ (e : x ≡ 0). rw e (λ some. absurd (some refl)))
    (λ (e : x ≢ 0). rw (ne_eqb x 0 e) (λ some. over_taken dims x (taken e))) (cases_eq x 0)

map-comers-over : (dims x : ℕ) → (x ≢ 0 → is_taken x ≡ true)
    → map ticket_of (comers (slot_over dims x)) ≡ map (ticket_over dims) (map ticket_of (comers x))
map-comers-over dims x taken = ⊎_elim (λ (e : x ≡ 0). rw e refl)
    (λ (e : x ≢ 0).
    let lit : bit_xor x (dims * 65536) ≢ 0 = grind (arith, over_taken dims x (taken e)) in
    rw (ne_eqb x 0 e, ne_eqb (bit_xor x (dims * 65536)) 0 lit)
    (ap (λ (t : Ticket). t ∷ []) (sym (ticket_over_is dims x)))) (cases_eq x 0)

-- ---- of the slots of a chip where one at most stands

alone : (slots : ℕ → ℕ) (x : ℕ) → slots 0 ≡ x → ((j : ℕ) → slots (suc j) ≡ 0) → (x ≢ 0 → is_taken x ≡ true)
    → AreSlots slots (comers x)
alone slots x first behind taken = ⊎_elim
    (λ (e : x ≡ 0). rw e (record { fits = omega arith; each = blank (first ∙ e); taken = λ j h. absurd (omega arith) }))
    (λ (e : x ≢ 0). rw (ne_eqb x 0 e) (record { fits = omega arith; each = one; taken = here e }))
    (cases_eq x 0)
  where
    blank : slots 0 ≡ 0 → (j : ℕ) → slots j ≡ 0
    blank none zero = none
    blank none (suc j) = behind j

    one : (j : ℕ) → slots j ≡ slice_index (x ∷ []) j
    one zero = first
    one (suc j) = behind j

    here : x ≢ 0 → (j : ℕ) → j < 1 → is_taken (slice_index (x ∷ []) j) ≡ true
    here some zero h = taken some
    here some (suc j) h = absurd (omega (arith, h))

alone_is : (slots : ℕ → ℕ) (xs : List ℕ) → AreSlots slots xs → length xs ≤ 1 → xs ≡ comers (slots 0)
alone_is slots [] are few = rw (are.each 0) refl
alone_is slots (x ∷ []) are few =
    let some : x ≢ 0 = grind (arith, are.taken 0) in rw (are.each 0, ne_eqb x 0 some) refl
alone_is slots (x ∷ y ∷ xs) are few = absurd (omega (arith, few))

behind_blank : (slots : ℕ → ℕ) (xs : List ℕ) → AreSlots slots xs → length xs ≤ 1 → (j : ℕ) → slots (suc j) ≡ 0
behind_blank slots xs are few j = are.each (suc j) ∙ get_or_past xs (suc j) 0 (omega (arith, few))

-- ---- of a tile

pub has_moved : (dims : ℕ) (first : Option (List ℕ)) (old new : Tile) → IsTile old
    → ((i : ℕ) → i < 64 → length (numbers_standing_at old i) ≤ 1)
    → ((i : ℕ) → i < 64 → leaver_at first i ≢ 0 → is_taken (leaver_at first i) ≡ true) → new.rest ≡ old.rest
    → length new.first ≡ 64 → (new.awake ≡ false → first ≡ None)
    → ((i : ℕ) → i < 64 → slice_index new.first i ≡ slot_over dims (leaver_at first (bit_xor i (dims % 64))))
    → HasMoved dims first new
has_moved dims first old new whole few taken same long asleep each =
    let comes : ℕ → ℕ = λ i. slot_over dims (leaver_at first (bit_xor i (dims % 64))) in
    let are : (i : ℕ) → i < 64 → AreSlots (slots_of new i) (comers (comes i)) = λ i h.
    alone (slots_of new i) (comes i) (each i h)
    (λ j. rw same (behind_blank (slots_of old i) (numbers_standing_at old i) (whole.queues i h) (few i h) j))
    (slot_over_taken dims (leaver_at first (bit_xor i (dims % 64)))
    (taken (bit_xor i (dims % 64)) (xor_lt 6 i (dims % 64) h (omega arith)))) in
    record {
      whole = record {
        shape = record { long = long; tall = rw same whole.shape.tall; wide = rw same whole.shape.wide };
        queues = λ i h. stands new i (comers (comes i)) (are i h);
        quiet = λ sleeps i h. rw (asleep sleeps) at (are i h);
      };
      each = λ i h. standing_is new i (comers (comes i)) (are i h);
    }

-- whether the message of who comes has arrived
told_of_comers : (x : ℕ) → (x ≢ 0 → is_taken x ≡ true) → is_arrival x ≡ false
    → list_any has_come (map ticket_of (comers x)) ≡ false
told_of_comers x taken none = ⊎_elim (λ (e : x ≡ 0). rw e refl)
    (λ (e : x ≢ 0). let told : has_come (ticket_of x) ≡ false = same_test x (taken e) ∙ none in
    rw (ne_eqb x 0 e, told) refl) (cases_eq x 0)

-- ---- of all tiles

pub told_over : (dims : ℕ) (tiles : List Tile) (c : ℕ) → c / 64 < length tiles → All IsTile tiles → AreWithin 1 tiles
    → is_arrival (slot_over dims (slots_of (tile_at tiles (c / 64)) (c % 64) 0)) ≡ false
    → list_any has_come (map (ticket_over dims) (tickets_of tiles c)) ≡ false
told_over dims tiles c h whole few none =
    let slots : ℕ → ℕ = slots_of (tile_at tiles (c / 64)) (c % 64) in
    let stand = (whole (c / 64) no_tile h).queues (c % 64) (omega arith) in
    let taken = taken_in slots (numbers_at tiles c) stand 0 in
    let alone : numbers_at tiles c ≡ comers (slots 0) =
    alone_is slots (numbers_at tiles c) stand (few (c / 64) (c % 64) h (omega arith)) in
    rw (alone, ← map-comers-over dims (slots 0) taken)
    (told_of_comers (slot_over dims (slots 0)) (slot_over_taken dims (slots 0) taken) none)

module _ (tiles : List Tile) (firsts : List (Option (List ℕ))) (whole : All IsTile tiles)
    (are : (t : ℕ) → t < length tiles → AreFirst (tile_at tiles t) (leavers_at firsts t)) where
  pub first_taken : (t : ℕ) → t < length tiles → (i : ℕ) → i < 64 → leaver_at (leavers_at firsts t) i ≢ 0
      → is_taken (leaver_at (leavers_at firsts t) i) ≡ true
  first_taken t h i l = rw ((are t h).each i l)
      (taken_in (slots_of (tile_at tiles t) i) (numbers_standing_at (tile_at tiles t) i) ((whole t no_tile h).queues i l) 0)

  -- who stood at the chip across stands at a chip
  pub chip_moved : (dims : ℕ) (new : List Tile) (c : ℕ) → AreWithin 1 tiles → bit_xor c dims / 64 < length tiles
      → HasMoved dims (leavers_at firsts (bit_xor (c / 64) (dims / 64))) (tile_at new (c / 64))
      → tickets_of new c ≡ map (ticket_over dims) (tickets_of tiles (bit_xor c dims))
  chip_moved dims new c few there moved =
      let other : ℕ = bit_xor c dims in
      let tile : other / 64 ≡ bit_xor (c / 64) (dims / 64) = xor_shr c dims 6 in
      let place : other % 64 ≡ bit_xor (c % 64) (dims % 64) = xor_mod c dims 6 in
      let slots : ℕ → ℕ = slots_of (tile_at tiles (other / 64)) (other % 64) in
      let stand = (whole (other / 64) no_tile there).queues (other % 64) (omega arith) in
      let first : leaver_at (leavers_at firsts (other / 64)) (other % 64) ≡ slots 0 =
      (are (other / 64) there).each (other % 64) (omega arith) in
      let comes : numbers_standing_at (tile_at new (c / 64)) (c % 64) ≡ comers (slot_over dims (slots 0)) =
      moved.each (c % 64) (omega arith) ∙ rw (← tile, ← place, first) refl in
      rw comes (map-comers-over dims (slots 0) (taken_in slots (numbers_at tiles other) stand 0))
      ∙ ap (λ (xs : List ℕ). map (ticket_over dims) (map ticket_of xs))
      (sym (alone_is slots (numbers_at tiles other) stand (few (other / 64) (other % 64) there (omega arith))))

-- ---- as contracts see it

module _ {chips dims : ℕ} {tiles : List Tile} {leaving : List (Option (List ℕ))} {q : List (List Ticket)}
    (are : AreTiles chips tiles leaving) (view : queues_in chips tiles ≡ q)
    (inside : (c : ℕ) → c < length q → bit_xor c dims < length q) where
  pub tile_inside : (t : ℕ) → t < length tiles → bit_xor t (dims / 64) < length tiles
  tile_inside t h =
      let count = are.count (omega (arith, h)) in
      let first : t * 64 < length q = omega (arith, count, as_many are view) in
      omega (
        arith,
        count,
        as_many are view,
        inside (t * 64) first,
        xor_shr (t * 64) dims 6,
        ap (λ (n : ℕ). bit_xor n (dims / 64)) (shl-shr t 6),
      )

  module _ (new : List Tile) (each : (c : ℕ) → c / 64 < length tiles
      → tickets_of new c ≡ map (ticket_over dims) (tickets_of tiles (bit_xor c dims))) where
    -- also where there are no tiles
    each_moved : length new ≡ length tiles → (c : ℕ) → c < chips
        → tickets_of new c ≡ map (ticket_over dims) (tickets_of tiles (bit_xor c dims))
    each_moved long c h = ⊎_elim (λ (l : c / 64 < length tiles). each c l)
        (λ (l : length tiles ≤ c / 64).
        let none : length tiles ≡ 0 = none_made are view c h l in
        nobody_past new c (omega (arith, long, l))
        ∙ ap (map (ticket_over dims)) (sym (nobody_past tiles (bit_xor c dims) (omega (arith, none)))))
        (cases_lt (c / 64) (length tiles))

    pub moved_queues : length new ≡ length tiles → queues_in chips new ≡ queues_over dims q
    moved_queues long =
        same_each_below [] chips (tickets_of new) (λ c. map (ticket_over dims) (nth_or_nil q (bit_xor c dims)))
        (λ c h. each_moved long c h
        ∙ ap (map (ticket_over dims))
        (ticket_list are view (bit_xor c dims) (omega (arith, as_many are view, inside c (omega (arith, as_many are view))))))
        ∙ ap (λ (n : ℕ). tabulate 0 n (λ c. map (ticket_over dims) (nth_or_nil q (bit_xor c dims)))) (sym (as_many are view))

    -- behind the last chip, where nobody stood, nobody comes
    pub moved_past : (c : ℕ) → chips ≤ c → c / 64 < length tiles → tickets_of new c ≡ []
    moved_past c past h =
        let other : ℕ = bit_xor c dims in
        let there : other / 64 < length tiles = omega (arith, xor_shr c dims 6, tile_inside (c / 64) h) in
        let past_too : chips ≤ other = ⊎_elim
        (λ (l : other < chips). absurd (omega (
          arith,
          as_many are view,
          inside other (omega (arith, as_many are view)),
          xor_twice c dims,
        )))
        (λ (l : chips ≤ other). l) (cases_lt other chips) in
        each c h ∙ rw (are.past other past_too there) refl

-- what stands at a chip, of which is known where its tickets stand
module _ (dims : ℕ) (tiles : List (List Ticket)) {q : List (List Ticket)} (view : queues_over dims tiles ≡ q) where
  pub as_long : length tiles ≡ length q
  as_long = sym (length-over dims tiles) ∙ ap length view

  module _ (c : ℕ) (h : c < length q) where
    pub queue_at : map (ticket_over dims) (nth_or_nil tiles (bit_xor c dims)) ≡ nth_or_nil q c
    queue_at = sym (nth_or_nil-over dims c tiles (omega (arith, as_long)))
        ∙ ap (λ (r : List (List Ticket)). nth_or_nil r c) view

  pub within_is : (room : ℕ) → ((c : ℕ) → c < length tiles → bit_xor c dims < length tiles)
      → All (λ ts. length ts ≤ room) tiles ↔ All (λ ts. length ts ≤ room) q
  within_is room inside = (
    λ few. rw view at (over_within dims room tiles inside few),
    λ few. within_before dims room tiles inside (rw view few),
  )

  -- one more dimension of a cube
  module _ {span d : ℕ} (movable : AreMovable dims tiles) (count : length q ≡ 2 ^ span) (below : d < span) where
    inside_too : (c : ℕ) → c < length tiles → bit_xor c (2 ^ d) < length tiles
    inside_too c h =
        let low : c < 2 ^ span = omega (arith, as_long, count) in
        omega (arith, as_long, count, across_below span d c below low)

    pub one_more_noted : queues_over (bit_xor dims (2 ^ d)) tiles ≡ queues_over (2 ^ d) q
    one_more_noted = queues_over-both dims (2 ^ d) tiles inside_too ∙ ap (queues_over (2 ^ d)) view

    pub movable_too : All (λ ts. length ts ≤ 1) q → AreMovable (bit_xor dims (2 ^ d)) tiles
    movable_too few = record {
      inside = λ c h. rw (← xor_assoc c dims (2 ^ d)) (inside_too (bit_xor c dims) (movable.inside c h));
      few = λ some. (within_is 1 movable.inside).1 few;
    }

-- a dimension of a cube with room for one at each chip
module _ {span d : ℕ} (q : List (List Ticket)) (count : length q ≡ 2 ^ span) (below : d < span)
    (few : All (λ ts. length ts ≤ 1) q) where
  across_there : (c : ℕ) → c < length q → bit_xor c (2 ^ d) < length q
  across_there c h =
      let low : c < 2 ^ span = omega (arith, count) in
      omega (arith, count, across_below span d c below low)

  pub crossed_one : (order : Order) → queues_over (2 ^ d) q
      ≡ each_chip span (λ c. exchanged_by order 1 d (nth_or_nil q c) (nth_or_nil q (bit_xor c (2 ^ d))))
  crossed_one order =
      same_each_below [] (length q) (λ c. map (ticket_over (2 ^ d)) (nth_or_nil q (bit_xor c (2 ^ d))))
      (λ c. exchanged_by order 1 d (nth_or_nil q c) (nth_or_nil q (bit_xor c (2 ^ d))))
      (λ c h. sym (one_for_one order d (nth_or_nil q c) (nth_or_nil q (bit_xor c (2 ^ d))) (few c [] h)
      (few (bit_xor c (2 ^ d)) [] (across_there c h))))
      ∙ ap (λ (n : ℕ). tabulate 0 n (λ c. exchanged_by order 1 d (nth_or_nil q c) (nth_or_nil q (bit_xor c (2 ^ d))))) count

  pub one_within : All (λ ts. length ts ≤ 1) (queues_over (2 ^ d) q)
  one_within = over_within (2 ^ d) 1 q across_there few

-- whether a message of the tickets of a chip has arrived, where one at most stands there
pub told_by_one : (t : Ticket) (ts : List Ticket) → length ts ≤ 1 → Some t ≡ slice_get ts 0
    → list_any has_come ts ≡ has_come t
told_by_one t [] few is = absurd (cc is)
told_by_one t (u ∷ []) few is =
    let same : t ≡ u = cc is in
    rw same (⊎_elim (λ (e : has_come u ≡ true). rw e refl) (λ (e : has_come u ≡ false). rw e refl)
    (cases_Bool (has_come u)))
told_by_one t (u ∷ s ∷ ts) few is = absurd (omega (arith, few))

pub told_by_nobody : (ts : List Ticket) → None ≡ slice_get ts 0 → list_any has_come ts ≡ false
told_by_nobody [] is = refl
told_by_nobody (u ∷ ts) is = absurd (cc is)
