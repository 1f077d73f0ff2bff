-- What stands in slots is one list, and who leaves them is who leaves that list.
use Rattle.std.proofs.Common.{◌≡◌, ◌≢◌, ℕ, zero, suc, ◌+◌, ◌-◌, ◌<◌, ◌≤◌, ◌==◌, ◌↔◌, Bool, true, false, map, min}
use Rattle.std.proofs.Common.{List, [], ◌++◌, length, get_or, replicate, Some, None, refl, sym, ◌∙◌, ap}
use Rattle.std.proofs.Common.{⊎_elim, arith, Option, slice_index}
use Rattle.std.specs.List.{position_or_len}
use Rattle.std.proofs.lemmas.Bool.{cases_eq, cases_lt, lt-ltb, le-ltb, eq-eqb, ne_eqb}
use Rattle.std.proofs.lemmas.List.{get_or_past, get_or-replicate, length-replicate, nil_from_length}
use Rattle.std.proofs.lemmas.List.{length-append, length-take, length-drop}
use Rattle.std.proofs.lemmas.List.Sums.{fails_before_first, passes_at_first}
use Rattle.std.proofs.lemmas.List.Edits.{length-remove, get_or-remove_below, get_or-remove_above}
use Rattle.std.proofs.lemmas.Option.{slice_get-get_or}
use Rattle.cm_model.proofs.Bits.{bit-zero}
use Rattle.cm_model.proofs.Each.{is_each}
use Rattle.cm_model.specs.Buffers.{element_at, without}
use Rattle.cm_slots.specs.declared.order.Order.{Order}
use Rattle.cm_slots.specs.declared.order.Order.TheVariants.{Arrival, Number}
use Rattle.cm_slots.specs.Queues.{place_of_leaver}
use Rattle.cm_slots.specs.Tickets.{ticket_of}
use Rattle.cm_slots.specs.Choice.{place_by, IsFound}
use Rattle.cm_slots.specs.Slots.{crosses, is_taken, slot_across, comers, first_of, slot_behind, leaver_in, AreSlots}
use Rattle.cm_slots.specs.Slots.{IsCarried}
use Rattle.cm_slots.specs.declared.tile.Tile.{Tile}
use Rattle.cm_slots.specs.Tiles.{slots_of, numbers_standing_at, stayers_by, IsTile, HasTicketLeft}
use Rattle.cm_slots.proofs.Carrying.{first_of-is}
use Rattle.cm_slots.proofs.Choosing.{Goes, NobodyGoes, chosen_is, place_by-nobody}
use Rattle.cm_slots.proofs.Numbers.{going_is, going_taken, same_place}

pub get_or-zeros : (n i : ℕ) → get_or (replicate {A = ℕ} n 0) i 0 ≡ 0
get_or-zeros n i = grind (arith, get_or-replicate, get_or_past, length-replicate)

-- ---- one list

ends_first : (slots : ℕ → ℕ) (xs : List ℕ) → AreSlots slots xs → first_of (λ j. slots j == 0) 15 ≡ length xs
ends_first slots xs are =
    first_of-is (λ j. slots j == 0) 15 (length xs) are.fits (grind (arith, are.taken)) (grind (arith, get_or_past))

pub standing_is : (tile : Tile) (i : ℕ) (xs : List ℕ) → AreSlots (slots_of tile i) xs → numbers_standing_at tile i ≡ xs
unfolding numbers_standing_at
standing_is tile i xs are =
    let slots : ℕ → ℕ = slots_of tile i in
    let long : first_of (λ j. slots j == 0) 15 ≡ length xs = ends_first slots xs are in
    rw long (sym (is_each 0 (length xs) slots xs refl (λ j h. sym (are.each j))))

pub stands : (tile : Tile) (i : ℕ) (xs : List ℕ) → AreSlots (slots_of tile i) xs
    → AreSlots (slots_of tile i) (numbers_standing_at tile i)
stands tile i xs are = rw (standing_is tile i xs are) are

-- a slot is 0 where no more stand in front of it
pub ends_at : (at : ℕ) (slots : ℕ → ℕ) (xs : List ℕ) → AreSlots slots xs → slots at ≡ 0 ↔ length xs ≤ at
ends_at at slots xs are = (grind (arith, are.taken at), grind (arith, get_or_past))

pub nobody : (slots : ℕ → ℕ) (xs : List ℕ) → AreSlots slots xs → slots 0 ≡ 0 → xs ≡ []
nobody slots xs are blank = nil_from_length xs (omega (arith, (ends_at 0 slots xs are).0 blank))

-- where a row is 0 in each lane, no more than those before it stand anywhere
pub row_ends : (at : ℕ) (tile : Tile) → IsTile tile
    → ((i : ℕ) → i < 64 → slots_of tile i at ≡ 0) ↔ ((i : ℕ) → i < 64 → length (numbers_standing_at tile i) ≤ at)
row_ends at tile whole = (
  λ blank i h. (ends_at at (slots_of tile i) (numbers_standing_at tile i) (whole.queues i h)).0 (blank i h),
  λ few i h. (ends_at at (slots_of tile i) (numbers_standing_at tile i) (whole.queues i h)).1 (few i h),
)

-- nobody comes where nobody stands
pub nobody_comes : (slots : ℕ → ℕ) (xs : List ℕ) (comes : ℕ) → AreSlots (λ j. slots (suc j)) xs → slots 0 ≡ 0
    → slots 1 ≡ 0 → comes ≡ 0 → AreSlots slots (xs ++ comers comes)
nobody_comes slots xs comes are first second none =
    let empty : xs ≡ [] = nobody (λ j. slots (suc j)) xs are second in
    rw (empty, none)
    (record { fits = omega arith; each = blank (rw empty at are); taken = λ j h. absurd (omega arith) })
  where
    blank : AreSlots (λ j. slots (suc j)) [] → (j : ℕ) → slots j ≡ 0
    blank behind zero = first
    blank behind (suc j) = behind.each j

-- ---- who leaves

-- who stands at a place is carried, which is among those who stand there or behind all slots that are looked at
module _ (order : Order) (d room at : ℕ) (slots : ℕ → ℕ) (xs : List ℕ) (are : AreSlots slots xs)
    (fits : length xs ≤ room) (here leaver : ℕ) (left : ℕ → ℕ) (carried : IsCarried at slots here left)
    (is : leaver ≡ slot_across d here) where
  taken : here ≢ 0 → is_taken here ≡ true
  taken = grind (arith, get_or_past, are.taken at)

  pub somebody_goes : at < length xs → place_by order room d (map ticket_of xs) ≡ Some at
      → HasTicketLeft order room d xs leaver left
  somebody_goes there who =
      let some : here ≢ 0 = grind (arith, are.taken at) in
      let found : element_at xs (Some at) ≡ Some here =
      slice_get-get_or xs at 0 there ∙ ap Some (sym (carried.here ∙ are.each at)) in
      record {
        going = rw (is, who) (going_is d xs (Some at) here taken (rw (found, ne_eqb here 0 some) refl));
        taken = rw is (going_taken d here taken);
        few = rw who (grind (arith, length-remove));
        stay = rw who (grind (arith, length-remove, get_or-remove_below, get_or-remove_above));
      }

  pub all_stay : length xs ≤ at → length xs < room → place_by order room d (map ticket_of xs) ≡ None
      → HasTicketLeft order room d xs leaver left
  all_stay past few who =
      let none : here ≡ 0 = grind (arith, get_or_past) in
      record {
        going = rw (is, who) (going_is d xs None here taken (rw none refl));
        taken = rw is (going_taken d here taken);
        few = rw who few;
        stay = rw who (grind (arith, get_or_past));
      }

length-without : (xs : List ℕ) (who : Option ℕ) → length (without xs who) ≤ length xs
length-without xs None = omega arith
length-without xs (Some i) = grind (arith, length-append, length-take, length-drop)

-- slots of which so many are looked at: all for which there is room, or more than are taken
module _ (d room reach : ℕ) (slots : ℕ → ℕ) (xs : List ℕ) (are : AreSlots slots xs) (some : 0 < reach)
    (less : reach ≤ room) (most : room ≤ 15) (fits : length xs ≤ reach) (full : length xs ≡ reach → reach ≡ room) where
  -- in the order of arrival: the first that has to cross goes, or the last of a full chip. It is written down as it
  -- arrives across, and the others close up. `Tile::let_leave` cites this.
  pub has_gone : (here leaver : ℕ) (left : ℕ → ℕ) → IsCarried (leaver_in d (reach - 1) slots) slots here left
      → leaver ≡ slot_across d here → HasTicketLeft Arrival room d xs leaver left
  unfolding place_of_leaver
  has_gone here leaver left carried is =
      let test : ℕ → Bool = λ j. crosses d (slots j) in
      let q : ℕ = position_or_len (crosses d) xs in
      let fails : (j : ℕ) → j < q → test j ≡ false = λ j h. rw (are.each j) (fails_before_first (crosses d) xs j 0 h) in
      let goes = somebody_goes Arrival d room (leaver_in d (reach - 1) slots) slots xs are (omega (arith, fits, less))
      here leaver left carried is in
      let stay = all_stay Arrival d room (leaver_in d (reach - 1) slots) slots xs are (omega (arith, fits, less))
      here leaver left carried is in
      ⊎_elim
      (λ (l : q < length xs).
      let at : leaver_in d (reach - 1) slots ≡ q = first_of-is test (reach - 1) q (omega arith) fails
      (λ h. rw (are.each q) (passes_at_first (crosses d) xs 0 l)) in
      goes (omega (arith, at)) (same_place d room xs ∙ rw (lt-ltb q (length xs) l) (ap Some (sym at))))
      (λ (l : length xs ≤ q).
      let at : leaver_in d (reach - 1) slots ≡ reach - 1 = first_of-is test (reach - 1) (reach - 1) (omega arith)
      (λ j h. ⊎_elim (λ (m : j < length xs). fails j (omega arith))
      (λ (m : length xs ≤ j). rw (are.each j, get_or_past xs j 0 m) (bit-zero (16 + d))) (cases_lt j (length xs)))
      (λ h. absurd (omega arith)) in
      ⊎_elim
      (λ (e : length xs ≡ room). goes (omega (arith, at))
      (same_place d room xs ∙ rw (le-ltb q (length xs) l, eq-eqb (length xs) room e) (ap Some (omega (arith, at)))))
      (λ (e : length xs ≢ room). stay (grind arith) (omega (arith, e))
      (same_place d room xs ∙ rw (le-ltb q (length xs) l, ne_eqb (length xs) room e) refl))
      (cases_eq (length xs) room))
      (cases_lt q (length xs))

  -- fewer stay than are looked at
  pub few_stay : (order : Order) → length (stayers_by order room d xs) < room
      → length (stayers_by order room d xs) ≤ reach - 1
  few_stay order few =
      let fewer = length-without xs (place_by order room d (map ticket_of xs)) in
      ⊎_elim (λ (e : length xs ≡ reach). omega (arith, few, full e)) (λ (e : length xs ≢ reach). omega (arith, fewer, fits, e))
      (cases_eq (length xs) reach)

  -- by number
  pub has_gone_by_number : (place here leaver : ℕ) (left : ℕ → ℕ) → IsFound d (reach - 1) slots place
      → IsCarried (min place (reach - 1)) slots here left → leaver ≡ slot_across d here
      → HasTicketLeft Number room d xs leaver left
  has_gone_by_number place here leaver left found carried is =
      ⊎_elim
      (λ (goes : Goes d room (min place (reach - 1)) xs).
      somebody_goes Number d room (min place (reach - 1)) slots xs are (omega (arith, fits, less)) here leaver left carried is
      goes.0 goes.1)
      (λ (none : NobodyGoes d room (min place (reach - 1)) xs).
      all_stay Number d room (min place (reach - 1)) slots xs are (omega (arith, fits, less)) here leaver left carried is
      none.0 none.1.0 none.1.1)
      (chosen_is d room reach slots xs are some less most fits full place found)

-- nobody leaves where nobody stands
pub nobody_goes : (order : Order) (d room : ℕ) (tile : Tile) (i : ℕ) → AreSlots (slots_of tile i) [] → 0 < room
    → HasTicketLeft order room d (numbers_standing_at tile i) (slot_across d (slice_index tile.first i))
    (slot_behind tile.rest i)
nobody_goes order d room tile i are some =
    rw (standing_is tile i [] are)
    (all_stay order d room 0 (slots_of tile i) [] are (omega arith) (slice_index tile.first i)
    (slot_across d (slice_index tile.first i)) (slot_behind tile.rest i)
    (record { here = refl; earlier = λ j h. absurd (omega (arith, h)); later = λ j h. refl }) refl
    (omega arith) some (place_by-nobody order d room some))

pub nobody_stays : (order : Order) (d room : ℕ) (tile : Tile) (i : ℕ) → AreSlots (slots_of tile i) []
    → length (stayers_by order room d (numbers_standing_at tile i)) ≤ 0
nobody_stays order d room tile i are = rw (standing_is tile i [] are) (length-without [] (place_by order room d []))
