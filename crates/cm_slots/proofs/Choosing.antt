-- Who leaves by number: the least key of a chip's slots, and whom it tells in a queue of tickets.
use Rattle.std.proofs.Common.{◌≡◌, ◌≢◌, ℕ, zero, suc, ◌+◌, ◌-◌, ◌*◌, ◌%◌, ◌<◌, ◌≤◌, Bool, true, false, not, ◌&&◌}
use Rattle.std.proofs.Common.{if◌then◌else◌, min, List, [], ◌∷◌, ◌⊎◌, inl, inr, length, get_or, map, Option, Some, None, refl, sym, ap}
use Rattle.std.proofs.Common.{◌∙◌, ⊎_elim, arith}
use Rattle.std.specs.Prelude.{nat_le, nat_lt}
use Rattle.std.proofs.lemmas.Bool.{cases_lt, cases_Bool, cases_eq, cond_both, lt-ltb, le-ltb, eq-eqb, ne_eqb}
use Rattle.std.proofs.lemmas.List.{length-map, get_or-map, get_or_past}
use Rattle.std.proofs.lemmas.Option.{slice_get-get_or}
use Rattle.cm_model.proofs.Bits.{bit-zero}
use Rattle.cm_model.specs.Buffers.{element_at, one_behind}
use Rattle.cm_slots.specs.declared.order.Order.{Order}
use Rattle.cm_slots.specs.declared.order.Order.TheVariants.{Arrival, Number}
use Rattle.cm_slots.specs.declared.ticket.Ticket.{Ticket}
use Rattle.cm_slots.specs.Queues.{place_of_leaver}
use Rattle.cm_slots.specs.Slots.{crosses, AreSlots, IsCarried}
use Rattle.cm_slots.specs.Tickets.{ticket_of, has_to_go}
use Rattle.cm_slots.specs.Choice.{is_lower_one, lowest_place, is_lower_or_none, highest_place, place_by}
use Rattle.cm_slots.specs.Choice.{mark_of, slot_key, place_found, IsLeast, IsFound}
use Rattle.cm_slots.proofs.Numbers.{has_to_go_is}

-- ---- who is carried from a place on

pub none_carried_from : (p : ℕ) (old : ℕ → ℕ) → IsCarried (min p 0) old (old 0) (λ j. old (suc j))
none_carried_from p old = grind arith

pub one_more_carried_from : (p k : ℕ) (old now new : ℕ → ℕ) (here next : ℕ)
    → next ≡ (if nat_le p k then here else now k) → new k ≡ (if nat_le p k then now k else here)
    → ((j : ℕ) → j ≢ k → new j ≡ now j) → IsCarried (min p k) old here now
    → IsCarried (min p (suc k)) old next new
one_more_carried_from p k old now new here next next_is new_is same was = grind arith

-- ---- the least key

slot_key-most : (d place slot : ℕ) → place < 15 → slot_key d place slot ≤ 2097151
slot_key-most d place slot h = grind arith

pub least_first : (d : ℕ) (slots : ℕ → ℕ) (least was : ℕ) → was ≡ 2097151 → least ≡ min (slot_key d 0 (slots 0)) was
    → IsLeast d 0 slots least
least_first d slots least was most is =
    let low : slot_key d 0 (slots 0) ≤ 2097151 = slot_key-most d 0 (slots 0) (omega arith) in
    let same : least ≡ slot_key d 0 (slots 0) = omega (arith, is, low, most) in
    record {
      at = 0;
      there = omega arith;
      is = same;
      all = λ j h. let none : j ≡ 0 = omega arith in rw none (omega (arith, same));
    }

pub least_more : (d k : ℕ) (slots : ℕ → ℕ) (least was : ℕ) → least ≡ min (slot_key d (suc k) (slots (suc k))) was
    → IsLeast d k slots was → IsLeast d (suc k) slots least
least_more d k slots least was is before =
    let next : ℕ = slot_key d (suc k) (slots (suc k)) in
    let all : (j : ℕ) → j ≤ suc k → least ≤ slot_key d j (slots j) = λ j h.
    ⊎_elim (λ (e : j ≡ suc k). rw e (omega (arith, is)))
    (λ (e : j ≢ suc k). omega (arith, is, before.all j (omega (arith, e)))) (cases_eq j (suc k)) in
    ⊎_elim
    (λ (l : next < was). record { at = suc k; there = omega arith; is = omega (arith, is, l); all = all })
    (λ (l : was ≤ next). record {
      at = before.at;
      there = omega (arith, before.there);
      is = omega (arith, is, l, before.is);
      all = all;
    }) (cases_lt next was)

-- ---- the lowest and the highest number of a queue

-- what is read where nobody stands
abbrev pub nobody : Ticket
nobody = record { rel = 0; number = 0 }

-- at a place in a queue
abbrev pub at_place : List Ticket → ℕ → Ticket
at_place ts j = get_or ts j nobody

-- a number, with its place
abbrev pub rank : List Ticket → ℕ → ℕ
rank ts j = (at_place ts j).number * 16 + j

first_is : (x y : Bool) → (x && y) ≡ true → x ≡ true
first_is true y h = refl
first_is false y h = absurd cc

-- nobody, or the place of one that has to cross
abbrev IsOneToCross : ℕ → List Ticket → Option ℕ → Type 0
IsOneToCross d ts None = Unit {0}
IsOneToCross d ts (Some q) = (q < length ts) × (has_to_go d (at_place ts q) ≡ true)

one_to_cross_behind : (d : ℕ) (t : Ticket) (ts : List Ticket) (o : Option ℕ) → IsOneToCross d ts o
    → IsOneToCross d (t ∷ ts) (one_behind o)
one_to_cross_behind d t ts None h = tt
one_to_cross_behind d t ts (Some q) h = (omega (arith, h.0), h.1)

lowest_place-crosses : (d : ℕ) (ts : List Ticket) → IsOneToCross d ts (lowest_place d ts)
lowest_place-crosses d [] = tt
lowest_place-crosses d (t ∷ ts) =
    cond_both (has_to_go d t && not (is_lower_one (element_at ts (lowest_place d ts)) t)) (Some 0)
    (one_behind (lowest_place d ts)) (λ o. IsOneToCross d (t ∷ ts) o)
    (λ e. (omega arith, first_is (has_to_go d t) (not (is_lower_one (element_at ts (lowest_place d ts)) t)) e))
    (λ e. one_to_cross_behind d t ts (lowest_place d ts) (lowest_place-crosses d ts))

none_lower : (d : ℕ) (t : Ticket) (ts : List Ticket) (o : Option ℕ) → length ts < 15 → IsOneToCross d ts o
    → ((j : ℕ) → j < length ts → has_to_go d (at_place ts j) ≡ true → t.number * 16 ≤ rank ts j + 1)
    → is_lower_one (element_at ts o) t ≡ false
none_lower d t ts None few one least = refl
none_lower d t ts (Some q) few one least =
    rw (slice_get-get_or ts q nobody one.0)
    (le-ltb (at_place ts q).number t.number (omega (arith, least q one.0 one.1, few, one.0)))

-- of those that have to cross one whose rank is the least
pub lowest_is : (d p : ℕ) (ts : List Ticket) → length ts ≤ 15 → p < length ts → has_to_go d (at_place ts p) ≡ true
    → ((j : ℕ) → j < length ts → has_to_go d (at_place ts j) ≡ true → rank ts p ≤ rank ts j)
    → lowest_place d ts ≡ Some p
lowest_is d p [] few there goes least = absurd (omega (arith, there))
lowest_is d zero (t ∷ ts) few there goes least =
    let none : is_lower_one (element_at ts (lowest_place d ts)) t ≡ false =
    none_lower d t ts (lowest_place d ts) (omega (arith, few)) (lowest_place-crosses d ts)
    (λ j l g. omega (arith, least (suc j) (omega (arith, l)) g)) in
    rw (goes, none) refl
lowest_is d (suc p) (t ∷ ts) few there goes least =
    let rest : lowest_place d ts ≡ Some p =
    lowest_is d p ts (omega (arith, few)) (omega (arith, there)) goes
    (λ j l g. omega (arith, least (suc j) (omega (arith, l)) g)) in
    let inside : p < length ts = omega (arith, there) in
    rw (rest, slice_get-get_or ts p nobody inside)
    (⊎_elim
    (λ (e : has_to_go d t ≡ true).
    let lower : nat_lt (at_place ts p).number t.number ≡ true =
    lt-ltb (at_place ts p).number t.number (omega (arith, least 0 (omega arith) e)) in
    rw (e, lower) refl)
    (λ (e : has_to_go d t ≡ false). rw e refl)
    (cases_Bool (has_to_go d t)))

pub none_lowest : (d : ℕ) (ts : List Ticket) → ((j : ℕ) → j < length ts → has_to_go d (at_place ts j) ≡ false)
    → lowest_place d ts ≡ None
none_lowest d [] none = refl
none_lowest d (t ∷ ts) none =
    let here : has_to_go d t ≡ false = none 0 (omega arith) in
    rw (none_lowest d ts (λ j l. none (suc j) (omega (arith, l))), here) refl

-- nobody, or a place of the queue
abbrev IsPlaceOf : List Ticket → Option ℕ → Type 0
IsPlaceOf ts None = Unit {0}
IsPlaceOf ts (Some q) = q < length ts

place_behind : (t : Ticket) (ts : List Ticket) (o : Option ℕ) → IsPlaceOf ts o → IsPlaceOf (t ∷ ts) (one_behind o)
place_behind t ts None h = tt
place_behind t ts (Some q) h = omega (arith, h)

highest_place-within : (ts : List Ticket) → IsPlaceOf ts (highest_place ts)
highest_place-within [] = tt
highest_place-within (t ∷ ts) =
    cond_both (is_lower_or_none (element_at ts (highest_place ts)) t) (Some 0) (one_behind (highest_place ts))
    (λ o. IsPlaceOf (t ∷ ts) o) (λ e. omega arith)
    (λ e. place_behind t ts (highest_place ts) (highest_place-within ts))

all_lower : (t : Ticket) (ts : List Ticket) (o : Option ℕ) → IsPlaceOf ts o
    → ((j : ℕ) → j < length ts → rank ts j + 1 ≤ t.number * 16) → is_lower_or_none (element_at ts o) t ≡ true
all_lower t ts None one most = refl
all_lower t ts (Some q) one most =
    rw (slice_get-get_or ts q nobody one)
    (lt-ltb (at_place ts q).number t.number (omega (arith, most q one)))

-- one whose rank is the greatest
pub highest_is : (p : ℕ) (ts : List Ticket) → length ts ≤ 15 → p < length ts
    → ((j : ℕ) → j < length ts → rank ts j ≤ rank ts p) → highest_place ts ≡ Some p
highest_is p [] few there most = absurd (omega (arith, there))
highest_is zero (t ∷ ts) few there most =
    rw (all_lower t ts (highest_place ts) (highest_place-within ts)
    (λ j l. omega (arith, most (suc j) (omega (arith, l))))) refl
highest_is (suc p) (t ∷ ts) few there most =
    let rest : highest_place ts ≡ Some p =
    highest_is p ts (omega (arith, few)) (omega (arith, there)) (λ j l. omega (arith, most (suc j) (omega (arith, l)))) in
    let inside : p < length ts = omega (arith, there) in
    let not_lower : nat_lt (at_place ts p).number t.number ≡ false =
    le-ltb (at_place ts p).number t.number (omega (arith, most 0 (omega arith), few, inside)) in
    rw (rest, slice_get-get_or ts p nobody inside, not_lower) refl

-- ---- whom the least key tells

pub place_by-nobody : (order : Order) (d room : ℕ) → 0 < room → place_by order room d [] ≡ None
unfolding place_of_leaver
place_by-nobody Arrival d room some = rw (ne_eqb 0 room (λ e. absurd (omega (arith, e, some)))) refl
place_by-nobody Number d room some = rw (ne_eqb 0 room (λ e. absurd (omega (arith, e, some)))) refl

-- this one goes, or nobody does
abbrev pub Goes : ℕ → ℕ → ℕ → List ℕ → Type 0
Goes d room at xs = (at < length xs) × (place_by Number room d (map ticket_of xs) ≡ Some at)

abbrev pub NobodyGoes : ℕ → ℕ → ℕ → List ℕ → Type 0
NobodyGoes d room at xs =
    (length xs ≤ at) × ((length xs < room) × (place_by Number room d (map ticket_of xs) ≡ None))

module _ (d room reach : ℕ) (slots : ℕ → ℕ) (xs : List ℕ) (are : AreSlots slots xs) (some : 0 < reach)
    (less : reach ≤ room) (room15 : room ≤ 15) (fits : length xs ≤ reach) (full : length xs ≡ reach → reach ≡ room) where
  abbrev ts : List Ticket
  ts = map ticket_of xs

  long : length ts ≡ length xs
  long = length-map xs ticket_of

  ticket_at : (j : ℕ) → j < length xs → at_place ts j ≡ ticket_of (slots j)
  ticket_at j l = get_or-map ticket_of xs j 0 nobody l ∙ ap ticket_of (sym (are.each j))

  goes_at : (j : ℕ) → j < length xs → has_to_go d (at_place ts j) ≡ crosses d (slots j)
  goes_at j l = ap (has_to_go d) (ticket_at j l) ∙ has_to_go_is d (slots j)

  some_at : (j : ℕ) → j < length xs → 0 < slots j % 65536
  some_at j l = grind (arith, are.taken j l, are.each j)

  rank_at : (j : ℕ) → j < length xs → rank ts j + 16 ≡ mark_of j (slots j)
  rank_at j l =
      let number : (at_place ts j).number ≡ slots j % 65536 - 1 = ap (λ (t : Ticket). t.number) (ticket_at j l) in
      omega (arith, number, some_at j l)

  blank : (j : ℕ) → length xs ≤ j → crosses d (slots j) ≡ false
  blank j l = rw (are.each j, get_or_past xs j 0 l) (bit-zero (16 + d))

  crossing_key : (j : ℕ) → crosses d (slots j) ≡ true → slot_key d j (slots j) ≡ mark_of j (slots j)
  crossing_key j e = rw e refl

  staying_key : (j : ℕ) → crosses d (slots j) ≡ false → slot_key d j (slots j) ≡ 2097151 - mark_of j (slots j)
  staying_key j e = rw e refl

  -- one that has to cross has the least key
  one_crosses : (least : ℕ) (is : IsLeast d (reach - 1) slots least) → crosses d (slots is.at) ≡ true → (last : ℕ)
      → Goes d room (min (place_found least last) (reach - 1)) xs
  one_crosses least is e last =
      let at : ℕ = is.at in
      let inside : at < length xs = ⊎_elim (λ (l : at < length xs). l)
      (λ (l : length xs ≤ at). absurd (let wrong : true ≡ false = sym e ∙ blank at l in cc)) (cases_lt at (length xs)) in
      let low : at < 15 = omega (arith, inside, are.fits) in
      let key : least ≡ mark_of at (slots at) = is.is ∙ crossing_key at e in
      let near : nat_lt least 1048576 ≡ true = lt-ltb least 1048576 (omega (arith, key, low)) in
      let found : place_found least last ≡ at = rw near (omega (arith, key, low)) in
      let chosen : lowest_place d ts ≡ Some at =
      lowest_is d at ts (omega (arith, long, are.fits)) (omega (arith, long, inside)) (goes_at at inside ∙ e)
      (λ j l g.
      let m : j < length xs = omega (arith, long, l) in
      let goes : crosses d (slots j) ≡ true = sym (goes_at j m) ∙ g in
      omega (arith, rank_at at inside, rank_at j m, is.all j (omega (arith, m, fits)), crossing_key j goes, key)) in
      let same : min (place_found least last) (reach - 1) ≡ at = omega (arith, found, is.there) in
      rw (same, chosen) (inside, refl)

  none_crosses : (least : ℕ) (is : IsLeast d (reach - 1) slots least) → crosses d (slots is.at) ≡ false
      → (j : ℕ) → j < length xs → crosses d (slots j) ≡ false
  none_crosses least is e j l =
      ⊎_elim (λ (g : crosses d (slots j) ≡ true).
      absurd (omega (
        arith,
        is.is,
        staying_key is.at e,
        is.all j (omega (arith, l, fits)),
        crossing_key j g,
        l,
        fits,
        less,
        room15,
        is.there,
      )))
      (λ (g : crosses d (slots j) ≡ false). g) (cases_Bool (crosses d (slots j)))

  -- nobody has to cross
  referral : (least : ℕ) (is : IsLeast d (reach - 1) slots least) → crosses d (slots is.at) ≡ false
      → Goes d room (min (place_found least (slots (reach - 1))) (reach - 1)) xs
      ⊎ NobodyGoes d room (min (place_found least (slots (reach - 1))) (reach - 1)) xs
  referral least is e =
      let at : ℕ = is.at in
      let none : lowest_place d ts ≡ None = none_lowest d ts (λ j l.
      let m : j < length xs = omega (arith, long, l) in goes_at j m ∙ none_crosses least is e j m) in
      let key : least ≡ 2097151 - mark_of at (slots at) = is.is ∙ staying_key at e in
      let far : nat_lt least 1048576 ≡ false = le-ltb least 1048576 (omega (arith, key, is.there, less, room15)) in
      ⊎_elim
      (λ (l : reach - 1 < length xs).
      let all : length xs ≡ reach = omega (arith, l, fits) in
      let inside : at < length xs = omega (arith, is.there, l) in
      let low : at < 15 = omega (arith, inside, are.fits) in
      let taken : slots (reach - 1) ≢ 0 = λ z. absurd (omega (arith, some_at (reach - 1) l, z)) in
      let found : place_found least (slots (reach - 1)) ≡ at =
      rw (far, ne_eqb (slots (reach - 1)) 0 taken) (omega (arith, key, low)) in
      let most : length ts ≡ room = omega (arith, long, all, full all) in
      let chosen : highest_place ts ≡ Some at = highest_is at ts (omega (arith, long, are.fits)) (omega (arith, long, inside))
      (λ j m.
      let k : j < length xs = omega (arith, long, m) in
      omega (
        arith,
        rank_at at inside,
        rank_at j k,
        is.all j (omega (arith, k, fits)),
        staying_key j (none_crosses least is e j k),
        key,
        are.fits,
        k,
      )) in
      let same : min (place_found least (slots (reach - 1))) (reach - 1) ≡ at = omega (arith, found, is.there) in
      inl (rw same (inside, rw (none, eq-eqb (length ts) room most) chosen)))
      (λ (l : length xs ≤ reach - 1).
      let last : slots (reach - 1) ≡ 0 = are.each (reach - 1) ∙ get_or_past xs (reach - 1) 0 l in
      let other : length ts ≢ room = λ eq. absurd (omega (arith, eq, long, l, some, less)) in
      let found : place_found least (slots (reach - 1)) ≡ 15 = rw (far, last) refl in
      inr (
        omega (arith, found, l, room15, less),
        (
          omega (arith, l, some, less),
          rw (none, ne_eqb (length ts) room other) refl,
        ),
      ))
      (cases_lt (reach - 1) (length xs))

  pub chosen_is : (place : ℕ) → IsFound d (reach - 1) slots place → Goes d room (min place (reach - 1)) xs
      ⊎ NobodyGoes d room (min place (reach - 1)) xs
  chosen_is place found =
      rw found.found
      (⊎_elim (λ (e : crosses d (slots found.least.at) ≡ true).
      inl (one_crosses found.key found.least e (slots (reach - 1))))
      (λ (e : crosses d (slots found.least.at) ≡ false). referral found.key found.least e)
      (cases_Bool (crosses d (slots found.least.at))))
