-- The order of age in the row: lower numbers are those of older messages; and messages that move into it.
use Rattle.std.proofs.Common.{◌≡◌, ◌≢◌, ◌⊎◌, ℕ, zero, suc, ◌+◌, ◌-◌, ◌^◌, ◌<◌, ◌≤◌, ◌++◌, true, false}
use Rattle.std.proofs.Common.{List, [], ◌∷◌, length, map, get_or, Option, Some, None, refl, sym, ap, ◌∙◌, ⊎_elim, arith}
use Rattle.std.specs.Prelude.{nat_lt, bit_xor}
use Rattle.std.specs.List.{All}
use Rattle.std.specs.Option.{option_map}
use Rattle.std.proofs.lemmas.Bool.{cases_eq, cases_lt, lt-ltb, le-ltb}
use Rattle.std.proofs.lemmas.Bool.Decides.{nat_tests}
use Rattle.std.proofs.lemmas.List.{length-map}
use Rattle.std.proofs.lemmas.List.Elements.{All-tail, All-cons}
use Rattle.cm_model.specs.declared.message.Message.{Message}
use Rattle.cm_model.specs.declared.message.Tag.{Tag}
use Rattle.cm_model.specs.declared.rule.Rule.TheVariants.{Oldest}
use Rattle.cm_model.specs.Array.{each_chip, nth_or_nil}
use Rattle.cm_model.specs.Wiring.{Routing, Way, way_of}
use Rattle.cm_model.specs.Router.{is_older}
use Rattle.cm_model.specs.Buffers.{element_at, is_older_one, is_older_or_none, oldest_place, youngest_place}
use Rattle.cm_model.specs.Buffers.{leaving_place}
use Rattle.cm_model.proofs.Each.{same_each_below}
use Rattle.cm_model.proofs.Leaving.{element_at-map}
use Rattle.cm_model.proofs.Preferring.{older_itself, not_both_older}
use Rattle.cm_slots.specs.declared.ticket.Ticket.{Ticket}
use Rattle.cm_slots.specs.Choice.{is_lower_one, is_lower_or_none, lowest_place, highest_place, exchanged_by_number}
use Rattle.cm_router_engine.specs.Standing.{message_of_ticket, standing, all_standing, HaveMessages, HasMessage}
use Rattle.cm_router_engine.specs.Standing.{tag_at, AreByAge}
use Rattle.cm_router_engine.specs.Ranking.{moved_ticket, HaveMoved}
use Rattle.cm_router_engine.specs.Routed.{tickets_crossed}
use Rattle.cm_router_engine.proofs.Carrying.{all_at}

-- ---- the order of age

older_transitive : (s t u : Tag) → is_older s t ≡ true → is_older t u ≡ true → is_older s u ≡ true
older_transitive s t u h k = grind (arith, nat_tests)

pub none_rising : (row : List Message) → AreByAge row 0
none_rising row = record { within = omega arith; each = λ i j h l. absurd (omega (arith, l)) }

pub rising_more : (row : List Message) (n : ℕ) → n < length row
    → (n ≡ 0) ⊎ (is_older (tag_at row (n - 1)) (tag_at row n) ≡ true) → AreByAge row n → AreByAge row (n + 1)
rising_more row n inside last was = record { within = omega (arith, inside); each = each }
  where
    newest : (i : ℕ) → i < n → is_older (tag_at row i) (tag_at row n) ≡ true
    newest i h =
        ⊎_elim (λ (none : n ≡ 0). absurd (omega (arith, none, h)))
        (λ (older : is_older (tag_at row (n - 1)) (tag_at row n) ≡ true).
        ⊎_elim (λ (e : i ≡ n - 1). rw e older)
        (λ (e : i ≢ n - 1). older_transitive (tag_at row i) (tag_at row (n - 1)) (tag_at row n)
        (was.each i (n - 1) (omega (arith, e, h)) (omega (arith, h))) older)
        (cases_eq i (n - 1)))
        last

    each : (i j : ℕ) → i < j → j < n + 1 → is_older (tag_at row i) (tag_at row j) ≡ true
    each i j h l =
        ⊎_elim (λ (e : j ≡ n). rw e (newest i (omega (arith, h, e))))
        (λ (e : j ≢ n). was.each i j h (omega (arith, e, l))) (cases_eq j n)

-- ---- who goes first and last is told by numbers

module _ (row : List Message) (rising : AreByAge row (length row)) where
  older_is_lower : (i j : ℕ) → i < length row → j < length row → is_older (tag_at row i) (tag_at row j) ≡ nat_lt i j
  older_is_lower i j h l =
      ⊎_elim (λ (less : i < j). rising.each i j less l ∙ sym (lt-ltb i j less))
      (λ (more : j ≤ i).
      ⊎_elim (λ (e : j ≡ i). rw e (older_itself (tag_at row i) ∙ sym (le-ltb i i (omega arith))))
      (λ (e : j ≢ i). not_both_older (tag_at row j) (tag_at row i) (rising.each j i (omega (arith, more, e)) h)
      ∙ sym (le-ltb i j more))
      (cases_eq j i))
      (cases_lt i j)

  element_kept : (ts : List Ticket) (o : Option ℕ) → HaveMessages (length row) ts → HasMessage (length row) (element_at ts o)
  element_kept ts None h = tt
  element_kept [] (Some i) h = tt
  element_kept (t ∷ ts) (Some zero) h = h 0 t (omega arith)
  element_kept (t ∷ ts) (Some (suc i)) h = element_kept ts (Some i) (λ k e l. h (suc k) e (omega (arith, l)))

  one_lower : (t : Ticket) (o : Option Ticket) → t.number < length row → HasMessage (length row) o
      → is_older_one (option_map (message_of_ticket row) o) (message_of_ticket row t) ≡ is_lower_one o t
  one_lower t None here there = refl
  one_lower t (Some q) here there = older_is_lower q.number t.number there here

  one_lower_or_none : (t : Ticket) (o : Option Ticket) → t.number < length row → HasMessage (length row) o
      → is_older_or_none (option_map (message_of_ticket row) o) (message_of_ticket row t) ≡ is_lower_or_none o t
  one_lower_or_none t None here there = refl
  one_lower_or_none t (Some q) here there = older_is_lower q.number t.number there here

  lowest_is_oldest : (d : ℕ) (ts : List Ticket) → HaveMessages (length row) ts
      → oldest_place d (standing row ts) ≡ lowest_place d ts
  lowest_is_oldest d [] kept = refl
  lowest_is_oldest d (t ∷ ts) kept =
      let rest : HaveMessages (length row) ts = All-tail (λ (x : Ticket). x.number < length row) t ts kept in
      rw (
        lowest_is_oldest d ts rest,
        element_at-map (message_of_ticket row) ts (lowest_place d ts),
        one_lower t (element_at ts (lowest_place d ts)) (kept 0 t (omega arith))
            (element_kept ts (lowest_place d ts) rest),
      ) refl

  highest_is_youngest : (ts : List Ticket) → HaveMessages (length row) ts
      → youngest_place (standing row ts) ≡ highest_place ts
  highest_is_youngest [] kept = refl
  highest_is_youngest (t ∷ ts) kept =
      let rest : HaveMessages (length row) ts = All-tail (λ (x : Ticket). x.number < length row) t ts kept in
      rw (
        highest_is_youngest ts rest,
        element_at-map (message_of_ticket row) ts (highest_place ts),
        one_lower_or_none t (element_at ts (highest_place ts)) (kept 0 t (omega arith))
            (element_kept ts (highest_place ts) rest),
      ) refl

  abbrev pub oldest_way : Way
  oldest_way = record { cut = false; rule = Oldest }

  crossed_by_number : (room d : ℕ) (here there : List Ticket) → HaveMessages (length row) here → HaveMessages (length row) there
      → exchanged_by_number room d here there ≡ tickets_crossed row oldest_way room d here there
  unfolding leaving_place
  crossed_by_number room d here there h l =
      rw (
        lowest_is_oldest d here h,
        highest_is_youngest here h,
        lowest_is_oldest d there l,
        highest_is_youngest there l,
        length-map here (message_of_ticket row),
        length-map there (message_of_ticket row),
      ) refl

  pub all_crossed_by_number : (routing : Routing) (room d first span : ℕ) (old : List (List Ticket))
      → All (HaveMessages (length row)) old → ((c : ℕ) → way_of routing c d ≡ oldest_way)
      → each_chip span (λ c. exchanged_by_number room d (nth_or_nil old c) (nth_or_nil old (bit_xor c (2 ^ d))))
      ≡ each_chip span (λ c. tickets_crossed row (way_of routing (first + c) d) room d
      (nth_or_nil old c) (nth_or_nil old (bit_xor c (2 ^ d))))
  all_crossed_by_number routing room d first span old kept ways =
      let kept_at : (c : ℕ) → HaveMessages (length row) (nth_or_nil old c) = λ c.
      all_at (HaveMessages (length row)) (λ k e l. absurd (omega (arith, l))) old c kept in
      same_each_below [] (2 ^ span)
      (λ c. exchanged_by_number room d (nth_or_nil old c) (nth_or_nil old (bit_xor c (2 ^ d))))
      (λ c. tickets_crossed row (way_of routing (first + c) d) room d (nth_or_nil old c) (nth_or_nil old (bit_xor c (2 ^ d))))
      (λ c l. crossed_by_number room d (nth_or_nil old c) (nth_or_nil old (bit_xor c (2 ^ d))) (kept_at c)
      (kept_at (bit_xor c (2 ^ d)))
      ∙ ap (λ (way : Way). tickets_crossed row way room d (nth_or_nil old c) (nth_or_nil old (bit_xor c (2 ^ d))))
      (sym (ways (first + c))))

-- ---- messages that have moved

map_same : {X Y : Type 0} (f g : X → Y) (xs : List X) → All (λ x. f x ≡ g x) xs → map f xs ≡ map g xs
map_same f g [] same = refl
map_same f g (x ∷ xs) same = rw (same 0 x (omega arith), map_same f g xs (All-tail (λ y. f y ≡ g y) x xs same))

map-map : {X Y Z : Type 0} (f : X → Y) (g : Y → Z) (xs : List X) → map g (map f xs) ≡ map (λ x. g (f x)) xs
map-map f g [] = refl
map-map f g (x ∷ xs) = rw (map-map f g xs) refl

module _ {row spare : List Message} {moved : List ℕ} (have : HaveMoved row spare moved) where
  standing_moved : (ts : List Ticket) → HaveMessages (length row) ts
      → standing spare (map (moved_ticket moved) ts) ≡ standing row ts
  standing_moved ts kept = map-map (moved_ticket moved) (message_of_ticket spare) ts
      ∙ map_same (λ t. message_of_ticket spare (moved_ticket moved t)) (message_of_ticket row) ts
      (λ k t l. ap (λ (m : Message). record m { rel = (get_or ts k t).rel }) (have.same (get_or ts k t).number (kept k t l)))

  pub all_standing_moved : (queues : List (List Ticket)) → All (HaveMessages (length row)) queues
      → all_standing spare (map (map (moved_ticket moved)) queues) ≡ all_standing row queues
  all_standing_moved queues kept = map-map (map (moved_ticket moved)) (standing spare) queues
      ∙ map_same (λ ts. standing spare (map (moved_ticket moved) ts)) (standing row) queues
      (λ k ts l. standing_moved (get_or queues k ts) (kept k ts l))

  kept_moved : (ts : List Ticket) → HaveMessages (length row) ts → HaveMessages (length spare) (map (moved_ticket moved) ts)
  kept_moved [] kept = λ k d l. absurd (omega (arith, l))
  kept_moved (t ∷ ts) kept = All-cons (λ (x : Ticket). x.number < length spare) (moved_ticket moved t)
      (map (moved_ticket moved) ts) (have.there t.number (kept 0 t (omega arith)))
      (kept_moved ts (All-tail (λ (x : Ticket). x.number < length row) t ts kept))

  pub all_kept_moved : (queues : List (List Ticket)) → All (HaveMessages (length row)) queues
      → All (HaveMessages (length spare)) (map (map (moved_ticket moved)) queues)
  all_kept_moved [] kept = λ k d l. absurd (omega (arith, l))
  all_kept_moved (ts ∷ queues) kept = All-cons (HaveMessages (length spare)) (map (moved_ticket moved) ts)
      (map (map (moved_ticket moved)) queues) (kept_moved ts (kept 0 ts (omega arith)))
      (all_kept_moved queues (All-tail (HaveMessages (length row)) ts queues kept))
