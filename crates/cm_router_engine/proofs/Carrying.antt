-- What tickets do, the messages do that they stand for.
use Rattle.std.proofs.Common.{◌∙◌, ◌≡◌, ◌↔◌, ℕ, zero, suc, ◌^◌, List, [], ◌∷◌, length, map, Option, Some, None}
use Rattle.std.proofs.Common.{refl, ap, get_or, ◌<◌, ◌≤◌, ◌++◌, arith}
use Rattle.std.specs.Prelude.{bit_xor}
use Rattle.std.specs.List.{All, list_any, range_with_len}
use Rattle.std.specs.Option.{option_map, option_to_list}
use Rattle.std.proofs.lemmas.List.{length-map, length-append, map-append, get_or-map}
use Rattle.std.proofs.lemmas.Grind.{pieces}
use Rattle.std.proofs.lemmas.List.Elements.{All-append, All-tail, All-map, All-cons}
use Rattle.cm_model.specs.declared.message.Message.{Message}
use Rattle.cm_model.specs.Array.{each_chip, nth_or_nil}
use Rattle.cm_model.specs.Letters.{has_arrived}
use Rattle.cm_model.specs.Router.{has_to_cross, message_across}
use Rattle.cm_model.specs.Wiring.{Way, plain_way}
use Rattle.cm_model.specs.Buffers.{leaving_place, element_at, without, outgoing, buffer_after_dimension}
use Rattle.cm_model.specs.Each.{tabulate}
use Rattle.cm_model.proofs.Each.{map-tabulate, length-tabulate, is_each}
use Rattle.cm_model.proofs.Leaving.{position-map, map-without, element_at-map}
use Rattle.cm_slots.specs.declared.ticket.Ticket.{Ticket}
use Rattle.cm_slots.specs.Queues.{place_of_leaver, stayers_of}
use Rattle.cm_slots.specs.Tickets.{has_to_go, has_come, ticket_across, ticket_going, queue_exchanged}
use Rattle.cm_router_engine.specs.Standing.{message_of_ticket, standing, all_standing, HaveMessages, HasMessage, AreTogether}
use Rattle.cm_router_engine.specs.Routed.{place_leaving, ticket_leaving, tickets_staying, tickets_crossed}

-- ---- the messages of a chip

module _ (row : List Message) (cap d : ℕ) where
  same_place : (ts : List Ticket) → leaving_place plain_way cap d (standing row ts) ≡ place_of_leaver (has_to_go d) cap ts
  unfolding leaving_place place_of_leaver
  same_place ts = rw (position-map (message_of_ticket row) (has_to_cross d) ts, length-map ts (message_of_ticket row))

  -- the plain way is that of tickets
  pub plain_staying : (ts : List Ticket) → tickets_staying row plain_way cap d ts ≡ stayers_of (has_to_go d) cap ts
  plain_staying ts = ap (λ (o : Option ℕ). without ts o) (same_place ts)

  pub plain_leaving : (ts : List Ticket) → ticket_leaving row plain_way cap d ts ≡ ticket_going cap d ts
  plain_leaving ts = ap (λ (o : Option ℕ). option_map (ticket_across d) (element_at ts o)) (same_place ts)

  pub plain_crossed : (here there : List Ticket)
      → queue_exchanged cap d here there ≡ tickets_crossed row plain_way cap d here there
  plain_crossed here there = rw (plain_staying here, plain_leaving there) refl

  pub staying-standing : (way : Way) (ts : List Ticket) → standing row (tickets_staying row way cap d ts)
      ≡ without (standing row ts) (leaving_place way cap d (standing row ts))
  staying-standing way ts = map-without (message_of_ticket row) ts (leaving_place way cap d (standing row ts))

  across-standing : (o : Option Ticket) → option_map (message_across d) (option_map (message_of_ticket row) o)
      ≡ option_map (message_of_ticket row) (option_map (ticket_across d) o)
  across-standing None = refl
  across-standing (Some t) = refl

  pub leaving-standing : (way : Way) (ts : List Ticket)
      → option_map (message_of_ticket row) (ticket_leaving row way cap d ts) ≡ outgoing way cap d (standing row ts)
  leaving-standing way ts = rw (element_at-map (message_of_ticket row) ts, across-standing) refl

  listed-standing : (o : Option Ticket)
      → standing row (option_to_list o) ≡ option_to_list (option_map (message_of_ticket row) o)
  listed-standing None = refl
  listed-standing (Some t) = refl

  -- where this other chip stands across the dimension
  pub crossed-standing : (way : Way) (here there : List Ticket) → standing row (tickets_crossed row way cap d here there)
      ≡ buffer_after_dimension way cap d (standing row here) (outgoing way cap d (standing row there))
  unfolding buffer_after_dimension
  crossed-standing way here there =
      rw (
        map-append,
        staying-standing way here,
        listed-standing (ticket_leaving row way cap d there),
        leaving-standing way there,
      )

-- ---- those of all chips

pub standing_at : (row : List Message) (queues : List (List Ticket)) (c : ℕ)
    → nth_or_nil (all_standing row queues) c ≡ standing row (nth_or_nil queues c)
standing_at row [] c = refl
standing_at row (ts ∷ queues) zero = refl
standing_at row (ts ∷ queues) (suc c) = standing_at row queues c

pub crossed_standing : (n cap d : ℕ) (ways : ℕ → Way) (row : List Message) (old : List (List Ticket))
    → all_standing row (each_chip n (λ c. tickets_crossed row (ways c) cap d (nth_or_nil old c)
    (nth_or_nil old (bit_xor c (2 ^ d)))))
    ≡ each_chip n (λ c. buffer_after_dimension (ways c) cap d (nth_or_nil (all_standing row old) c)
    (outgoing (ways c) cap d (nth_or_nil (all_standing row old) (bit_xor c (2 ^ d)))))
crossed_standing n cap d ways row old = simp (map-tabulate, crossed-standing, standing_at)

pub left_standing : (count cap d : ℕ) (ways : ℕ → Way) (row : List Message) (old : List (List Ticket))
    → all_standing row (tabulate 0 count (λ c. tickets_staying row (ways c) cap d (nth_or_nil old c)))
    ≡ tabulate 0 count (λ c. without (nth_or_nil (all_standing row old) c)
    (leaving_place (ways c) cap d (nth_or_nil (all_standing row old) c)))
left_standing count cap d ways row old = simp (map-tabulate, staying-standing, standing_at)

pub gone_standing : (count cap d : ℕ) (ways : ℕ → Way) (row : List Message) (old : List (List Ticket))
    → map (λ t. option_map (message_of_ticket row) t) (tabulate 0 count (λ c. ticket_leaving row (ways c) cap d (nth_or_nil old c)))
    ≡ tabulate 0 count (λ c. outgoing (ways c) cap d (nth_or_nil (all_standing row old) c))
gone_standing count cap d ways row old = simp (map-tabulate, leaving-standing, standing_at)

-- what is made of each element is made by its number
pub mapped_each : {X Y : Type 0} (f : X → Y) (d : X) (e : Y) (xs : List X)
    → map f xs ≡ tabulate 0 (length xs) (λ c. f (get_or xs c d))
mapped_each f d e xs = is_each e (length xs) (λ c. f (get_or xs c d)) (map f xs) (length-map xs f)
    (λ i h. get_or-map f xs i d e h)

-- what is true of each chip's messages where something is true of its tickets
pub all_stand : (P : List Message → Type 0) (Q : List Ticket → Type 0) (row : List Message)
    → ((ts : List Ticket) → Q ts ↔ P (standing row ts)) → (queues : List (List Ticket))
    → All Q queues ↔ All P (all_standing row queues)
all_stand P Q row same queues = (
  λ h. All-map P (standing row) queues (λ k e l. (same (get_or queues k e)).0 (h k e l)),
  λ h k e l. (same (get_or queues k e)).1 (rw (get_or-map (standing row) queues k e (standing row e) l) at (h k
      (standing row e) (rw (length-map queues (standing row)) l))),
)

-- as many messages as tickets
pub as_many : (P : ℕ → Type 0) (row : List Message) (queues : List (List Ticket))
    → All (λ ts. P (length ts)) queues ↔ All (λ ms. P (length ms)) (all_standing row queues)
as_many P row = all_stand (λ ms. P (length ms)) (λ ts. P (length ts)) row
    (λ ts. (λ h. rw (length-map ts (message_of_ticket row)) h, λ h. rw (length-map ts (message_of_ticket row)) at h))

-- what is true of every list is true at each number, also where there is none
pub all_at : {X : Type 0} (P : List X → Type 0) → P [] → (lists : List (List X)) (c : ℕ) → All P lists
    → P (nth_or_nil lists c)
all_at P none [] c h = none
all_at P none (xs ∷ lists) zero h = h 0 xs (omega arith)
all_at P none (xs ∷ lists) (suc c) h = all_at P none lists c (All-tail P xs lists h)

-- a chip has no more tickets than there is room for messages
pub few_at : (room : ℕ) (row : List Message) (queues : List (List Ticket)) (c : ℕ)
    → All (λ ms. length ms ≤ room) (all_standing row queues) → length (nth_or_nil queues c) ≤ room
few_at room row queues c within =
    all_at (λ ts. length ts ≤ room) (omega arith) queues c ((as_many (λ n. n ≤ room) row queues).1 within)

pub nobody_stands : (row : List Message) (ts : List Ticket) → length ts ≤ 0 ↔ standing row ts ≡ []
nobody_stands row [] = (λ h. refl, λ h. omega arith)
nobody_stands row (t ∷ ts) = (λ h. absurd (omega arith), λ h. absurd cc)

-- a message has arrived where its ticket has nowhere left to cross
pub arrived_standing : (row : List Message) (ts : List Ticket)
    → list_any has_arrived (standing row ts) ≡ list_any has_come ts
arrived_standing row [] = refl
arrived_standing row (t ∷ ts) = rw (arrived_standing row ts) refl

pub arrived_at : (row : List Message) (queues : List (List Ticket)) (c : ℕ)
    → list_any has_arrived (nth_or_nil (all_standing row queues) c) ≡ list_any has_come (nth_or_nil queues c)
arrived_at row queues c = ap (λ (ms : List Message). list_any has_arrived ms) (standing_at row queues c)
    ∙ arrived_standing row (nth_or_nil queues c)

-- where there is room for one more, it may come
pub room_for_one : {X : Type 0} (room : ℕ) (xs : List X) (o : Option X) → length xs < room
    → length (xs ++ option_to_list o) ≤ room
room_for_one room xs None h = omega (arith, length-append xs [])
room_for_one room xs (Some x) h = omega (arith, length-append xs (x ∷ []))

-- ---- each ticket still stands for a message

module _ (count : ℕ) where
  nobody_kept : HaveMessages count []
  nobody_kept k d l = absurd (omega arith)

  pub without_kept : (ts : List Ticket) (o : Option ℕ) → HaveMessages count ts → HaveMessages count (without ts o)
  without_kept ts None h = h
  without_kept ts (Some i) h = search (pieces, h)

  -- who leaves, as it arrives across
  pub leaver_kept : (d : ℕ) (ts : List Ticket) (o : Option ℕ) → HaveMessages count ts
      → HasMessage count (option_map (ticket_across d) (element_at ts o))
  leaver_kept d ts None h = tt
  leaver_kept d [] (Some i) h = tt
  leaver_kept d (t ∷ ts) (Some zero) h = h 0 t (omega arith)
  leaver_kept d (t ∷ ts) (Some (suc i)) h = leaver_kept d ts (Some i) (λ k e l. h (suc k) e (omega arith))

  listed_kept : (o : Option Ticket) → HasMessage count o → HaveMessages count (option_to_list o)
  listed_kept None h = nobody_kept
  listed_kept (Some t) h = All-cons (λ (x : Ticket). x.number < count) t [] h nobody_kept

pub kept_more : (few most : ℕ) (o : Option Ticket) → few ≤ most → HasMessage few o → HasMessage most o
kept_more few most None h kept = tt
kept_more few most (Some t) h kept = omega (arith, h, kept)

-- what a function makes for each number
pub All-tabulate : {X : Type 0} (P : X → Type 0) (first count : ℕ) (f : ℕ → X) → ((c : ℕ) → P (f c))
    → All P (tabulate first count f)
unfolding tabulate
All-tabulate P first count f h =
    All-map P f (range_with_len first count) (λ k d l. h (get_or (range_with_len first count) k d))

module _ (cap d count : ℕ) (ways : ℕ → Way) (row : List Message) (old : List (List Ticket))
    (kept : All (HaveMessages count) old) where
  kept_at : (c : ℕ) → HaveMessages count (nth_or_nil old c)
  kept_at c = all_at (HaveMessages count) (nobody_kept count) old c kept

  pub left_kept : (chips : ℕ)
      → All (HaveMessages count) (tabulate 0 chips (λ c. tickets_staying row (ways c) cap d (nth_or_nil old c)))
  left_kept chips = All-tabulate (HaveMessages count) 0 chips (λ c. tickets_staying row (ways c) cap d (nth_or_nil old c))
      (λ c. without_kept count (nth_or_nil old c) (place_leaving row (ways c) cap d (nth_or_nil old c)) (kept_at c))

  pub gone_kept : (chips : ℕ)
      → All (HasMessage count) (tabulate 0 chips (λ c. ticket_leaving row (ways c) cap d (nth_or_nil old c)))
  gone_kept chips = All-tabulate (HasMessage count) 0 chips (λ c. ticket_leaving row (ways c) cap d (nth_or_nil old c))
      (λ c. leaver_kept count d (nth_or_nil old c) (place_leaving row (ways c) cap d (nth_or_nil old c)) (kept_at c))

  pub crossed_kept : (n : ℕ) → All (HaveMessages count) (each_chip n (λ c. tickets_crossed row (ways c) cap d (nth_or_nil old c)
      (nth_or_nil old (bit_xor c (2 ^ d)))))
  crossed_kept n = All-tabulate (HaveMessages count) 0 (2 ^ n)
      (λ c. tickets_crossed row (ways c) cap d (nth_or_nil old c) (nth_or_nil old (bit_xor c (2 ^ d))))
      (λ c. let there : ℕ = bit_xor c (2 ^ d) in
      All-append (λ (t : Ticket). t.number < count) (tickets_staying row (ways c) cap d (nth_or_nil old c))
      (option_to_list (ticket_leaving row (ways c) cap d (nth_or_nil old there)))
      (without_kept count (nth_or_nil old c) (place_leaving row (ways c) cap d (nth_or_nil old c)) (kept_at c))
      (listed_kept count (ticket_leaving row (ways c) cap d (nth_or_nil old there))
      (leaver_kept count d (nth_or_nil old there) (place_leaving row (ways c) cap d (nth_or_nil old there)) (kept_at there))))

-- ---- nobody stands

module _ (queues : List (List Ticket)) (count : ℕ) (none : queues ≡ tabulate 0 count (λ c. [])) where
  pub none_long : length queues ≡ count
  none_long = rw none (length-tabulate 0 count (λ c. []))

  pub none_standing : (row : List Message) → all_standing row queues ≡ tabulate 0 count (λ c. [])
  none_standing row = rw none (map-tabulate (standing row) 0 count (λ c. []))

  pub none_kept : (bound : ℕ) → All (HaveMessages bound) queues
  none_kept bound = rw none (All-tabulate (HaveMessages bound) 0 count (λ c. []) (λ c. nobody_kept bound))

  pub none_together : (row : List Message) → All (AreTogether row) queues
  none_together row =
      rw none (All-tabulate (AreTogether row) 0 count (λ c. [])
      (λ c. record { start = 0; starts = λ some. absurd (omega arith); within = omega arith; value = refl }))
