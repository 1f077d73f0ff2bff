-- Tickets and the row of messages that they stand for: a chip's are laid out side by side, and given out.
use Rattle.std.proofs.Common.{◌≡◌, ℕ, zero, suc, ◌+◌, ◌-◌, ◌<◌, ◌≤◌, ◌++◌, false, true, Some, List, [], ◌∷◌, length}
use Rattle.std.proofs.Common.{remove, map, get_or, set, refl, sym, ap, ◌∙◌, arith}
use Rattle.std.specs.List.{All, slice_get, slice_range}
use Rattle.std.specs.Option.{option_map}
use Rattle.std.proofs.lemmas.List.{length-map, length-append, append_assoc, ext_get_or, get_or-map, set-set}
use Rattle.std.proofs.lemmas.List.{get_or_append_left, get_or-append-add, get_or_default, drop_at, take_at}
use Rattle.std.proofs.lemmas.List.Elements.{All-tail}
use Rattle.std.proofs.lemmas.Option.{slice_get-map, slice_get-get_or, slice_get_within, get_or_from_slice_get}
use Rattle.cm_model.specs.declared.message.Message.{Message}
use Rattle.cm_model.specs.declared.message.Event.{Event}
use Rattle.cm_model.specs.declared.message.Event.TheVariants.{Delivered}
use Rattle.cm_model.specs.Array.{nth_or_nil}
use Rattle.cm_model.specs.Processor.{Processor}
use Rattle.cm_model.proofs.Leaving.{map-without}
use Rattle.cm_model.proofs.Scan.{Scan, HandsOver, scan_accepts, scan_keeps}
use Rattle.cm_slots.specs.declared.ticket.Ticket.{Ticket}
use Rattle.cm_router_engine.specs.Standing.{no_message, message_of_ticket, standing, all_standing, HaveMessages, no_ticket}
use Rattle.cm_router_engine.specs.Standing.{AreTogether, AreLaidOut}

-- ---- a longer row

map_same : {X Y : Type 0} (f g : X → Y) (xs : List X) → All (λ x. f x ≡ g x) xs → map f xs ≡ map g xs
map_same f g [] same = refl
map_same f g (x ∷ xs) same = rw (same 0 x (omega arith), map_same f g xs (All-tail (λ y. f y ≡ g y) x xs same))

pub standing_kept : (row more : List Message) (ts : List Ticket) → HaveMessages (length row) ts
    → standing (row ++ more) ts ≡ standing row ts
standing_kept row more ts kept = map_same (message_of_ticket (row ++ more)) (message_of_ticket row) ts
    (λ k d l. ap (λ (m : Message). record m { rel = (get_or ts k d).rel })
    (get_or_append_left row more no_message (get_or ts k d).number (kept k d l)))

pub all_standing_kept : (row more : List Message) (queues : List (List Ticket)) → All (HaveMessages (length row)) queues
    → all_standing (row ++ more) queues ≡ all_standing row queues
all_standing_kept row more queues kept = map_same (standing (row ++ more)) (standing row) queues
    (λ k d l. standing_kept row more (get_or queues k d) (kept k d l))

-- ---- messages side by side

module _ (begun ms rest spare : List Message) (is : spare ≡ (begun ++ ms) ++ rest) where
  read_between : (j : ℕ) → j < length ms → get_or spare (length begun + j) no_message ≡ get_or ms j no_message
  read_between j l = rw (is, append_assoc, get_or-append-add) (get_or_append_left ms rest no_message j l)

  slice_between : slice_range spare (length begun) (length begun + length ms) ≡ ms
  slice_between =
      let count : (length begun + length ms) - length begun ≡ length ms = omega arith in
      rw (is, append_assoc, count, drop_at begun (ms ++ rest) (length begun) refl) (take_at ms rest (length ms) refl)

module _ {row spare : List Message} {old new : List Ticket} (is : AreLaidOut row spare old new) where
  pub laid_value : standing spare new ≡ standing row old
  laid_value = ext_get_or no_message (standing spare new) (standing row old)
      (rw (length-map new (message_of_ticket spare), length-map old (message_of_ticket row)) is.long)
      (λ j l.
      let there : j < length new = omega (arith, length-map new (message_of_ticket spare)) in
      let here : j < length old = omega (arith, is.long) in
      let in_new = get_or-map (message_of_ticket spare) new j no_ticket no_message there in
      let in_old = get_or-map (message_of_ticket row) old j no_ticket no_message here in
      let read = read_between is.begun (standing row old) is.rest spare is.all j (rw length-map here) in
      rw (in_new, is.each j here, read, in_old))

  laid_long : length spare ≡ length is.begun + length new + length is.rest
  laid_long = ap length is.all ∙ simp (length-append, length-map, is.long)

  pub laid_kept : HaveMessages (length spare) new
  laid_kept k d l =
      rw (get_or_default new k d no_ticket l, is.each k (omega (arith, is.long))) (omega (arith, laid_long))

  pub laid_together : AreTogether spare new
  laid_together = record {
    start = length is.begun;
    starts = λ some. omega (arith, ap (λ (t : Ticket). t.number) (is.each 0 (omega (arith, is.long))));
    within = omega (arith, laid_long);
    value = rw (laid_value, is.long, ← length-map old (message_of_ticket row))
        (slice_between is.begun (standing row old) is.rest spare is.all);
  }

  pub laid_longer : (more : List Message) → AreLaidOut row (spare ++ more) old new
  laid_longer more = record {
    begun = is.begun;
    rest = is.rest ++ more;
    all = ap (λ xs. xs ++ more) is.all ∙ append_assoc (is.begun ++ standing row old) is.rest more;
    long = is.long;
    each = is.each;
  }

-- ---- one chip's tickets and messages, step by step

-- of all lists only this one has changed, written once more
pub written_again : {X : Type 0} (i : ℕ) (first old new : List (List X)) (xs : List X) → new ≡ set old i xs
    → nth_or_nil new i ≡ xs → old ≡ set first i (nth_or_nil old i) → new ≡ set first i (nth_or_nil new i)
written_again i first old new xs is here was =
    is ∙ ap (λ r. set r i xs) was ∙ set-set first i (nth_or_nil old i) xs ∙ ap (set first i) (sym here)

-- the message of the ticket at the place was handed over, and with it the scan goes on
module _ {before chip : List Processor} {old : List Message} {told events : List Event} {here place : ℕ}
    (row : List Message) (queue : List Ticket) (t : Ticket) (is : Some t ≡ slice_get queue place)
    (scan : Scan before old told here chip (standing row queue) place events) where
  found : slice_get (standing row queue) place ≡ Some (message_of_ticket row t)
  found = slice_get-map (message_of_ticket row) queue place ∙ ap (option_map (message_of_ticket row)) (sym is)

  inside : place < length (standing row queue)
  inside = slice_get_within (standing row queue) place (message_of_ticket row t) found

  there : get_or (standing row queue) place (message_of_ticket row t) ≡ message_of_ticket row t
  there = get_or_from_slice_get (standing row queue) place (message_of_ticket row t) (message_of_ticket row t) found

  pub scan_taken : {after : List Processor} → HandsOver true before (message_of_ticket row t) chip after
      → Scan before old told here after (standing row (remove queue place)) place
      (events ++ Delivered here (message_of_ticket row t) ∷ [])
  scan_taken step =
      rw (map-without (message_of_ticket row) queue (Some place))
      (scan_accepts _ _ _ _ _ _ _ _ _ (message_of_ticket row t) scan inside there step)

  pub scan_passed : {after : List Processor} → HandsOver false before (message_of_ticket row t) chip after
      → Scan before old told here after (standing row queue) (place + 1) events
  scan_passed step = scan_keeps _ _ _ _ _ _ _ _ _ (message_of_ticket row t) scan inside there step

-- messages that are kept, one behind the other, and with them the scan goes on
scan_goes_on : {before chip : List Processor} {old : List Message} {told events : List Event} {here : ℕ} (n place : ℕ)
    (row : List Message) (queue : List Ticket) → place + n ≤ length queue
    → ((j : ℕ) (t : Ticket) → place ≤ j → j < place + n → Some t ≡ slice_get queue j
    → HandsOver false before (message_of_ticket row t) chip chip)
    → Scan before old told here chip (standing row queue) place events
    → Scan before old told here chip (standing row queue) (place + n) events
scan_goes_on zero place row queue within kept scan = let none : place + 0 ≡ place = omega arith in rw none scan
scan_goes_on (suc n) place row queue within kept scan =
    let t : Ticket = get_or queue place no_ticket in
    let is : Some t ≡ slice_get queue place = sym (slice_get-get_or queue place no_ticket (omega (arith, within))) in
    let more : place + 1 + n ≡ place + suc n = omega arith in
    rw more at (scan_goes_on n (place + 1) row queue (omega (arith, within))
    (λ j u from below at. kept j u (omega (arith, from)) (omega (arith, below)) at)
    (scan_passed row queue t is scan (kept place t (omega arith) (omega arith) is)))

pub scan_to : {before chip : List Processor} {old : List Message} {told events : List Event} {here : ℕ}
    (place next : ℕ) (row : List Message) (queue : List Ticket) → place ≤ next → next ≤ length queue
    → ((j : ℕ) (t : Ticket) → place ≤ j → j < next → Some t ≡ slice_get queue j
    → HandsOver false before (message_of_ticket row t) chip chip)
    → Scan before old told here chip (standing row queue) place events
    → Scan before old told here chip (standing row queue) next events
scan_to place next row queue order within kept scan =
    let is : place + (next - place) ≡ next = omega (arith, order) in
    rw is at (scan_goes_on (next - place) place row queue (omega (arith, order, within))
    (λ j t from below at. kept j t from (omega (arith, order, below)) at) scan)
