-- Who leaves a chip: by since in the set, and by place in the buffer.
use Rattle.std.proofs.Common.{◌≡◌, ℕ, zero, suc, ◌+◌, ◌-◌, ◌<◌, ◌≤◌, ◌^◌, Bool, true, false, not, eqb, ltb}
use Rattle.std.proofs.Common.{List, [], ◌∷◌, ◌++◌, length, take, drop, map, Option, Some, None, refl, sym, ◌∙◌, ap}
use Rattle.std.proofs.Common.{subst, ⊎_elim, arith}
use Rattle.std.proofs.lemmas.Bool.{cases_Bool, cond_both, ltb-true, ltb-false, eqb-true}
use Rattle.std.proofs.lemmas.List.{length-map, map-append, take-map, drop-map, take_all, drop_all, append-nil}
use Rattle.std.proofs.lemmas.List.Folds.{find_at}
use Rattle.std.proofs.lemmas.Option.{slice_get_past, slice_get-map, same_Some}
use Rattle.std.specs.Prelude.{bit_xor}
use Rattle.std.specs.List.{filter, find, position, position_or_len, slice_get, remove}
use Rattle.std.specs.Option.{option_or, option_map, option_to_list}
use Rattle.cm_model.specs.Router.{Since, Standing, is_at, is_before, same_since, standing_at, has_to_cross, crossing}
use Rattle.cm_model.specs.declared.rule.Rule.{Rule}
use Rattle.cm_model.specs.declared.rule.Rule.TheVariants.{First, Oldest}
use Rattle.cm_model.specs.Wiring.{Routing, Way, way_of}
use Rattle.cm_model.specs.Router.{foremost, hindmost, referred, chosen, leaver, is_since, leaves}
use Rattle.cm_model.specs.Router.{message_across, record_across, after_dimension}
use Rattle.cm_model.specs.Order.{in_order, queue, messages_of, buffer}
use Rattle.cm_model.specs.Buffers.{oldest_place, youngest_place, last_place, referred_place, chosen_place}
use Rattle.cm_model.specs.Buffers.{leaving_place, element_at, without, outgoing, buffer_after_dimension}
use Rattle.cm_model.proofs.Order.{AllAfter, AllBefore, IsRising, first_of_list, last_of_list, earliest_is, latest_is}
use Rattle.cm_model.proofs.Order.{filter-in_order, length-in_order, same_itself, same_not_before, same_not_after}
use Rattle.cm_model.proofs.Order.{IsSorted, IsSorted-in_order}
use Rattle.cm_model.proofs.Preferring.{foremost-in_order, hindmost-in_order}
use Rattle.cm_model.proofs.Places.{IsPlaceOf, foremost_at, hindmost_at, oldest_place-within}
use Rattle.cm_model.proofs.Crossing.{comers, time_across, queue-crossed}

-- ---- places in any list

first_is_find : (p : Standing → Bool) (xs : List Standing) → first_of_list (filter p xs) ≡ find p xs
first_is_find p [] = refl
first_is_find p (x ∷ xs) =
    ⊎_elim (λ (e : p x ≡ true). rw e refl) (λ (e : p x ≡ false). rw e (first_is_find p xs)) (cases_Bool (p x))

pub element_at-position : {X : Type 0} (p : X → Bool) (xs : List X) → element_at xs (position p xs) ≡ find p xs
element_at-position p xs =
    cond_both (ltb (position_or_len p xs) (length xs)) (Some (position_or_len p xs)) None
    (λ o. element_at xs o ≡ find p xs)
    (λ e. sym (find_at p xs))
    (λ e. sym (find_at p xs
    ∙ slice_get_past xs (position_or_len p xs) (ltb-false (position_or_len p xs) (length xs) e)))

position_or_len-map : {X Y : Type 0} (f : X → Y) (p : Y → Bool) (xs : List X)
    → position_or_len p (map f xs) ≡ position_or_len (λ x. p (f x)) xs
position_or_len-map f p [] = refl
position_or_len-map f p (x ∷ xs) =
    ⊎_elim (λ (e : p (f x) ≡ true). rw e refl)
    (λ (e : p (f x) ≡ false). rw e (ap (λ k. 1 + k) (position_or_len-map f p xs))) (cases_Bool (p (f x)))

pub position-map : {X Y : Type 0} (f : X → Y) (p : Y → Bool) (xs : List X)
    → position p (map f xs) ≡ position (λ x. p (f x)) xs
position-map f p xs = rw (length-map xs f, position_or_len-map f p xs) refl

last_is : (xs : List Standing) → last_of_list xs ≡ slice_get xs (length xs - 1)
last_is [] = refl
last_is (x ∷ []) = refl
last_is (x ∷ (y ∷ ys)) =
    let e : length (x ∷ (y ∷ ys)) - 1 ≡ suc (length (y ∷ ys) - 1) = omega arith in
    last_is (y ∷ ys) ∙ ap (slice_get (x ∷ (y ∷ ys))) (sym e)

pub remove_past : {X : Type 0} (xs : List X) (i : ℕ) → length xs ≤ i → remove xs i ≡ xs
remove_past xs i h = rw (take_all i xs h, drop_all (suc i) xs (omega arith)) (append-nil xs)

pub map-without : {X Y : Type 0} (f : X → Y) (xs : List X) (o : Option ℕ) → map f (without xs o) ≡ without (map f xs) o
map-without f xs None = refl
map-without f xs (Some i) = map-append f (take i xs) (drop (suc i) xs)
    ∙ rw (take-map f i xs, drop-map f (suc i) xs) refl

pub element_at-map : {X Y : Type 0} (f : X → Y) (xs : List X) (o : Option ℕ)
    → element_at (map f xs) o ≡ option_map f (element_at xs o)
element_at-map f xs None = refl
element_at-map f xs (Some i) = slice_get-map f xs i

-- ---- the leaver stands at its place

some_within : {X : Type 0} (xs : List X) (k : ℕ) → k < length xs → slice_get xs k ≡ None → ⊥
some_within [] k h e = absurd (omega arith)
some_within (x ∷ xs) zero h e = cc
some_within (x ∷ xs) (suc k) h e = some_within xs k (omega arith) e

pub past_none : {X : Type 0} (xs : List X) (i : ℕ) → slice_get xs i ≡ None → length xs ≤ i
past_none [] i e = omega arith
past_none (x ∷ xs) zero e = absurd cc
past_none (x ∷ xs) (suc i) e = let ih : length xs ≤ i = past_none xs i e in omega arith

or_some : {X : Type 0} (z o : Option X) → (z ≡ None → ⊥) → option_or z o ≡ z
or_some None o h = absurd (h refl)
or_some (Some x) o h = refl

element_at-or : {X : Type 0} (xs : List X) (p : X → Bool) (o : Option ℕ)
    → element_at xs (option_or (position p xs) o) ≡ option_or (find p xs) (element_at xs o)
element_at-or xs p o =
    cond_both (ltb (position_or_len p xs) (length xs)) (Some (position_or_len p xs)) None
    (λ q. element_at xs q ≡ find p xs → element_at xs (option_or q o) ≡ option_or (find p xs) (element_at xs o))
    (λ e w. w ∙ sym (or_some (find p xs) (element_at xs o)
    (λ none. some_within xs (position_or_len p xs) (ltb-true (position_or_len p xs) (length xs) e) (w ∙ none))))
    (λ e w. ap (λ z. option_or z (element_at xs o)) w)
    (element_at-position p xs)

length-buffer : (c : ℕ) (set : List Standing) → length (buffer c set) ≡ length (standing_at c set)
unfolding queue
length-buffer c set = length-map (in_order (standing_at c set)) (λ r. r.message) ∙ length-in_order (standing_at c set)

sorted_queue : (c : ℕ) (set : List Standing) → IsSorted (queue c set)
unfolding queue
sorted_queue c set = IsSorted-in_order (standing_at c set)

last_in_queue : (rule : Rule) (c : ℕ) (set : List Standing)
    → hindmost rule (standing_at c set) ≡ element_at (queue c set) (last_place rule (buffer c set))
unfolding queue
last_in_queue First c set =
    latest_is (standing_at c set)
    ∙ (last_is (in_order (standing_at c set))
    ∙ ap (λ k. slice_get (in_order (standing_at c set)) (k - 1))
    (sym (length-map (in_order (standing_at c set)) (λ r. r.message))))
last_in_queue Oldest c set = sym (hindmost-in_order Oldest (standing_at c set))
    ∙ hindmost_at (in_order (standing_at c set)) (sorted_queue c set)

element_at-referred : (rule : Rule) (cap c : ℕ) (set : List Standing)
    → referred rule cap (standing_at c set) ≡ element_at (queue c set) (referred_place rule cap (buffer c set))
element_at-referred rule cap c set =
    rw (length-buffer c set)
    (⊎_elim
    (λ (e : eqb (length (standing_at c set)) cap ≡ true). rw e (last_in_queue rule c set))
    (λ (e : eqb (length (standing_at c set)) cap ≡ false). rw e refl)
    (cases_Bool (eqb (length (standing_at c set)) cap)))

-- a filter of the queue is the queue of the filter
pub filter-queue : (p : Standing → Bool) (c : ℕ) (set : List Standing)
    → filter p (queue c set) ≡ in_order (filter p (standing_at c set))
unfolding queue
filter-queue p c set = filter-in_order p (standing_at c set)

-- a place that is one, or another
element_at-either : {X : Type 0} (xs : List X) (o p : Option ℕ) → IsPlaceOf xs o
    → element_at xs (option_or o p) ≡ option_or (element_at xs o) (element_at xs p)
element_at-either xs None p h = refl
element_at-either xs (Some i) p h = sym (or_some (slice_get xs i) (element_at xs p) (λ none. some_within xs i h none))

IsPlaceOf-messages : (xs : List Standing) (o : Option ℕ) → IsPlaceOf (messages_of xs) o → IsPlaceOf xs o
IsPlaceOf-messages xs None h = tt
IsPlaceOf-messages xs (Some i) h = subst (λ (k : ℕ). i < k) (length-map xs (λ r. r.message)) h

-- whom a chip chooses is the record at the chosen place of the buffer
chosen_is : (rule : Rule) (cap d c : ℕ) (set : List Standing)
    → chosen rule cap d (standing_at c set) ≡ element_at (queue c set) (chosen_place rule cap d (buffer c set))
chosen_is First cap d c set =
    let p : Standing → Bool = λ r. has_to_cross d r.message in
    let first : foremost First (crossing d (standing_at c set)) ≡ find p (queue c set) =
    earliest_is (crossing d (standing_at c set))
    ∙ (ap first_of_list (sym (filter-queue p c set)) ∙ first_is_find p (queue c set)) in
    let place : position (has_to_cross d) (buffer c set) ≡ position p (queue c set) =
    position-map (λ r. r.message) (has_to_cross d) (queue c set) in
    ap (λ z. option_or z (referred First cap (standing_at c set))) first
    ∙ (ap (λ z. option_or (find p (queue c set)) z) (element_at-referred First cap c set)
    ∙ (sym (element_at-or (queue c set) p (referred_place First cap (buffer c set)))
    ∙ ap (λ z. element_at (queue c set) (option_or z (referred_place First cap (buffer c set)))) (sym place)))
chosen_is Oldest cap d c set =
    let p : Standing → Bool = λ r. has_to_cross d r.message in
    let first : foremost Oldest (crossing d (standing_at c set))
    ≡ element_at (queue c set) (oldest_place d (buffer c set)) =
    sym (foremost-in_order Oldest (crossing d (standing_at c set)))
    ∙ (ap (foremost Oldest) (sym (filter-queue p c set)) ∙ foremost_at d (queue c set) (sorted_queue c set)) in
    ap (λ z. option_or z (referred Oldest cap (standing_at c set))) first
    ∙ (ap (λ z. option_or (element_at (queue c set) (oldest_place d (buffer c set))) z)
    (element_at-referred Oldest cap c set)
    ∙ sym (element_at-either (queue c set) (oldest_place d (buffer c set)) (referred_place Oldest cap (buffer c set))
    (IsPlaceOf-messages (queue c set) (oldest_place d (buffer c set)) (oldest_place-within d (buffer c set)))))

-- the leaver, told by since, is the record at the leaving place of the buffer
pub leaver_is : (way : Way) (cap d c : ℕ) (set : List Standing)
    → leaver way cap d c set ≡ element_at (queue c set) (leaving_place way cap d (buffer c set))
unfolding leaver leaving_place
leaver_is way cap d c set =
    ⊎_elim (λ (e : way.cut ≡ true). rw e refl) (λ (e : way.cut ≡ false). rw e (chosen_is way.rule cap d c set))
    (cases_Bool way.cut)

-- ---- at a chip, who leaves is told by the chip's own leaver

pub filter-standing_at : (p q : Standing → Bool) (c : ℕ) (set : List Standing)
    → ((r : Standing) → r.chip ≡ c → p r ≡ q r) → filter p (standing_at c set) ≡ filter q (standing_at c set)
filter-standing_at p q c [] same = refl
filter-standing_at p q c (r ∷ set) same =
    ⊎_elim
    (λ (a : is_at c r ≡ true).
    let here : p r ≡ q r = same r (eqb-true r.chip c a) in
    ⊎_elim (λ (e : q r ≡ true). rw (a, here, e) (ap (λ z. r ∷ z) (filter-standing_at p q c set same)))
    (λ (e : q r ≡ false). rw (a, here, e) (filter-standing_at p q c set same)) (cases_Bool (q r)))
    (λ (a : is_at c r ≡ false). rw a (filter-standing_at p q c set same))
    (cases_Bool (is_at c r))

pub filter-queue_same : (p q : Standing → Bool) (c : ℕ) (set : List Standing)
    → ((r : Standing) → r.chip ≡ c → p r ≡ q r) → filter p (queue c set) ≡ filter q (queue c set)
filter-queue_same p q c set same = filter-queue p c set
    ∙ (ap in_order (filter-standing_at p q c set same) ∙ sym (filter-queue q c set))

-- the record has the leaver's since
abbrev pub has_since_of : Option Standing → Standing → Bool
has_since_of o r = is_since r.since o

leaves_here : (routing : Routing) (cap d c : ℕ) (set : List Standing) (r : Standing) → r.chip ≡ c
    → leaves routing cap d set r ≡ has_since_of (leaver (way_of routing c d) cap d c set) r
leaves_here routing cap d c set r e = ap (λ k. is_since r.since (leaver (way_of routing k d) cap d k set)) e

-- ---- in a rising list one record has a since

after_at : (s : Since) (xs : List Standing) (i : ℕ) (x : Standing) → AllAfter s xs → slice_get xs i ≡ Some x
    → is_before s x.since ≡ true
after_at s [] i x h e = absurd cc
after_at s (y ∷ ys) zero x h e = subst (λ (z : Standing). is_before s z.since ≡ true) (same_Some y x e) h.0
after_at s (y ∷ ys) (suc i) x h e = after_at s ys i x h.1 e

-- none that comes later has this since
none_with : (s : Since) (xs : List Standing) → AllAfter s xs → filter (λ r. same_since s r.since) xs ≡ []
none_with s [] h = refl
none_with s (x ∷ xs) h = let e : same_since s x.since ≡ false = same_not_before s x.since h.0 in
    rw e (none_with s xs h.1)

all_without : (s : Since) (xs : List Standing) → AllAfter s xs → filter (λ r. not (same_since s r.since)) xs ≡ xs
all_without s [] h = refl
all_without s (x ∷ xs) h = let e : same_since s x.since ≡ false = same_not_before s x.since h.0 in
    rw e (ap (λ z. x ∷ z) (all_without s xs h.1))

only_one : (xs : List Standing) (i : ℕ) (x : Standing) → IsRising xs → slice_get xs i ≡ Some x
    → filter (λ r. same_since x.since r.since) xs ≡ x ∷ []
only_one [] i x h e = absurd cc
only_one (y ∷ ys) zero x h e =
    subst (λ (z : Standing). filter (λ r. same_since z.since r.since) (y ∷ ys) ≡ z ∷ []) (same_Some y x e)
    (let t : same_since y.since y.since ≡ true = same_itself y.since in
    rw t (ap (λ z. y ∷ z) (none_with y.since ys h.0)))
only_one (y ∷ ys) (suc i) x h e =
    let t : same_since x.since y.since ≡ false = same_not_after y.since x.since (after_at y.since ys i x h.0 e) in
    rw t (only_one ys i x h.1 e)

all_others : (xs : List Standing) (i : ℕ) (x : Standing) → IsRising xs → slice_get xs i ≡ Some x
    → filter (λ r. not (same_since x.since r.since)) xs ≡ remove xs i
all_others [] i x h e = absurd cc
all_others (y ∷ ys) zero x h e =
    subst (λ (z : Standing). filter (λ r. not (same_since z.since r.since)) (y ∷ ys) ≡ ys) (same_Some y x e)
    (let t : same_since y.since y.since ≡ true = same_itself y.since in rw t (all_without y.since ys h.0))
all_others (y ∷ ys) (suc i) x h e =
    let t : same_since x.since y.since ≡ false = same_not_after y.since x.since (after_at y.since ys i x h.0 e) in
    rw t (ap (λ z. y ∷ z) (all_others ys i x h.1 e))

-- ---- what a queue loses, and what comes

-- the test of those that do not leave a chip whose leaver this is
abbrev pub stays_from : Option Standing → Standing → Bool
stays_from o r = not (has_since_of o r)

filter_none : (xs : List Standing) → filter (λ r. false) xs ≡ []
filter_none [] = refl
filter_none (x ∷ xs) = filter_none xs

filter_all : (xs : List Standing) → filter (λ r. true) xs ≡ xs
filter_all [] = refl
filter_all (x ∷ xs) = ap (λ z. x ∷ z) (filter_all xs)

stayers_of : (xs : List Standing) (o : Option ℕ) (l : Option Standing) → IsRising xs → l ≡ element_at xs o
    → filter (stays_from l) xs ≡ without xs o
stayers_of xs None None h e = filter_all xs
stayers_of xs None (Some x) h e = absurd cc
stayers_of xs (Some i) None h e = filter_all xs ∙ sym (remove_past xs i (past_none xs i (sym e)))
stayers_of xs (Some i) (Some x) h e = all_others xs i x h (sym e)

leavers_of : (xs : List Standing) (o : Option ℕ) (l : Option Standing) → IsRising xs → l ≡ element_at xs o
    → filter (has_since_of l) xs ≡ option_to_list l
leavers_of xs o None h e = filter_none xs
leavers_of xs None (Some x) h e = absurd cc
leavers_of xs (Some i) (Some x) h e = only_one xs i x h (sym e)

-- a set that is one in order is that one
one_in_order : (x : Standing) (ys : List Standing) → in_order ys ≡ x ∷ [] → ys ≡ x ∷ []
one_in_order x [] e = absurd cc
one_in_order x (y ∷ []) e = e
one_in_order x (y ∷ (z ∷ zs)) e = absurd (omega (arith, length-in_order (y ∷ (z ∷ zs)), ap length e))

none_in_order : (ys : List Standing) → in_order ys ≡ [] → ys ≡ []
none_in_order [] e = refl
none_in_order (y ∷ ys) e = absurd (omega (arith, length-in_order (y ∷ ys), ap length e))

list_in_order : (o : Option Standing) (ys : List Standing) → in_order ys ≡ option_to_list o → ys ≡ option_to_list o
list_in_order None ys e = none_in_order ys e
list_in_order (Some x) ys e = one_in_order x ys e

-- the place of who leaves a chip of the set
abbrev pub place_left : Routing → ℕ → ℕ → List Standing → ℕ → Option ℕ
place_left routing cap d set c = leaving_place (way_of routing c d) cap d (buffer c set)

-- who comes from a chip is its leaver
pub comers_from : (routing : Routing) (cap d cycle c : ℕ) (set : List Standing) → IsRising (queue c set) →
    comers (leaves routing cap d set) d cycle (standing_at c set) ≡ map (record_across d cycle)
    (option_to_list (element_at (queue c set) (place_left routing cap d set c)))
comers_from routing cap d cycle c set h =
    let l : Option Standing = leaver (way_of routing c d) cap d c set in
    ap (map (record_across d cycle))
    (filter-standing_at (leaves routing cap d set) (has_since_of l) c set (leaves_here routing cap d c set)
    ∙ (list_in_order l (filter (has_since_of l) (standing_at c set))
    (sym (filter-queue (has_since_of l) c set)
    ∙ leavers_of (queue c set) (place_left routing cap d set c) l h (leaver_is (way_of routing c d) cap d c set))
    ∙ ap option_to_list (leaver_is (way_of routing c d) cap d c set)))

-- who stays at a chip
stayers_at : (routing : Routing) (cap d c : ℕ) (set : List Standing) → IsRising (queue c set) →
    filter (λ r. not (leaves routing cap d set r)) (queue c set) ≡ without (queue c set) (place_left routing cap d set c)
stayers_at routing cap d c set h =
    let l : Option Standing = leaver (way_of routing c d) cap d c set in
    filter-queue_same (λ r. not (leaves routing cap d set r)) (stays_from l) c set
    (λ r e. ap not (leaves_here routing cap d c set r e))
    ∙ stayers_of (queue c set) (place_left routing cap d set c) l h (leaver_is (way_of routing c d) cap d c set)

-- the queue after a dimension step: who leaves is gone, and who comes stands last
pub queue-after_dimension : (routing : Routing) (cap d cycle c : ℕ) (set : List Standing)
    → AllBefore (time_across d cycle) set → IsRising (queue c set) → IsRising (queue (bit_xor c (2 ^ d)) set) →
    queue c (after_dimension routing cap d cycle set)
    ≡ without (queue c set) (place_left routing cap d set c)
    ++ map (record_across d cycle)
    (option_to_list (element_at (queue (bit_xor c (2 ^ d)) set) (place_left routing cap d set (bit_xor c (2 ^ d)))))
unfolding after_dimension
queue-after_dimension routing cap d cycle c set b h k =
    queue-crossed (leaves routing cap d set) d cycle c set b
    ∙ (ap (λ z. z ++ comers (leaves routing cap d set) d cycle (standing_at (bit_xor c (2 ^ d)) set))
    (stayers_at routing cap d c set h)
    ∙ ap (λ z. without (queue c set) (place_left routing cap d set c) ++ z)
    (comers_from routing cap d cycle (bit_xor c (2 ^ d)) set k))

message_of_comer : (d cycle : ℕ) (o : Option Standing)
    → messages_of (map (record_across d cycle) (option_to_list o)) ≡ option_to_list
    (option_map (message_across d) (option_map (λ r. r.message) o))
message_of_comer d cycle None = refl
message_of_comer d cycle (Some r) = refl

-- the same, told by the buffers alone
pub buffer-after_dimension : (routing : Routing) (cap d cycle c : ℕ) (set : List Standing)
    → AllBefore (time_across d cycle) set → IsRising (queue c set) → IsRising (queue (bit_xor c (2 ^ d)) set) →
    buffer c (after_dimension routing cap d cycle set)
    ≡ buffer_after_dimension (way_of routing c d) cap d (buffer c set)
    (outgoing (way_of routing (bit_xor c (2 ^ d)) d) cap d (buffer (bit_xor c (2 ^ d)) set))
unfolding buffer_after_dimension
buffer-after_dimension routing cap d cycle c set b h k =
    let across : ℕ = bit_xor c (2 ^ d) in
    let place : Option ℕ = place_left routing cap d set c in
    let there : Option ℕ = place_left routing cap d set across in
    ap messages_of (queue-after_dimension routing cap d cycle c set b h k)
    ∙ (map-append (λ r. r.message) (without (queue c set) place)
    (map (record_across d cycle) (option_to_list (element_at (queue across set) there)))
    ∙ (ap (λ z. z ++ messages_of (map (record_across d cycle) (option_to_list (element_at (queue across set) there))))
    (map-without (λ r. r.message) (queue c set) place)
    ∙ ap (λ z. without (buffer c set) place ++ z)
    (message_of_comer d cycle (element_at (queue across set) there)
    ∙ ap (λ z. option_to_list (option_map (message_across d) z))
    (sym (element_at-map (λ r. r.message) (queue across set) there)))))
