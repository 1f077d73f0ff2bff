-- Sorted tags: a tag that stands twice stands beside itself.
use Rattle.std.proofs.Common.{◌≡◌, ◌≢◌, ℕ, zero, suc, ◌+◌, ◌-◌, ◌<◌, ◌≤◌, ◌==◌, ◌&&◌, Bool, true, false, cond}
use Rattle.std.proofs.Common.{List, [], ◌∷◌, ◌++◌, length, map, get_or, take, refl, sym, ap, ◌∙◌, subst, ⊎_elim, arith}
use Rattle.std.proofs.lemmas.Bool.{cases_Bool, and_parts, eqb-true}
use Rattle.std.proofs.lemmas.Cmp.{nat_cmp_total, on_total, then_total, tied_itself}
use Rattle.std.proofs.lemmas.List.{map-append, append-nil, take_more, take_all, get_or_default}
use Rattle.std.proofs.lemmas.List.Concat.{flat_map-append}
use Rattle.std.proofs.lemmas.List.Elements.{All-nil, All-cons, All-head, All-tail, All-weaker}
use Rattle.std.proofs.lemmas.List.Sorted.{sum_by-IsPermutation}
use Rattle.std.proofs.lemmas.Map.Lookups.{exact_unsigned}
use Rattle.std.specs.Bool.{MatchBool}
use Rattle.std.specs.Cmp.{IsTotalOrder}
use Rattle.std.specs.List.{All, count_by, flat_map}
use Rattle.std.specs.List.Sorted.{IsPermutation, IsSorted}
use Rattle.std.specs.Ordering.{is_lt, nat_cmp, ordering_then, ordering_reverse, on}
use Rattle.std.specs.declared.cmp.Ordering.{Ordering}
use Rattle.std.specs.declared.cmp.Ordering.TheVariants.{Less, Equal, Greater}
use Rattle.cm_model.specs.declared.message.Message.{Message}
use Rattle.cm_model.specs.declared.message.Tag.{Tag}
use Rattle.cm_model.specs.Found.{same_tag}
use Rattle.cm_model.specs.Unlogged.{has_tag_twice}
use Rattle.cm_model.proofs.Counting.{sum_by-map}
use Rattle.cm_model.proofs.Unlogged.{same_tag-true, same_tag-self, counted_more, counted_yes}
use Rattle.cm_model.proofs.Unlogged.{counted_no, counted_once, counted_twice}
use Rattle.cm_array.specs.Tags.{Key, tag_key, no_key, HasEqualNeighbours, AreNeighboursApart}

-- ---- the order of keys

abbrev pub key_cmp : Key → Key → Ordering
key_cmp x y = ordering_then (ordering_then (nat_cmp x.0 y.0) (nat_cmp x.1 y.1)) (nat_cmp x.2 y.2)

key_total : IsTotalOrder key_cmp
key_total =
    let birth : IsTotalOrder (on (λ (k : Key). k.0) nat_cmp) = on_total (λ (k : Key). k.0) nat_cmp_total in
    let chip : IsTotalOrder (on (λ (k : Key). k.1) nat_cmp) = on_total (λ (k : Key). k.1) nat_cmp_total in
    let proc : IsTotalOrder (on (λ (k : Key). k.2) nat_cmp) = on_total (λ (k : Key). k.2) nat_cmp_total in
    then_total (then_total birth chip) proc

both_equal : (a b : Ordering) → ordering_then a b ≡ Equal → (a ≡ Equal) × (b ≡ Equal)
both_equal Less b e = absurd (cc)
both_equal Equal b e = (refl, e)
both_equal Greater b e = absurd (cc)

equal_keys : (x y : Key) → key_cmp x y ≡ Equal → x ≡ y
equal_keys x y e =
    let last = both_equal (ordering_then (nat_cmp x.0 y.0) (nat_cmp x.1 y.1)) (nat_cmp x.2 y.2) e in
    let first = both_equal (nat_cmp x.0 y.0) (nat_cmp x.1 y.1) last.0 in
    let birth : x.0 ≡ y.0 = exact_unsigned x.0 y.0 first.0 in
    let chip : x.1 ≡ y.1 = exact_unsigned x.1 y.1 first.1 in
    let proc : x.2 ≡ y.2 = exact_unsigned x.2 y.2 last.1 in
    λ i. (birth i, chip i, proc i)

-- one that is not below another, and is another one, is above it
not_less : (a : Ordering) → is_lt a ≡ false → (a ≡ Equal → ⊥) → ordering_reverse a ≡ Less
not_less Less falls apart = absurd (cc)
not_less Equal falls apart = absurd (apart refl)
not_less Greater falls apart = refl

above_neighbour : (x y : Key) → is_lt (key_cmp y x) ≡ false → x ≢ y → key_cmp x y ≡ Less
above_neighbour x y falls apart =
    key_total.antisymm x y ∙ not_less (key_cmp y x) falls (λ e. apart (sym (equal_keys y x e)))

-- ---- keys that rise

-- each key is below the next one
abbrev Rise : List Key → Type 0
Rise keys = (k : ℕ) → suc k < length keys → key_cmp (get_or keys k no_key) (get_or keys (suc k) no_key) ≡ Less

rise_after : (x : Key) (keys : List Key) → Rise (x ∷ keys) → Rise keys
rise_after x keys rise k h = rise (suc k) (omega arith)

below_others : (x : Key) (keys : List Key) → Rise (x ∷ keys) → All (λ y. key_cmp x y ≡ Less) keys
below_others x [] rise = All-nil (λ (y : Key). key_cmp x y ≡ Less)
below_others x (y ∷ keys) rise =
    let first : key_cmp x y ≡ Less = rise 0 (omega arith) in
    All-cons (λ (z : Key). key_cmp x z ≡ Less) y keys first
    (All-weaker (λ (z : Key). key_cmp y z ≡ Less) (λ (z : Key). key_cmp x z ≡ Less)
    (λ z e. key_total.trans x y z first e) keys
    (below_others y keys (rise_after x (y ∷ keys) rise)))

-- ---- how often a tag stands there

abbrev tag_of : Key → Tag
tag_of k = record { chip = k.1; proc = k.2; birth = k.0 }

abbrev pub is_of : Tag → Key → Bool
is_of tag k = same_tag (tag_of k) tag

same_key : (tag : Tag) (x y : Key) → is_of tag x ≡ true → is_of tag y ≡ true → x ≡ y
same_key tag x y first second =
    let one : tag_of x ≡ tag_of y = same_tag-true (tag_of x) tag first ∙ sym (same_tag-true (tag_of y) tag second) in
    λ i. ((one i).birth, (one i).chip, (one i).proc)

none_of : (p : Key → Bool) (keys : List Key) → All (λ y. p y ≡ false) keys → count_by p keys ≡ 0
none_of p [] none = refl
none_of p (y ∷ keys) none =
    counted_no p y keys (All-head (λ (z : Key). p z ≡ false) y keys none)
    ∙ none_of p keys (All-tail (λ (z : Key). p z ≡ false) y keys none)

other_above : (tag : Tag) (x y : Key) → is_of tag x ≡ true → key_cmp x y ≡ Less → is_of tag y ≡ false
other_above tag x y here below =
    ⊎_elim
    (λ (h : is_of tag y ≡ true).
    let tied : key_cmp x y ≡ Equal = subst (λ (z : Key). key_cmp x z ≡ Equal) (same_key tag x y here h)
    (tied_itself key_total x) in absurd (cc))
    (λ (h : is_of tag y ≡ false). h) (cases_Bool (is_of tag y))

-- keys that rise have each tag once
rising_once : (keys : List Key) → Rise keys → (tag : Tag) → count_by (is_of tag) keys ≤ 1
rising_once [] rise tag = omega arith
rising_once (x ∷ keys) rise tag =
    ⊎_elim
    (λ (h : is_of tag x ≡ true).
    let none : All (λ (y : Key). is_of tag y ≡ false) keys =
    All-weaker (λ (y : Key). key_cmp x y ≡ Less) (λ (y : Key). is_of tag y ≡ false)
    (λ y below. other_above tag x y h below) keys (below_others x keys rise) in
    omega (arith, counted_yes (is_of tag) x keys h, none_of (is_of tag) keys none))
    (λ (h : is_of tag x ≡ false). omega (
      arith,
      counted_no (is_of tag) x keys h,
      rising_once keys (rise_after x keys rise) tag,
    ))
    (cases_Bool (is_of tag x))

-- two that stand side by side are two
twice_at : (p : Key → Bool) (keys : List Key) (k : ℕ) → suc k < length keys → p (get_or keys k no_key) ≡ true
    → p (get_or keys (suc k) no_key) ≡ true → 2 ≤ count_by p keys
twice_at p [] k inside first second = absurd (omega arith)
twice_at p (x ∷ []) k inside first second = absurd (omega arith)
twice_at p (x ∷ y ∷ keys) zero inside first second =
    omega (arith, counted_yes p x (y ∷ keys) first, counted_yes p y keys second)
twice_at p (x ∷ y ∷ keys) (suc k) inside first second =
    omega (arith, counted_more p x (y ∷ keys), twice_at p (y ∷ keys) k (omega arith) first second)

-- ---- tags of messages, and their sorted keys

sorted_count : (ms : List Message) (keys : List Key) → IsPermutation (map tag_key ms) keys → (tag : Tag)
    → count_by (is_of tag) keys ≡ count_by (λ m. same_tag m.tag tag) ms
sorted_count ms keys moved tag =
    sum_by-IsPermutation (λ (k : Key). cond (is_of tag k) 1 0) (map tag_key ms) keys moved
    ∙ sum_by-map (λ (k : Key). cond (is_of tag k) 1 0) tag_key ms

rise_of : (keys : List Key) → IsSorted key_cmp keys → AreNeighboursApart keys → Rise keys
rise_of keys sorted apart k h =
    let next : k + 1 ≡ suc k = omega arith in
    subst (λ (j : ℕ). key_cmp (get_or keys k no_key) (get_or keys j no_key) ≡ Less) next
    (above_neighbour (get_or keys k no_key) (get_or keys (k + 1) no_key) (sorted k no_key (omega arith) (omega arith))
    (apart k (omega arith)))

twice : (ms : List Message) (keys : List Key) → IsPermutation (map tag_key ms) keys → HasEqualNeighbours keys
    → has_tag_twice ms ≡ true
twice ms keys moved found =
    let x : Key = get_or keys found.place no_key in
    let here : is_of (tag_of x) x ≡ true = same_tag-self (tag_of x) in
    let one : found.place + 1 ≡ suc found.place = omega arith in
    let same : x ≡ get_or keys (suc found.place) no_key = found.same ∙ ap (λ (k : ℕ). get_or keys k no_key) one in
    let next : is_of (tag_of x) (get_or keys (suc found.place) no_key) ≡ true =
    subst (λ (y : Key). is_of (tag_of x) y ≡ true) same here in
    let inside : suc found.place < length keys = omega (arith, found.inside) in
    let both : 2 ≤ count_by (is_of (tag_of x)) keys = twice_at (is_of (tag_of x)) keys found.place inside here next in
    ⊎_elim (λ (h : has_tag_twice ms ≡ true). h)
    (λ (h : has_tag_twice ms ≡ false).
    absurd (omega (arith, both, sorted_count ms keys moved (tag_of x), counted_once ms h (tag_of x))))
    (cases_Bool (has_tag_twice ms))

once : (ms : List Message) (keys : List Key) → IsPermutation (map tag_key ms) keys → IsSorted key_cmp keys
    → AreNeighboursApart keys → has_tag_twice ms ≡ false
once ms keys moved sorted apart =
    ⊎_elim
    (λ (h : has_tag_twice ms ≡ true).
    let found = counted_twice ms h in
    absurd
    (omega (arith, found.1, sorted_count ms keys moved found.0, rising_once keys (rise_of keys sorted apart) found.0)))
    (λ (h : has_tag_twice ms ≡ false). h) (cases_Bool (has_tag_twice ms))

-- whether sorted keys have equal neighbours is whether a tag stands twice
pub found_by_sorting : (b : Bool) (ms : List Message) (keys : List Key) → IsPermutation (map tag_key ms) keys
    → IsSorted key_cmp keys
    → MatchBool b (HasEqualNeighbours keys) (AreNeighboursApart keys) → b ≡ has_tag_twice ms
found_by_sorting true ms keys moved sorted found = sym (twice ms keys moved found)
found_by_sorting false ms keys moved sorted apart = sym (once ms keys moved sorted apart)

-- ---- two that were compared

same_parts : (x y : Key) → ((x.0 == y.0) && (x.1 == y.1)) && (x.2 == y.2) ≡ true → x ≡ y
same_parts x y e =
    let last = and_parts ((x.0 == y.0) && (x.1 == y.1)) (x.2 == y.2) e in
    let first = and_parts (x.0 == y.0) (x.1 == y.1) last.0 in
    let birth : x.0 ≡ y.0 = eqb-true x.0 y.0 first.0 in
    let chip : x.1 ≡ y.1 = eqb-true x.1 y.1 first.1 in
    let proc : x.2 ≡ y.2 = eqb-true x.2 y.2 last.1 in
    λ i. (birth i, chip i, proc i)

pub equal_neighbours : (keys : List Key) (i : ℕ) → 1 ≤ i → i < length keys
    → (((get_or keys (i - 1) no_key).0 == (get_or keys i no_key).0) &&
    ((get_or keys (i - 1) no_key).1 == (get_or keys i no_key).1)) &&
    ((get_or keys (i - 1) no_key).2 == (get_or keys i no_key).2) ≡ true
    → HasEqualNeighbours keys
equal_neighbours keys i some inside e =
    let next : i ≡ i - 1 + 1 = omega arith in
    record {
      place = i - 1;
      inside = omega arith;
      same = same_parts (get_or keys (i - 1) no_key) (get_or keys i no_key) e
          ∙ ap (λ (k : ℕ). get_or keys k no_key) next;
    }

-- ---- all keys

-- the keys of a chip more
pub keys_more : (buffers : List (List Message)) (i : ℕ) (ms : List Message) (before after : List Key)
    → i < length buffers → ms ≡ get_or buffers i []
    → before ≡ map tag_key (flat_map (λ buffer. buffer) (take i buffers))
    → after ≡ before ++ map tag_key ms
    → after ≡ map tag_key (flat_map (λ buffer. buffer) (take (i + 1) buffers))
keys_more buffers i ms before after inside read is more =
    let so_far : List (List Message) = take i buffers in
    let here : ms ≡ get_or buffers i ms = read ∙ get_or_default buffers i [] ms inside in
    let next : take (i + 1) buffers ≡ so_far ++ ms ∷ [] = take_more buffers i ms inside
    ∙ ap (λ (buffer : List Message). so_far ++ buffer ∷ []) (sym here) in
    let gathered : flat_map (λ (buffer : List Message). buffer) (take (i + 1) buffers)
    ≡ flat_map (λ buffer. buffer) so_far ++ ms =
    ap (flat_map (λ (buffer : List Message). buffer)) next
    ∙ (flat_map-append (λ (buffer : List Message). buffer) so_far (ms ∷ [])
    ∙ ap (λ (tail : List Message). flat_map (λ (buffer : List Message). buffer) so_far ++ tail) (append-nil ms)) in
    more
    ∙ (ap (λ (ks : List Key). ks ++ map tag_key ms) is
    ∙ (sym (map-append tag_key (flat_map (λ buffer. buffer) so_far) ms) ∙ sym (ap (map tag_key) gathered)))

-- of all chips
pub keys_all : (buffers : List (List Message)) (i : ℕ) (keys : List Key) → length buffers ≤ i
    → keys ≡ map tag_key (flat_map (λ buffer. buffer) (take i buffers))
    → keys ≡ map tag_key (flat_map (λ buffer. buffer) buffers)
keys_all buffers i keys done is = is
    ∙ ap (λ (bs : List (List Message)). map tag_key (flat_map (λ (buffer : List Message). buffer) bs))
    (take_all i buffers done)
