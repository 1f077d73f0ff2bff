-- Tags and births of a machine without logs: its account is the messages in its buffers.
use Rattle.std.proofs.Common.{◌≡◌, ℕ, zero, suc, ◌+◌, ◌<◌, ◌≤◌, ◌^◌, ◌&&◌, ◌==◌, Bool, true, false, cond, List, [], ◌∷◌}
use Rattle.std.proofs.Common.{◌++◌, length, map, refl, sym, ap, ◌∙◌, subst, ⊎_elim, arith}
use Rattle.std.proofs.lemmas.Bool.{cases_Bool, and_parts, and_from, eqb-true, eq-eqb, or_parts, or_cases}
use Rattle.std.proofs.lemmas.List.{append-nil}
use Rattle.std.proofs.lemmas.List.Elements.{All-nil, All-head, All-tail, All-cons, All-append}
use Rattle.std.proofs.lemmas.List.Folds.{flat_map-map}
use Rattle.std.proofs.lemmas.List.Sums.{sum_by-cons}
use Rattle.std.specs.List.{All, count_by, sum_by, list_any, flat_map, filter_map, range_with_len}
use Rattle.cm_model.specs.declared.message.Message.{Message}
use Rattle.cm_model.specs.declared.message.Tag.{Tag}
use Rattle.cm_model.specs.declared.message.Event.{Event}
use Rattle.cm_model.specs.Each.{tabulate}
use Rattle.cm_model.specs.Array.{nth_or_nil}
use Rattle.cm_model.specs.Machine.{Machine}
use Rattle.cm_model.specs.Found.{same_tag}
use Rattle.cm_model.specs.Account.{Triple, standing_triple, delivered_triple, injected_triple, account_at}
use Rattle.cm_model.specs.Account.{account, all_injected, HasLines}
use Rattle.cm_model.specs.Keeping.{BornBefore, HasTagsOnce}
use Rattle.cm_model.specs.Unlogged.{IsUnlogged, standing_messages, has_tag_twice}
use Rattle.cm_model.proofs.Each.{get_or-each_below, is_each}
use Rattle.cm_model.proofs.Counting.{sum_by-map, sum_by-flat_map, sum_by-range}

-- ---- one tag twice

abbrev of_tag : Tag → Message → Bool
of_tag tag m = same_tag m.tag tag

pub same_tag-true : (s t : Tag) → same_tag s t ≡ true → s ≡ t
same_tag-true s t e =
    let first = and_parts (s.chip == t.chip) (s.proc == t.proc && s.birth == t.birth) e in
    let others = and_parts (s.proc == t.proc) (s.birth == t.birth) first.1 in
    let chip : s.chip ≡ t.chip = eqb-true s.chip t.chip first.0 in
    let proc : s.proc ≡ t.proc = eqb-true s.proc t.proc others.0 in
    let birth : s.birth ≡ t.birth = eqb-true s.birth t.birth others.1 in
    λ i. record { chip = chip i; proc = proc i; birth = birth i }

pub same_tag-self : (t : Tag) → same_tag t t ≡ true
same_tag-self t =
    and_from (t.chip == t.chip) (t.proc == t.proc && t.birth == t.birth) (eq-eqb t.chip t.chip refl)
    (and_from (t.proc == t.proc) (t.birth == t.birth) (eq-eqb t.proc t.proc refl) (eq-eqb t.birth t.birth refl))

pub counted_more : {X : Type 0} (p : X → Bool) (x : X) (xs : List X)
    → count_by p (x ∷ xs) ≡ cond (p x) 1 0 + count_by p xs
counted_more p x xs = sum_by-cons (λ y. cond (p y) 1 0) x xs

pub counted_yes : {X : Type 0} (p : X → Bool) (x : X) (xs : List X) → p x ≡ true
    → count_by p (x ∷ xs) ≡ 1 + count_by p xs
counted_yes p x xs e = counted_more p x xs ∙ ap (λ (b : Bool). cond b 1 0 + count_by p xs) e

pub counted_no : {X : Type 0} (p : X → Bool) (x : X) (xs : List X) → p x ≡ false → count_by p (x ∷ xs) ≡ count_by p xs
counted_no p x xs e = counted_more p x xs ∙ (ap (λ (b : Bool). cond b 1 0 + count_by p xs) e ∙ omega arith)

none_counted : {X : Type 0} (p : X → Bool) (xs : List X) → list_any p xs ≡ false → count_by p xs ≡ 0
none_counted p [] e = refl
none_counted p (x ∷ xs) e =
    let parts = or_parts (p x) (list_any p xs) e in
    counted_no p x xs parts.0 ∙ none_counted p xs parts.1

some_counted : {X : Type 0} (p : X → Bool) (xs : List X) → list_any p xs ≡ true → 1 ≤ count_by p xs
some_counted p [] e = absurd (cc)
some_counted p (x ∷ xs) e =
    ⊎_elim (λ (h : p x ≡ true). omega (arith, counted_yes p x xs h))
    (λ (h : list_any p xs ≡ true). omega (arith, counted_more p x xs, some_counted p xs h))
    (or_cases (p x) (list_any p xs) e)

-- where no tag stands twice each is counted once
pub counted_once : (ms : List Message) → has_tag_twice ms ≡ false → (tag : Tag) → count_by (of_tag tag) ms ≤ 1
counted_once [] e tag = omega arith
counted_once (m ∷ ms) e tag =
    let parts = or_parts (list_any (λ q. same_tag q.tag m.tag) ms) (has_tag_twice ms) e in
    ⊎_elim
    (λ (h : same_tag m.tag tag ≡ true).
    let none : list_any (of_tag tag) ms ≡ false = subst (λ (t : Tag). list_any (of_tag t) ms ≡ false)
    (same_tag-true m.tag tag h) parts.0 in
    omega (arith, counted_yes (of_tag tag) m ms h, none_counted (of_tag tag) ms none))
    (λ (h : same_tag m.tag tag ≡ false). omega (arith, counted_no (of_tag tag) m ms h, counted_once ms parts.1 tag))
    (cases_Bool (same_tag m.tag tag))

-- where one does it is counted twice
pub counted_twice : (ms : List Message) → has_tag_twice ms ≡ true → (tag : Tag) × (2 ≤ count_by (of_tag tag) ms)
counted_twice [] e = absurd (cc)
counted_twice (m ∷ ms) e =
    ⊎_elim
    (λ (h : list_any (λ q. same_tag q.tag m.tag) ms ≡ true).
    let both : 2 ≤ count_by (of_tag m.tag) (m ∷ ms) =
    omega (arith, counted_yes (of_tag m.tag) m ms (same_tag-self m.tag), some_counted (of_tag m.tag) ms h) in
    let found : (tag : Tag) × (2 ≤ count_by (of_tag tag) (m ∷ ms)) = (m.tag, both) in found)
    (λ (h : has_tag_twice ms ≡ true).
    let rest = counted_twice ms h in
    let both : 2 ≤ count_by (of_tag rest.0) (m ∷ ms) = omega (arith, counted_more (of_tag rest.0) m ms, rest.1) in
    let found : (tag : Tag) × (2 ≤ count_by (of_tag tag) (m ∷ ms)) = (rest.0, both) in found)
    (or_cases (list_any (λ q. same_tag q.tag m.tag) ms) (has_tag_twice ms) e)

-- ---- the messages of a machine

abbrev pub standing : ℕ → Machine → List Message
standing n machine = flat_map (λ c. nth_or_nil machine.buffers c) (range_with_len 0 (2 ^ n))

-- one buffer for each chip: all messages that stand there, chip by chip
pub standing-all : (n : ℕ) (machine : Machine) → length machine.buffers ≡ 2 ^ n
    → standing_messages machine ≡ standing n machine
unfolding tabulate
standing-all n machine long =
    let each : machine.buffers ≡ tabulate 0 (2 ^ n) (λ c. nth_or_nil machine.buffers c) =
    is_each [] (2 ^ n) (λ c. nth_or_nil machine.buffers c) machine.buffers long (λ c h. refl) in
    ap (λ (buffers : List (List Message)). flat_map (λ buffer. buffer) buffers) each
    ∙ flat_map-map (λ (buffer : List Message). buffer) (λ c. nth_or_nil machine.buffers c) (range_with_len 0 (2 ^ n))

-- ---- no log

no_log : (n : ℕ) (machine : Machine) (c : ℕ) → IsUnlogged n machine → c < 2 ^ n → nth_or_nil machine.logs c ≡ []
no_log n machine c none h = ap (λ (logs : List (List Event)). nth_or_nil logs c) none
    ∙ get_or-each_below (2 ^ n) (λ b. []) c [] h

no_delivery : (n : ℕ) (machine : Machine) (c : ℕ) → IsUnlogged n machine → c < 2 ^ n
    → account_at machine c ≡ map (standing_triple c) (nth_or_nil machine.buffers c)
no_delivery n machine c none h =
    ap (λ (log : List Event). map (standing_triple c) (nth_or_nil machine.buffers c) ++ filter_map delivered_triple log)
    (no_log n machine c none h)
    ∙ append-nil (map (standing_triple c) (nth_or_nil machine.buffers c))

nothing_gathered : {X : Type 0} (f : ℕ → List X) (first count : ℕ) → ((c : ℕ) → c < first + count → f c ≡ [])
    → flat_map f (range_with_len first count) ≡ []
nothing_gathered f first zero none = refl
nothing_gathered f first (suc count) none = λ i. none first (omega arith) i ++ nothing_gathered f (first + 1) count
    (λ c h. none c (omega arith)) i

pub none_injected : (n : ℕ) (machine : Machine) → IsUnlogged n machine
    → HasLines (all_injected n machine) (account n machine)
unfolding all_injected
none_injected n machine none kind =
    let empty : flat_map (λ c. filter_map injected_triple (nth_or_nil machine.logs c)) (range_with_len 0 (2 ^ n))
    ≡ [] =
    nothing_gathered (λ c. filter_map injected_triple (nth_or_nil machine.logs c)) 0 (2 ^ n)
    (λ c h. ap (filter_map injected_triple) (no_log n machine c none (omega arith))) in
    let count : count_by kind (flat_map (λ c. filter_map injected_triple (nth_or_nil machine.logs c))
    (range_with_len 0 (2 ^ n))) ≡ 0 = ap (count_by kind) empty in
    omega (arith, count)

-- ---- tags

pub tags_counted : (n : ℕ) (machine : Machine) (tag : Tag) → IsUnlogged n machine
    → count_by (λ triple. same_tag triple.tag tag) (account n machine) ≡ count_by (of_tag tag) (standing n machine)
unfolding account
tags_counted n machine tag none =
    sum_by-flat_map (λ (triple : Triple). cond (same_tag triple.tag tag) 1 0) (account_at machine)
    (range_with_len 0 (2 ^ n))
    ∙ (sum_by-range (λ c. sum_by (λ (triple : Triple). cond (same_tag triple.tag tag) 1 0) (account_at machine c))
    (λ c. sum_by (λ (m : Message). cond (same_tag m.tag tag) 1 0) (nth_or_nil machine.buffers c)) 0 (2 ^ n)
    (λ c l h. ap (sum_by (λ (triple : Triple). cond (same_tag triple.tag tag) 1 0))
    (no_delivery n machine c none (omega arith))
    ∙ sum_by-map (λ (triple : Triple). cond (same_tag triple.tag tag) 1 0) (standing_triple c)
    (nth_or_nil machine.buffers c))
    ∙ sym (sum_by-flat_map (λ (m : Message). cond (same_tag m.tag tag) 1 0) (λ c. nth_or_nil machine.buffers c)
    (range_with_len 0 (2 ^ n))))

-- a machine whose tags stand once has none twice in its buffers
pub tags_stand_once : (n : ℕ) (machine : Machine) → IsUnlogged n machine → HasTagsOnce n machine
    → has_tag_twice (standing n machine) ≡ false
tags_stand_once n machine none once =
    ⊎_elim
    (λ (h : has_tag_twice (standing n machine) ≡ true).
    let found = counted_twice (standing n machine) h in
    absurd (omega (arith, tags_counted n machine found.0 none, once found.0, found.1)))
    (λ (h : has_tag_twice (standing n machine) ≡ false). h) (cases_Bool (has_tag_twice (standing n machine)))

pub HasTagsOnce-standing : (n : ℕ) (machine : Machine) → IsUnlogged n machine
    → has_tag_twice (standing n machine) ≡ false → HasTagsOnce n machine
HasTagsOnce-standing n machine none once tag =
    omega (arith, tags_counted n machine tag none, counted_once (standing n machine) once tag)

-- ---- births

All-front : {X : Type 0} (P : X → Type 0) (xs ys : List X) → All P (xs ++ ys) → All P xs
All-front P [] ys all = All-nil P
All-front P (x ∷ xs) ys all = All-cons P x xs (All-head P x (xs ++ ys) all)
    (All-front P xs ys (All-tail P x (xs ++ ys) all))

All-back : {X : Type 0} (P : X → Type 0) (xs ys : List X) → All P (xs ++ ys) → All P ys
All-back P [] ys all = all
All-back P (x ∷ xs) ys all = All-back P xs ys (All-tail P x (xs ++ ys) all)

all_gathered : {X : Type 0} (P : X → Type 0) (f : ℕ → List X) (first count : ℕ)
    → ((c : ℕ) → c < first + count → All P (f c)) → All P (flat_map f (range_with_len first count))
all_gathered P f first zero all = All-nil P
all_gathered P f first (suc count) all =
    All-append P (f first) (flat_map f (range_with_len (first + 1) count)) (all first (omega arith))
    (all_gathered P f (first + 1) count (λ c h. all c (omega arith)))

each_gathered : {X : Type 0} (P : X → Type 0) (f : ℕ → List X) (first count i : ℕ)
    → All P (flat_map f (range_with_len first count)) → i < count → All P (f (first + i))
each_gathered P f first zero i all h = absurd (omega arith)
each_gathered {X} P f first (suc count) zero all h =
    let here : first ≡ first + 0 = omega arith in
    subst (λ (c : ℕ). All P (f c)) here (All-front P (f first) (flat_map f (range_with_len (first + 1) count)) all)
each_gathered {X} P f first (suc count) (suc i) all h =
    let there : first + 1 + i ≡ first + suc i = omega arith in
    subst (λ (c : ℕ). All P (f c)) there
    (each_gathered P f (first + 1) count i (All-back P (f first) (flat_map f (range_with_len (first + 1) count)) all)
    (omega arith))

-- a message was born before this count of petit cycles
abbrev pub IsBorn : ℕ → Message → Type 0
IsBorn clock m = m.tag.birth < clock

abbrev IsBornLine : ℕ → Triple → Type 0
IsBornLine clock triple = triple.tag.birth < clock

born_lines : (clock c : ℕ) (ms : List Message) → All (IsBorn clock) ms
    → All (IsBornLine clock) (map (standing_triple c) ms)
born_lines clock c [] all = All-nil (IsBornLine clock)
born_lines clock c (m ∷ ms) all =
    All-cons (IsBornLine clock) (standing_triple c m) (map (standing_triple c) ms) (All-head (IsBorn clock) m ms all)
    (born_lines clock c ms (All-tail (IsBorn clock) m ms all))

born_messages : (clock c : ℕ) (ms : List Message) → All (IsBornLine clock) (map (standing_triple c) ms)
    → All (IsBorn clock) ms
born_messages clock c [] all = All-nil (IsBorn clock)
born_messages clock c (m ∷ ms) all =
    All-cons (IsBorn clock) m ms (All-head (IsBornLine clock) (standing_triple c m) (map (standing_triple c) ms) all)
    (born_messages clock c ms (All-tail (IsBornLine clock) (standing_triple c m) (map (standing_triple c) ms) all))

pub BornBefore-buffers : (n : ℕ) (machine : Machine) → IsUnlogged n machine
    → ((c : ℕ) → c < 2 ^ n → All (IsBorn machine.clock) (nth_or_nil machine.buffers c)) → BornBefore n machine
unfolding account
BornBefore-buffers n machine none all =
    all_gathered (IsBornLine machine.clock) (account_at machine) 0 (2 ^ n)
    (λ c h. subst (λ (lines : List Triple). All (IsBornLine machine.clock) lines)
    (sym (no_delivery n machine c none (omega arith)))
    (born_lines machine.clock c (nth_or_nil machine.buffers c) (all c (omega arith))))

pub born_at : (n : ℕ) (machine : Machine) (c : ℕ) → BornBefore n machine → c < 2 ^ n
    → All (IsBorn machine.clock) (nth_or_nil machine.buffers c)
unfolding account
born_at n machine c born h =
    let lines : All (IsBornLine machine.clock) (account_at machine (0 + c)) =
    each_gathered (IsBornLine machine.clock) (account_at machine) 0 (2 ^ n) c born h in
    let same : 0 + c ≡ c = omega arith in
    born_messages machine.clock c (nth_or_nil machine.buffers c)
    (All-front (IsBornLine machine.clock) (map (standing_triple c) (nth_or_nil machine.buffers c))
    (filter_map delivered_triple (nth_or_nil machine.logs c))
    (subst (λ (b : ℕ). All (IsBornLine machine.clock) (account_at machine b)) same lines))
