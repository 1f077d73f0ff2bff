-- What is looked for chip by chip, from the first on.
use Rattle.std.proofs.Common.{◌≡◌, ◌≢◌, ℕ, zero, suc, ◌+◌, ◌-◌, ◌^◌, ◌<◌, ◌≤◌, ◌==◌, Bool, true, false, cond, List, []}
use Rattle.std.proofs.Common.{◌∷◌, ◌++◌, length, get_or, map, Option, Some, None, refl, sym, ◌∙◌, ap, subst, arith, ⊎_elim}
use Rattle.std.proofs.lemmas.Bool.{cases_Bool, cases_eq, eqb-true}
use Rattle.std.proofs.lemmas.Bool.Decides.{nat_tests}
use Rattle.std.proofs.lemmas.List.{get_or-map, length-append, length-map, get_or_append_left}
use Rattle.std.proofs.lemmas.List.Concat.{length-flat_map}
use Rattle.std.proofs.lemmas.List.Elements.{All-nil, All-cons, All-head, All-tail, All-append}
use Rattle.std.proofs.lemmas.List.Sums.{sum_by-append, sum_by-cons}
use Rattle.std.specs.Prelude.{slice_get}
use Rattle.std.specs.List.{All, Any, cons_option, count_by, find, filter_map, flat_map, list_any, range_with_len, sum_by}
use Rattle.cm_bits.specs.declared.place.Place.{Place}
use Rattle.cm_model.specs.declared.message.Tag.{Tag}
use Rattle.cm_model.specs.declared.found.Found.TheVariants as found
use Rattle.cm_model.specs.declared.message.Message.{Message}
use Rattle.cm_model.specs.declared.message.Event.{Event}
use Rattle.cm_model.specs.declared.message.Event.TheVariants.{Injected, Delivered}
use Rattle.cm_model.specs.Account.{Triple, account, account_at, standing_triple, delivered_triple}
use Rattle.cm_model.specs.Array.{nth_or_nil}
use Rattle.cm_model.specs.Keeping.{HasTagsOnce}
use Rattle.cm_model.specs.Machine.{Machine}
use Rattle.cm_model.specs.Found.{same_tag, router_of, delivery_place, delivery_places, found_from, found_in}
use Rattle.cm_model.proofs.Counting.{sum_by-flat_map, sum_by-same}
use Rattle.cm_router.specs.Logs.{Log}
use Rattle.cm_router.specs.Rows.{logging_chip, events_of_chip, with_row}
use Rattle.cm_router.proofs.Telling.{with_row_at}
use Rattle.cm_petit.specs.Routers.{events_of}
use Rattle.cm_array.specs.Finding.{TellOf, TellNone, IsLoggedIn}

-- ---- the numbers of a range

-- the numbers from one on are that one and the next ones
range-next : (c count : ℕ) → c < count → range_with_len c (count - c) ≡ c ∷ range_with_len (c + 1) (count - (c + 1))
range-next c count l = let one : count - c ≡ suc (count - (c + 1)) = omega arith in ap (range_with_len c) one

-- the number itself passes
pub find_here : (t : ℕ → Bool) (c count : ℕ) → c < count → t c ≡ true → find t (range_with_len c (count - c)) ≡ Some c
find_here t c count l e = ap (find t) (range-next c count l) ∙ rw e refl

-- it does not, so the next ones are looked at
pub find_next : (t : ℕ → Bool) (c count : ℕ) → c < count → t c ≡ false
    → find t (range_with_len c (count - c)) ≡ find t (range_with_len (c + 1) (count - (c + 1)))
find_next t c count l e = ap (find t) (range-next c count l) ∙ rw e refl

-- ---- what stands at a chip, and what its log tells

-- the events of a log that was read
pub nth_or_nil-events_of : (logs : List Log) (c : ℕ) (log : Log) → c < length logs → log ≡ get_or logs c log
    → nth_or_nil (events_of logs) c ≡ log.items
nth_or_nil-events_of logs c log l e = get_or-map (λ (v : Log). v.items) logs c log [] l ∙ ap (λ (v : Log). v.items) (sym e)

-- ---- where the message of a tag is

-- the test whether a message of the tag stands at a chip
abbrev stands : Tag → List (List Message) → ℕ → Bool
stands tag buffers c = list_any (λ m. same_tag m.tag tag) (nth_or_nil buffers c)

-- these messages and logs, and this row, are those of a machine
pub record AreOf (n : ℕ) (machine : Machine) (messages : List (List Message)) (logs : List Log) (row : List Event)
    : Type 0 where
  pub buffers : messages ≡ machine.buffers
  pub events : with_row (events_of logs) row ≡ machine.logs
  pub buffer_count : length messages ≡ 2 ^ n
  pub log_count : length logs ≡ 2 ^ n
  -- so that a tag is delivered once
  pub once : HasTagsOnce n machine

-- delivered to the first of the places
found_at_first : (ps : List Place) (p : Place) → Some p ≡ slice_get ps 0
    → found_from None ps ≡ found.Delivered p.chip p.proc
found_at_first [] p e = absurd cc
found_at_first (q ∷ ps) p e = let same : q ≡ p = cc in
    ap (λ (place : Place). found.Delivered place.chip place.proc) same

-- nowhere, where there is no place
found_at_none : (ps : List Place) → None ≡ slice_get ps 0 → found_from None ps ≡ found.Unknown
found_at_none [] e = refl
found_at_none (q ∷ ps) e = absurd cc

-- ---- of all places there is one at most

one_told : (tag : Tag) (c : ℕ) (m : Message) (events : List Event)
    → length (filter_map (delivery_place tag) (Delivered c m ∷ events))
    ≡ cond (same_tag m.tag tag) 1 0 + length (filter_map (delivery_place tag) events)
one_told tag c m events =
    ⊎_elim (λ (h : same_tag m.tag tag ≡ true). rw h (omega arith)) (λ (h : same_tag m.tag tag ≡ false). rw h (omega arith))
    (cases_Bool (same_tag m.tag tag))

-- events tell as many places as lines of the account
told_once : (tag : Tag) (events : List Event) → length (filter_map (delivery_place tag) events)
    ≡ sum_by (λ (triple : Triple). cond (same_tag triple.tag tag) 1 0) (filter_map delivered_triple events)
told_once tag [] = refl
told_once tag (Injected m ∷ events) = told_once tag events
told_once tag (Delivered c m ∷ events) =
    one_told tag c m events ∙ ap (λ (k : ℕ). cond (same_tag m.tag tag) 1 0 + k) (told_once tag events)
    ∙ sym (sum_by-cons (λ (triple : Triple). cond (same_tag triple.tag tag) 1 0)
    (record { tag = m.tag; target = record { chip = c; proc = m.proc }; payload = m.payload })
    (filter_map delivered_triple events))

-- what is behind is no more than all
some_behind : {X : Type 0} (f : X → ℕ) (xs ys : ℕ → List X) (a k : ℕ)
    → sum_by (λ c. sum_by f (ys c)) (range_with_len a k) ≤ sum_by (λ c. sum_by f (xs c ++ ys c)) (range_with_len a k)
some_behind f xs ys a zero = omega arith
some_behind f xs ys a (suc k) =
    omega (
      arith,
      sum_by-cons (λ c. sum_by f (ys c)) a (range_with_len (a + 1) k),
      sum_by-cons (λ c. sum_by f (xs c ++ ys c)) a (range_with_len (a + 1) k),
      sum_by-append f (xs a) (ys a),
      some_behind f xs ys (a + 1) k,
    )

one_place : (n : ℕ) (machine : Machine) (tag : Tag) → HasTagsOnce n machine → length (delivery_places n machine tag) ≤ 1
unfolding account
one_place n machine tag once =
    let has : Triple → ℕ = λ triple. cond (same_tag triple.tag tag) 1 0 in
    let told : ℕ → List Triple = λ c. filter_map delivered_triple (nth_or_nil machine.logs c) in
    let stands_at : ℕ → List Triple = λ c. map (standing_triple c) (nth_or_nil machine.buffers c) in
    let all : count_by (λ triple. same_tag triple.tag tag) (account n machine)
    ≡ sum_by (λ c. sum_by has (stands_at c ++ told c)) (range_with_len 0 (2 ^ n)) =
    sum_by-flat_map has (account_at machine) (range_with_len 0 (2 ^ n)) in
    let here : ℕ → List Place = λ c. filter_map (delivery_place tag) (nth_or_nil machine.logs c) in
    let counted = length-flat_map here (range_with_len 0 (2 ^ n)) in
    let each = sum_by-same (λ c. length (here c)) (λ c. sum_by has (told c)) (range_with_len 0 (2 ^ n))
    (λ c. told_once tag (nth_or_nil machine.logs c)) in
    omega (arith, once tag, all, counted, each, some_behind has stands_at told 0 (2 ^ n))

-- ---- a place that is told is the first

any_later : {X : Type 0} (P : X → Type 0) (x : X) (xs : List X) → Any P xs → Any P (x ∷ xs)
any_later P x xs there = (suc there.0, there.1, omega (arith, there.2), there.3, there.4)

any_in_front : {X : Type 0} (P : X → Type 0) (xs ys : List X) → Any P xs → Any P (xs ++ ys)
any_in_front P xs ys there = (
  there.0,
  there.1,
  omega (arith, there.2, length-append xs ys),
  get_or_append_left xs ys there.1 there.0 there.2 ∙ there.3,
  there.4,
)

any_in_back : {X : Type 0} (P : X → Type 0) (xs ys : List X) → Any P ys → Any P (xs ++ ys)
any_in_back P [] ys there = there
any_in_back P (x ∷ xs) ys there = any_later P x (xs ++ ys) (any_in_back P xs ys there)

any_in_range : {X : Type 0} (P : X → Type 0) (f : ℕ → List X) (c a k : ℕ) → a ≤ c → c < a + k → Any P (f c)
    → Any P (flat_map f (range_with_len a k))
any_in_range P f c a zero from below there = absurd (omega (arith, from, below))
any_in_range {X} P f c a (suc k) from below there =
    ⊎_elim
    (λ (h : c ≡ a). any_in_front P (f a) (flat_map f (range_with_len (a + 1) k))
    (subst (λ (j : ℕ). Any P (f j)) h there))
    (λ (h : c ≢ a). any_in_back P (f a) (flat_map f (range_with_len (a + 1) k))
    (any_in_range P f c (a + 1) k (omega (arith, from, h)) (omega (arith, below)) there))
    (cases_eq c a)

-- what a row tells of a chip
any_told : (P : Event → Type 0) (c : ℕ) → ((e : Event) → P e → logging_chip e ≡ c) → (row : List Event) → Any P row
    → Any P (events_of_chip c row)
any_told P c says [] there = absurd (omega (arith, there.2))
any_told P c says (e ∷ row) (zero, x, inside, read, holds) =
    let here : P e = subst P (sym read) holds in
    let yes : (logging_chip e == c) ≡ true = grind (arith, nat_tests, says e here) in
    rw yes (0, e, omega arith, refl, here)
any_told P c says (e ∷ row) (suc k, x, inside, read, holds) =
    let rest = any_told P c says row (k, x, omega (arith, inside), read, holds) in
    ⊎_elim (λ (h : (logging_chip e == c) ≡ true). rw h (any_later P e (events_of_chip c row) rest))
    (λ (h : (logging_chip e == c) ≡ false). rw h rest) (cases_Bool (logging_chip e == c))

-- the places of events
any_place : (tag : Tag) (p : Place) (events : List Event) → TellOf tag p events
    → Any (λ q. q ≡ p) (filter_map (delivery_place tag) events)
any_place tag p [] there = absurd (omega (arith, there.2))
any_place tag p (e ∷ events) (zero, x, inside, read, tells) =
    let here : delivery_place tag e ≡ Some p = ap (delivery_place tag) read ∙ tells in
    rw here (0, p, omega arith, refl, refl)
any_place tag p (e ∷ events) (suc k, x, inside, read, tells) =
    more (delivery_place tag e) (any_place tag p events (k, x, omega (arith, inside), read, tells))
  where
    more : (o : Option Place) → Any (λ q. q ≡ p) (filter_map (delivery_place tag) events)
        → Any (λ q. q ≡ p) (cons_option o (filter_map (delivery_place tag) events))
    more None there = there
    more (Some q) there = any_later (λ z. z ≡ p) q (filter_map (delivery_place tag) events) there

chip_of : Option Place → ℕ
chip_of None = 0
chip_of (Some p) = p.chip

pub place_of_teller : (tag : Tag) (p : Place) (e : Event) → delivery_place tag e ≡ Some p → logging_chip e ≡ p.chip
unfolding chip_of
place_of_teller tag p (Injected m) is = absurd cc
place_of_teller tag p (Delivered c m) is =
    ⊎_elim (λ (h : same_tag m.tag tag ≡ true). ap chip_of (rw h at is)) (λ (h : same_tag m.tag tag ≡ false).
    let none : None ≡ Some p = rw h at is in absurd cc)
    (cases_Bool (same_tag m.tag tag))

only_place : (p : Place) (ps : List Place) → length ps ≤ 1 → Any (λ q. q ≡ p) ps → Some p ≡ slice_get ps 0
only_place p [] few there = absurd (omega (arith, there.2))
only_place p (q ∷ []) few (zero, x, inside, read, same) = ap (λ (z : Place). Some z) (sym (read ∙ same))
only_place p (q ∷ []) few (suc k, x, inside, read, same) = absurd (omega (arith, inside))
only_place p (q ∷ r ∷ ps) few there = absurd (omega (arith, few))

-- ---- no place is told

none_told : (c count : ℕ) (tag : Tag) (row : List Event) → c < count
    → All (λ e. logging_chip e < count → delivery_place tag e ≡ None) row → TellNone tag (events_of_chip c row)
none_told c count tag [] l none = All-nil (λ e. delivery_place tag e ≡ None)
none_told c count tag (e ∷ row) l none =
    let here = All-head (λ x. logging_chip x < count → delivery_place tag x ≡ None) e row none in
    let rest = none_told c count tag row l
    (All-tail (λ x. logging_chip x < count → delivery_place tag x ≡ None) e row none) in
    ⊎_elim
    (λ (h : (logging_chip e == c) ≡ true).
    let of : logging_chip e ≡ c = eqb-true (logging_chip e) c h in
    rw h (All-cons (λ x. delivery_place tag x ≡ None) e (events_of_chip c row) (here (omega (arith, of, l))) rest))
    (λ (h : (logging_chip e == c) ≡ false). rw h rest) (cases_Bool (logging_chip e == c))

no_place : (tag : Tag) (events : List Event) → TellNone tag events → filter_map (delivery_place tag) events ≡ []
no_place tag [] none = refl
no_place tag (e ∷ events) none =
    let here : delivery_place tag e ≡ None = All-head (λ x. delivery_place tag x ≡ None) e events none in
    rw here (no_place tag events (All-tail (λ x. delivery_place tag x ≡ None) e events none))

none_in_range : {X : Type 0} (f : ℕ → List X) (a k : ℕ) → ((c : ℕ) → a ≤ c → c < a + k → f c ≡ [])
    → flat_map f (range_with_len a k) ≡ []
none_in_range f a zero none = refl
none_in_range f a (suc k) none =
    rw (none a (omega arith) (omega arith))
    (none_in_range f (a + 1) k (λ c l m. none c (omega (arith, l)) (omega (arith, m))))

-- ---- where the message of a tag is found

module _ (n : ℕ) (machine : Machine) (tag : Tag) (buffers : List (List Message)) (logs : List Log) (row : List Event)
    (are : AreOf n machine buffers logs row) where
  here : ℕ → List Place
  here c = filter_map (delivery_place tag) (nth_or_nil machine.logs c)

  log_is : (c : ℕ) → c < 2 ^ n → nth_or_nil machine.logs c ≡ nth_or_nil (events_of logs) c ++ events_of_chip c row
  log_is c l =
      ap (λ lists. nth_or_nil lists c) (sym are.events)
      ∙ with_row_at (events_of logs) row c (omega (arith, l, are.log_count, length-map logs (λ (x : Log). x.items)))

  stands_in : find (stands tag buffers) (range_with_len 0 (length buffers)) ≡ router_of n machine tag
  stands_in =
      ap (λ (count : ℕ). find (stands tag buffers) (range_with_len 0 count)) are.buffer_count
      ∙ ap (λ (bs : List (List Message)). find (stands tag bs) (range_with_len 0 (2 ^ n))) are.buffers

  -- in a router
  pub found_in-router : (c : ℕ) → Some c ≡ find (stands tag buffers) (range_with_len 0 (length buffers))
      → found.Router c ≡ found_in n machine tag
  unfolding found_in
  found_in-router c is =
      ap (λ (o : Option ℕ). found_from o (delivery_places n machine tag)) (is ∙ stands_in)

  delivered_at : (c : ℕ) (place : Place) → c < 2 ^ n → TellOf tag place (nth_or_nil machine.logs c)
      → None ≡ find (stands tag buffers) (range_with_len 0 (length buffers))
      → found.Delivered place.chip place.proc ≡ found_in n machine tag
  unfolding found_in here
  delivered_at c place l tells none =
      sym (found_at_first (delivery_places n machine tag) place
      (only_place place (delivery_places n machine tag) (one_place n machine tag are.once)
      (any_in_range (λ q. q ≡ place) here c 0 (2 ^ n) (omega arith) (omega (arith, l))
      (any_place tag place (nth_or_nil machine.logs c) tells))))
      ∙ ap (λ (o : Option ℕ). found_from o (delivery_places n machine tag)) (none ∙ stands_in)

  -- delivered, as a log tells
  pub found_in-delivered : (place : Place) → IsLoggedIn tag place (events_of logs)
      → None ≡ find (stands tag buffers) (range_with_len 0 (length buffers))
      → found.Delivered place.chip place.proc ≡ found_in n machine tag
  found_in-delivered place told none =
      let below : told.chip < 2 ^ n =
      omega (arith, told.is_chip, are.log_count, length-map logs (λ (x : Log). x.items)) in
      let P : Event → Type 0 = λ e. delivery_place tag e ≡ Some place in
      delivered_at told.chip place below
      (subst (Any P) (sym (log_is told.chip below))
      (any_in_front P (nth_or_nil (events_of logs) told.chip) (events_of_chip told.chip row) told.tells)) none

  -- delivered, as the row tells
  pub found_in-told : (place : Place) → place.chip < length logs → TellOf tag place row
      → None ≡ find (stands tag buffers) (range_with_len 0 (length buffers))
      → found.Delivered place.chip place.proc ≡ found_in n machine tag
  found_in-told place there tells none =
      let below : place.chip < 2 ^ n = omega (arith, there, are.log_count) in
      let P : Event → Type 0 = λ e. delivery_place tag e ≡ Some place in
      delivered_at place.chip place below
      (subst (Any P) (sym (log_is place.chip below))
      (any_in_back P (nth_or_nil (events_of logs) place.chip) (events_of_chip place.chip row)
      (any_told P place.chip (λ e is. place_of_teller tag place e is) row tells))) none

  -- nowhere
  pub found_in-nowhere : ((c : ℕ) → c < length logs → TellNone tag (nth_or_nil (events_of logs) c))
      → All (λ e. logging_chip e < length logs → delivery_place tag e ≡ None) row
      → None ≡ find (stands tag buffers) (range_with_len 0 (length buffers)) → found.Unknown ≡ found_in n machine tag
  unfolding found_in here
  found_in-nowhere dealt told none =
      let P : Event → Type 0 = λ e. delivery_place tag e ≡ None in
      let nowhere : delivery_places n machine tag ≡ [] =
      none_in_range here 0 (2 ^ n)
      (λ c from below.
      let l : c < 2 ^ n = omega (arith, below) in
      let inside : c < length logs = omega (arith, l, are.log_count) in
      no_place tag (nth_or_nil machine.logs c)
      (subst (All P) (sym (log_is c l))
      (All-append P (nth_or_nil (events_of logs) c) (events_of_chip c row) (dealt c inside)
      (none_told c (length logs) tag row inside told)))) in
      sym (found_at_none (delivery_places n machine tag) (ap (λ (ps : List Place). slice_get ps 0) (sym nowhere)))
      ∙ ap (λ (o : Option ℕ). found_from o (delivery_places n machine tag)) (none ∙ stands_in)
