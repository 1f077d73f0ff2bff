-- A tag whose birth is still to come is of no message.
use Rattle.std.proofs.Common.{◌≡◌, ℕ, zero, suc, ◌+◌, ◌<◌, ◌≤◌, ◌^◌, Bool, true, false, cond, List, [], ◌∷◌, ◌++◌}
use Rattle.std.proofs.Common.{map, Some, None, refl, ap, subst, arith}
use Rattle.std.proofs.lemmas.List.Elements.{All-nil, All-head, All-tail, All-cons}
use Rattle.std.specs.List.{All, flat_map, filter_map, range_with_len}
use Rattle.cm_bits.specs.declared.place.Place.{Place}
use Rattle.cm_model.specs.declared.message.Message.{Message}
use Rattle.cm_model.specs.declared.message.Tag.{Tag}
use Rattle.cm_model.specs.declared.message.Event.{Event}
use Rattle.cm_model.specs.declared.message.Event.TheVariants.{Injected, Delivered}
use Rattle.cm_model.specs.declared.found.Found.{Found}
use Rattle.cm_model.specs.declared.found.Found.TheVariants as found
use Rattle.cm_model.specs.Account.{Triple, standing_triple, delivered_triple, account_at, account}
use Rattle.cm_model.specs.Array.{nth_or_nil}
use Rattle.cm_model.specs.Found.{same_tag, delivery_place, found_in, IsWhereabouts, StandsAt, WasDelivered}
use Rattle.cm_model.specs.Keeping.{BornBefore}
use Rattle.cm_model.specs.Machine.{Machine}
use Rattle.cm_model.proofs.Finding.{messages_are_found}
use Rattle.cm_model.proofs.Unlogged.{same_tag-true, born_at}

-- what holds of two lists holds of each
first_part : {X : Type 0} (P : X → Type 0) (xs ys : List X) → All P (xs ++ ys) → All P xs
first_part P [] ys all = All-nil P
first_part P (x ∷ xs) ys all =
    All-cons P x xs (All-head P x (xs ++ ys) all) (first_part P xs ys (All-tail P x (xs ++ ys) all))

second_part : {X : Type 0} (P : X → Type 0) (xs ys : List X) → All P (xs ++ ys) → All P ys
second_part P [] ys all = all
second_part P (x ∷ xs) ys all = second_part P xs ys (All-tail P x (xs ++ ys) all)

-- and of what each number of a range gives
each_part : {X : Type 0} (P : X → Type 0) (f : ℕ → List X) (first count i : ℕ)
    → All P (flat_map f (range_with_len first count)) → i < count → All P (f (first + i))
each_part P f first zero i all inside = absurd (omega arith)
each_part {X} P f first (suc count) zero all inside =
    let here : first ≡ first + 0 = omega arith in
    subst (λ (c : ℕ). All P (f c)) here (first_part P (f first) (flat_map f (range_with_len (first + 1) count)) all)
each_part {X} P f first (suc count) (suc i) all inside =
    let there : first + 1 + i ≡ first + suc i = omega arith in
    subst (λ (c : ℕ). All P (f c)) there
    (each_part P f (first + 1) count i (second_part P (f first) (flat_map f (range_with_len (first + 1) count)) all)
    (omega arith))

-- ---- births

abbrev IsBornLine : ℕ → Triple → Type 0
IsBornLine clock triple = triple.tag.birth < clock

-- what an event tells was delivered was born before this count of petit cycles
abbrev IsOfBorn : ℕ → Event → Type 0
IsOfBorn clock (Injected m) = Unit {0}
IsOfBorn clock (Delivered c m) = m.tag.birth < clock

born_events : (clock : ℕ) (events : List Event) → All (IsBornLine clock) (filter_map delivered_triple events)
    → All (IsOfBorn clock) events
born_events clock [] all = All-nil (IsOfBorn clock)
born_events clock (Injected m ∷ events) all =
    All-cons (IsOfBorn clock) (Injected m) events tt (born_events clock events all)
born_events clock (Delivered c m ∷ events) all =
    let line : Triple = record { tag = m.tag; target = record { chip = c; proc = m.proc }; payload = m.payload } in
    All-cons (IsOfBorn clock) (Delivered c m) events
    (All-head (IsBornLine clock) line (filter_map delivered_triple events) all)
    (born_events clock events (All-tail (IsBornLine clock) line (filter_map delivered_triple events) all))

born_in_log : (n : ℕ) (machine : Machine) (c : ℕ) → BornBefore n machine → c < 2 ^ n
    → All (IsOfBorn machine.clock) (nth_or_nil machine.logs c)
unfolding account
born_in_log n machine c born inside =
    let lines : All (IsBornLine machine.clock) (account_at machine (0 + c)) =
    each_part (IsBornLine machine.clock) (account_at machine) 0 (2 ^ n) c born inside in
    let same : 0 + c ≡ c = omega arith in
    born_events machine.clock (nth_or_nil machine.logs c)
    (second_part (IsBornLine machine.clock) (map (standing_triple c) (nth_or_nil machine.buffers c))
    (filter_map delivered_triple (nth_or_nil machine.logs c))
    (subst (λ (b : ℕ). All (IsBornLine machine.clock) (account_at machine b)) same lines))

delivered_born : (clock : ℕ) (tag : Tag) (event : Event) (place : Place) → IsOfBorn clock event
    → delivery_place tag event ≡ Some place → tag.birth < clock
delivered_born clock tag (Injected m) place born gives = absurd cc
delivered_born clock tag (Delivered c m) place born gives = by (same_tag m.tag tag) refl gives where
  by : (b : Bool) → same_tag m.tag tag ≡ b
      → cond b (Some (record { chip = c; proc = m.proc })) None ≡ Some place → tag.birth < clock
  by true same gives' = subst (λ (t : Tag). t.birth < clock) (same_tag-true m.tag tag same) born
  by false same gives' = absurd cc

-- ---- where it is

not_standing : (n : ℕ) (machine : Machine) (tag : Tag) (c : ℕ) → BornBefore n machine → machine.clock ≤ tag.birth
    → c < 2 ^ n → StandsAt machine tag c → ⊥
not_standing n machine tag c born later inside stands =
    let before : stands.1.tag.birth < machine.clock =
    subst (λ (m : Message). m.tag.birth < machine.clock) stands.3
    (born_at n machine c born inside stands.0 stands.1 stands.2) in
    let same : stands.1.tag.birth ≡ tag.birth = ap (λ (t : Tag). t.birth) (same_tag-true stands.1.tag tag stands.4) in
    omega (arith, before, same, later)

not_delivered : (n : ℕ) (machine : Machine) (tag : Tag) (c : ℕ) (place : Place) → BornBefore n machine
    → machine.clock ≤ tag.birth → c < 2 ^ n → WasDelivered machine tag c place → ⊥
not_delivered n machine tag c place born later inside was =
    let event : IsOfBorn machine.clock was.1 =
    subst (IsOfBorn machine.clock) was.3 (born_in_log n machine c born inside was.0 was.1 was.2) in
    let before : tag.birth < machine.clock = delivered_born machine.clock tag was.1 place event was.4 in
    omega (arith, before, later)

pub unborn : (n : ℕ) (machine : Machine) (tag : Tag) → BornBefore n machine → machine.clock ≤ tag.birth
    → found_in n machine tag ≡ found.Unknown
unborn n machine tag born later = by (found_in n machine tag) (messages_are_found n machine tag) where
  by : (f : Found) → IsWhereabouts n machine tag f → f ≡ found.Unknown
  by (found.Router c) there = absurd (not_standing n machine tag c born later there.0 there.1)
  by (found.Delivered c p) there =
      absurd (not_delivered n machine tag there.0 (record { chip = c; proc = p }) born later there.1 there.2)
  by found.Unknown there = refl
