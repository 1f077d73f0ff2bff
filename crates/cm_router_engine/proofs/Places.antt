-- Places of messages, found by the tickets that stand for them.
use Rattle.std.proofs.Common.{◌≡◌, ℕ, zero, suc, ◌+◌, ◌-◌, ◌<◌, Bool, true, false, not, ◌&&◌, List, [], ◌∷◌, length, get_or}
use Rattle.std.proofs.Common.{Option, Some, None, refl, sym, ap, ◌∙◌, arith}
use Rattle.std.specs.List.{position, position_or_len}
use Rattle.std.proofs.lemmas.Bool.Decides.{nat_tests}
use Rattle.std.proofs.lemmas.List.{get_or_default}
use Rattle.std.proofs.lemmas.List.Quantifiers.{position-Some}
use Rattle.cm_model.specs.declared.message.Message.{Message}
use Rattle.cm_model.specs.Router.{has_to_cross}
use Rattle.cm_model.specs.Buffers.{element_at, is_older_one, is_older_or_none}
use Rattle.cm_router.specs.Places.{oldest_from, youngest_from}
use Rattle.cm_router.proofs.Oldest.{oldest-found, oldest-behind, youngest-found, youngest-behind}
use Rattle.cm_router_engine.specs.Standing.{no_message}

-- ---- the first that passes a test

place_found : {X : Type 0} (p : X → Bool) (xs : List X) (i : ℕ) (d : X) → i < length xs → p (get_or xs i d) ≡ true
    → ((k : ℕ) → k < i → p (get_or xs k d) ≡ false) → position_or_len p xs ≡ i
place_found p [] i d l passes none = absurd (omega (arith, l))
place_found p (x ∷ xs) zero d l passes none = rw passes refl
place_found p (x ∷ xs) (suc i) d l passes none =
    let rest : position_or_len p xs ≡ i =
    place_found p xs i d (omega (arith, l)) passes (λ k h. none (suc k) (omega (arith, h))) in
    rw (none 0 (omega arith)) (omega (arith, rest))

pub found : {X : Type 0} (p : X → Bool) (xs : List X) (i : ℕ) (d : X) → i < length xs → p (get_or xs i d) ≡ true
    → ((k : ℕ) → k < i → p (get_or xs k d) ≡ false) → Some i ≡ position p xs
found p xs i d l passes none =
    let there : position_or_len p xs ≡ i = place_found p xs i d l passes none in
    rw there (grind (arith, nat_tests, l))

pub none_found : {X : Type 0} (p : X → Bool) (xs : List X) (d : X)
    → ((k : ℕ) → k < length xs → p (get_or xs k d) ≡ false) → None ≡ position p xs
none_found {X} p xs d none = by_place (position p xs) refl
  where
    by_place : (o : Option ℕ) → position p xs ≡ o → None ≡ o
    by_place None is = refl
    by_place (Some i) is =
        let one = position-Some p xs i d is in
        absurd (let wrong : true ≡ false = sym one.1 ∙ none i one.0 in cc)

-- ---- the oldest, gone through from behind

module _ (d : ℕ) (ms : List Message) (place : ℕ) (behind : Option ℕ) (some : 0 < place) (l : place - 1 < length ms)
    (was : behind ≡ oldest_from d ms place) where
  abbrev m : Message
  m = get_or ms (place - 1) no_message

  m_is : m ≡ get_or ms (place - 1) m
  m_is = get_or_default ms (place - 1) no_message m l

  was_behind : behind ≡ oldest_from d ms (place - 1 + 1)
  was_behind = was ∙ ap (oldest_from d ms) (let next : place ≡ place - 1 + 1 = omega (arith, some) in next)

  pub older_found : (has_to_cross d (get_or ms (place - 1) no_message)
      && not (is_older_one (element_at ms behind) (get_or ms (place - 1) no_message))) ≡ true
      → Some (place - 1) ≡ oldest_from d ms (place - 1)
  older_found test = oldest-found d ms (place - 1) m behind l m_is was_behind test

  pub older_behind : (has_to_cross d (get_or ms (place - 1) no_message)
      && not (is_older_one (element_at ms behind) (get_or ms (place - 1) no_message))) ≡ false
      → behind ≡ oldest_from d ms (place - 1)
  older_behind test = oldest-behind d ms (place - 1) m behind l m_is was_behind test

-- ---- the youngest

module _ (ms : List Message) (place : ℕ) (behind : Option ℕ) (some : 0 < place) (l : place - 1 < length ms)
    (was : behind ≡ youngest_from ms place) where
  was_behind_it : behind ≡ youngest_from ms (place - 1 + 1)
  was_behind_it = was ∙ ap (youngest_from ms) (let next : place ≡ place - 1 + 1 = omega (arith, some) in next)

  pub younger_found : is_older_or_none (element_at ms behind) (get_or ms (place - 1) no_message) ≡ true
      → Some (place - 1) ≡ youngest_from ms (place - 1)
  younger_found test =
      let m : Message = get_or ms (place - 1) no_message in
      youngest-found ms (place - 1) m behind l (get_or_default ms (place - 1) no_message m l) was_behind_it test

  pub younger_behind : is_older_or_none (element_at ms behind) (get_or ms (place - 1) no_message) ≡ false
      → behind ≡ youngest_from ms (place - 1)
  younger_behind test =
      let m : Message = get_or ms (place - 1) no_message in
      youngest-behind ms (place - 1) m behind l (get_or_default ms (place - 1) no_message m l) was_behind_it test
