-- The places of the oldest and of the youngest message of a buffer.
use Rattle.std.proofs.Common.{◌≡◌, ℕ, zero, suc, ◌<◌, Bool, true, false, cond, not, ◌&&◌, ◌||◌, List, [], ◌∷◌, length, map}
use Rattle.std.proofs.Common.{Option, Some, None, refl, sym, ◌∙◌, ap, subst, ⊎_elim, arith}
use Rattle.std.proofs.lemmas.Bool.{cases_Bool, cond_both}
use Rattle.std.proofs.lemmas.Option.{slice_get-map, same_Some}
use Rattle.std.specs.List.{filter, slice_get}
use Rattle.std.specs.Option.{option_map}
use Rattle.cm_model.specs.declared.message.Message.{Message}
use Rattle.cm_model.specs.declared.rule.Rule.TheVariants.{Oldest}
use Rattle.cm_model.specs.Router.{Since, Standing, is_before, is_older, has_to_cross, goes_before}
use Rattle.cm_model.specs.Router.{first_by_rule, foremost, last_by_rule, hindmost}
use Rattle.cm_model.specs.Order.{messages_of}
use Rattle.cm_model.specs.Buffers.{element_at, one_behind, is_older_one, oldest_place, is_older_or_none, youngest_place}
use Rattle.cm_model.proofs.Order.{NoneBefore, IsSorted}

-- one place further behind in a list with one more in front
pub element_at-one_behind : {X : Type 0} (x : X) (xs : List X) (o : Option ℕ)
    → element_at (x ∷ xs) (one_behind o) ≡ element_at xs o
element_at-one_behind x xs None = refl
element_at-one_behind x xs (Some i) = refl

messages_at : (xs : List Standing) (o : Option ℕ)
    → element_at (messages_of xs) o ≡ option_map (λ r. r.message) (element_at xs o)
messages_at xs None = refl
messages_at xs (Some i) = slice_get-map (λ r. r.message) xs i

none_before_at : (s : Since) (xs : List Standing) (o : Option ℕ) (q : Standing) → NoneBefore s xs
    → Some q ≡ element_at xs o → is_before q.since s ≡ false
none_before_at s xs None q h e = absurd cc
none_before_at s [] (Some i) q h e = absurd cc
none_before_at s (x ∷ xs) (Some zero) q h e =
    subst (λ (z : Standing). is_before z.since s ≡ false) (same_Some x q (sym e)) h.0
none_before_at s (x ∷ xs) (Some (suc i)) q h e = none_before_at s xs (Some i) q h.1 e

-- where it did not come first, it goes first only if it is older
goes_before_is : (q x : Standing) → is_before q.since x.since ≡ false
    → goes_before Oldest q x ≡ is_older q.message.tag x.message.tag
goes_before_is q x b = rw b (either (is_older q.message.tag x.message.tag) (is_older x.message.tag q.message.tag))
  where
    either : (y z : Bool) → (y || (not z && false)) ≡ y
    either true z = refl
    either false true = refl
    either false false = refl

oldest_step : (x : Standing) (xs : List Standing) (o : Option ℕ) (z : Option Standing) → NoneBefore x.since xs
    → z ≡ element_at xs o →
    Some (first_by_rule Oldest x z) ≡ element_at (x ∷ xs)
    (cond (not (is_older_one (option_map (λ r. r.message) z) x.message)) (Some 0) (one_behind o))
oldest_step x xs o None h e = refl
oldest_step x xs o (Some q) h e =
    let g : goes_before Oldest q x ≡ is_older q.message.tag x.message.tag =
    goes_before_is q x (none_before_at x.since xs o q h e) in
    ⊎_elim
    (λ (b : is_older q.message.tag x.message.tag ≡ true). rw (g, b) (e ∙ sym (element_at-one_behind x xs o)))
    (λ (b : is_older q.message.tag x.message.tag ≡ false). rw (g, b) refl)
    (cases_Bool (is_older q.message.tag x.message.tag))

-- who goes first of those in order that have to cross stands at the place of the oldest
pub foremost_at : (d : ℕ) (xs : List Standing) → IsSorted xs →
    foremost Oldest (filter (λ r. has_to_cross d r.message) xs) ≡ element_at xs (oldest_place d (messages_of xs))
foremost_at d [] s = refl
foremost_at d (x ∷ xs) s =
    let o : Option ℕ = oldest_place d (messages_of xs) in
    let ih : foremost Oldest (filter (λ r. has_to_cross d r.message) xs) ≡ element_at xs o = foremost_at d xs s.1 in
    ⊎_elim
    (λ (e : has_to_cross d x.message ≡ true). rw (e, messages_at xs o, sym ih)
    (oldest_step x xs o (foremost Oldest (filter (λ r. has_to_cross d r.message) xs)) s.0 ih))
    (λ (e : has_to_cross d x.message ≡ false). rw e (ih ∙ sym (element_at-one_behind x xs o)))
    (cases_Bool (has_to_cross d x.message))

youngest_step : (x : Standing) (xs : List Standing) (o : Option ℕ) (z : Option Standing) → NoneBefore x.since xs
    → z ≡ element_at xs o →
    Some (last_by_rule Oldest x z) ≡ element_at (x ∷ xs)
    (cond (is_older_or_none (option_map (λ r. r.message) z) x.message) (Some 0) (one_behind o))
youngest_step x xs o None h e = refl
youngest_step x xs o (Some q) h e =
    let g : goes_before Oldest q x ≡ is_older q.message.tag x.message.tag =
    goes_before_is q x (none_before_at x.since xs o q h e) in
    ⊎_elim
    (λ (b : is_older q.message.tag x.message.tag ≡ true). rw (g, b) refl)
    (λ (b : is_older q.message.tag x.message.tag ≡ false). rw (g, b) (e ∙ sym (element_at-one_behind x xs o)))
    (cases_Bool (is_older q.message.tag x.message.tag))

-- who goes last of those in order stands at the place of the youngest
pub hindmost_at : (xs : List Standing) → IsSorted xs →
    hindmost Oldest xs ≡ element_at xs (youngest_place (messages_of xs))
hindmost_at [] s = refl
hindmost_at (x ∷ xs) s =
    let o : Option ℕ = youngest_place (messages_of xs) in
    let ih : hindmost Oldest xs ≡ element_at xs o = hindmost_at xs s.1 in
    rw (messages_at xs o, sym ih) (youngest_step x xs o (hindmost Oldest xs) s.0 ih)

-- ---- the places are places of the buffer

-- a place of a list, or none
abbrev pub IsPlaceOf : {X : Type 0} → List X → Option ℕ → Type 0
IsPlaceOf xs None = Unit {0}
IsPlaceOf xs (Some i) = i < length xs

IsPlaceOf-one_behind : (m : Message) (ms : List Message) (o : Option ℕ) → IsPlaceOf ms o
    → IsPlaceOf (m ∷ ms) (one_behind o)
IsPlaceOf-one_behind m ms None h = tt
IsPlaceOf-one_behind m ms (Some i) h = omega arith

pub oldest_place-within : (d : ℕ) (ms : List Message) → IsPlaceOf ms (oldest_place d ms)
oldest_place-within d [] = tt
oldest_place-within d (m ∷ ms) =
    cond_both (has_to_cross d m && not (is_older_one (element_at ms (oldest_place d ms)) m)) (Some 0)
    (one_behind (oldest_place d ms)) (λ o. IsPlaceOf (m ∷ ms) o) (λ e. omega arith)
    (λ e. IsPlaceOf-one_behind m ms (oldest_place d ms) (oldest_place-within d ms))

-- a list that is not empty has a youngest
IsSome-one_behind : (m : Message) (ms : List Message) (o : Option ℕ) → IsPlaceOf ms o
    → is_older_or_none (element_at ms o) m ≡ false → (i : ℕ) × (i < length (m ∷ ms)) × (one_behind o ≡ Some i)
IsSome-one_behind m ms None h e = absurd cc
IsSome-one_behind m ms (Some i) h e = (suc i, omega arith, refl)

pub youngest_place-within : (ms : List Message) → IsPlaceOf ms (youngest_place ms)
youngest_place-within [] = tt
youngest_place-within (m ∷ ms) =
    cond_both (is_older_or_none (element_at ms (youngest_place ms)) m) (Some 0) (one_behind (youngest_place ms))
    (λ o. IsPlaceOf (m ∷ ms) o) (λ e. omega arith)
    (λ e. IsPlaceOf-one_behind m ms (youngest_place ms) (youngest_place-within ms))

pub youngest_place-some : (m : Message) (ms : List Message)
    → (i : ℕ) × (i < length (m ∷ ms)) × (youngest_place (m ∷ ms) ≡ Some i)
youngest_place-some m ms =
    cond_both (is_older_or_none (element_at ms (youngest_place ms)) m) (Some 0) (one_behind (youngest_place ms))
    (λ o. (i : ℕ) × (i < length (m ∷ ms)) × (o ≡ Some i)) (λ e. (0, omega arith, refl))
    (λ e. IsSome-one_behind m ms (youngest_place ms) (youngest_place-within ms) e)
