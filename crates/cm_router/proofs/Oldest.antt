-- The oldest and the youngest message of a buffer, gone through from behind.
use Rattle.std.proofs.Common.{◌≡◌, ℕ, zero, suc, ◌+◌, ◌<◌, Bool, cond, not, ◌&&◌, List, [], ◌∷◌, length, drop, get_or}
use Rattle.std.proofs.Common.{Option, Some, None, refl, sym, ◌∙◌, ap, arith, true, false}
use Rattle.std.proofs.Math.Seq.{drop-cons}
use Rattle.std.specs.List.{slice_get}
use Rattle.cm_model.specs.declared.message.Message.{Message}
use Rattle.cm_model.specs.Router.{has_to_cross}
use Rattle.cm_model.specs.Buffers.{element_at, one_behind, is_older_one, oldest_place, is_older_or_none, youngest_place}
use Rattle.cm_router.specs.Places.{place_behind, oldest_from, youngest_from}

get_dropped : (ms : List Message) (i k : ℕ) → slice_get ms (i + k) ≡ slice_get (drop i ms) k
get_dropped ms zero k = ap (slice_get ms) (omega arith)
get_dropped [] (suc i) k = refl
get_dropped (m ∷ ms) (suc i) k = let e : suc i + k ≡ suc (i + k) = omega arith in
    ap (slice_get (m ∷ ms)) e ∙ get_dropped ms i k

pub element_behind : (ms : List Message) (i : ℕ) (o : Option ℕ)
    → element_at ms (place_behind i o) ≡ element_at (drop i ms) o
element_behind ms i None = refl
element_behind ms i (Some k) = get_dropped ms i k

further_behind : (i : ℕ) (o : Option ℕ) → place_behind i (one_behind o) ≡ place_behind (i + 1) o
further_behind i None = refl
further_behind i (Some k) = ap (λ j. Some j) (omega arith)

at_first : (i : ℕ) → place_behind i (Some 0) ≡ Some i
at_first i = ap (λ j. Some j) (omega arith)

placed : (i : ℕ) (test : Bool) (o : Option ℕ)
    → place_behind i (cond test (Some 0) (one_behind o)) ≡ cond test (Some i) (place_behind (i + 1) o)
placed i true o = at_first i
placed i false o = further_behind i o

-- one message more in front
pub oldest-more : (d : ℕ) (ms : List Message) (i : ℕ) (m : Message) → i < length ms → m ≡ get_or ms i m
    → oldest_from d ms i
    ≡ cond (has_to_cross d m && not (is_older_one (element_at ms (oldest_from d ms (i + 1))) m)) (Some i)
    (oldest_from d ms (i + 1))
oldest-more d ms i m l e =
    let one : drop i ms ≡ m ∷ drop (i + 1) ms =
    drop-cons ms i m l ∙ (let next : suc i ≡ i + 1 = omega arith in
    ap (λ (j : ℕ). get_or ms i m ∷ drop j ms) next ∙ ap (λ (x : Message). x ∷ drop (i + 1) ms) (sym e)) in
    ap (λ (xs : List Message). place_behind i (oldest_place d xs)) one
    ∙ (placed i (has_to_cross d m && not (is_older_one (element_at (drop (i + 1) ms) (oldest_place d (drop (i + 1) ms))) m))
    (oldest_place d (drop (i + 1) ms))
    ∙ ap (λ (o : Option Message). cond (has_to_cross d m && not (is_older_one o m)) (Some i) (oldest_from d ms (i + 1)))
    (sym (element_behind ms (i + 1) (oldest_place d (drop (i + 1) ms)))))

pub youngest-more : (ms : List Message) (i : ℕ) (m : Message) → i < length ms → m ≡ get_or ms i m
    → youngest_from ms i
    ≡ cond (is_older_or_none (element_at ms (youngest_from ms (i + 1))) m) (Some i) (youngest_from ms (i + 1))
youngest-more ms i m l e =
    let one : drop i ms ≡ m ∷ drop (i + 1) ms =
    drop-cons ms i m l ∙ (let next : suc i ≡ i + 1 = omega arith in
    ap (λ (j : ℕ). get_or ms i m ∷ drop j ms) next ∙ ap (λ (x : Message). x ∷ drop (i + 1) ms) (sym e)) in
    ap (λ (xs : List Message). place_behind i (youngest_place xs)) one
    ∙ (placed i (is_older_or_none (element_at (drop (i + 1) ms) (youngest_place (drop (i + 1) ms))) m)
    (youngest_place (drop (i + 1) ms))
    ∙ ap (λ (o : Option Message). cond (is_older_or_none o m) (Some i) (youngest_from ms (i + 1)))
    (sym (element_behind ms (i + 1) (youngest_place (drop (i + 1) ms)))))

pub whole : (o : Option ℕ) → place_behind 0 o ≡ o
whole None = refl
whole (Some k) = ap (λ (j : ℕ). Some j) (omega arith)

-- the same by the answers of the tests
pub oldest-found : (d : ℕ) (ms : List Message) (i : ℕ) (m : Message) (behind : Option ℕ) → i < length ms
    → m ≡ get_or ms i m → behind ≡ oldest_from d ms (i + 1)
    → (has_to_cross d m && not (is_older_one (element_at ms behind) m)) ≡ true → Some i ≡ oldest_from d ms i
oldest-found d ms i m behind l e h test =
    let more = oldest-more d ms i m l e in
    let b : (has_to_cross d m && not (is_older_one (element_at ms (oldest_from d ms (i + 1))) m)) ≡ true =
    ap (λ (o : Option ℕ). has_to_cross d m && not (is_older_one (element_at ms o) m)) (sym h) ∙ test in
    sym (more ∙ rw b refl)

pub oldest-behind : (d : ℕ) (ms : List Message) (i : ℕ) (m : Message) (behind : Option ℕ) → i < length ms
    → m ≡ get_or ms i m → behind ≡ oldest_from d ms (i + 1)
    → (has_to_cross d m && not (is_older_one (element_at ms behind) m)) ≡ false → behind ≡ oldest_from d ms i
oldest-behind d ms i m behind l e h test =
    let more = oldest-more d ms i m l e in
    let b : (has_to_cross d m && not (is_older_one (element_at ms (oldest_from d ms (i + 1))) m)) ≡ false =
    ap (λ (o : Option ℕ). has_to_cross d m && not (is_older_one (element_at ms o) m)) (sym h) ∙ test in
    h ∙ sym (more ∙ rw b refl)

pub youngest-found : (ms : List Message) (i : ℕ) (m : Message) (behind : Option ℕ) → i < length ms
    → m ≡ get_or ms i m → behind ≡ youngest_from ms (i + 1) → is_older_or_none (element_at ms behind) m ≡ true
    → Some i ≡ youngest_from ms i
youngest-found ms i m behind l e h test =
    let more = youngest-more ms i m l e in
    let b : is_older_or_none (element_at ms (youngest_from ms (i + 1))) m ≡ true =
    ap (λ (o : Option ℕ). is_older_or_none (element_at ms o) m) (sym h) ∙ test in
    sym (more ∙ rw b refl)

pub youngest-behind : (ms : List Message) (i : ℕ) (m : Message) (behind : Option ℕ) → i < length ms
    → m ≡ get_or ms i m → behind ≡ youngest_from ms (i + 1) → is_older_or_none (element_at ms behind) m ≡ false
    → behind ≡ youngest_from ms i
youngest-behind ms i m behind l e h test =
    let more = youngest-more ms i m l e in
    let b : is_older_or_none (element_at ms (youngest_from ms (i + 1))) m ≡ false =
    ap (λ (o : Option ℕ). is_older_or_none (element_at ms o) m) (sym h) ∙ test in
    h ∙ sym (more ∙ rw b refl)
