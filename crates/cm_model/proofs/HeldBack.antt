-- Who is kept at a delivery though it has arrived and its processor can receive: another is delivered to that one.
use Rattle.std.proofs.Common.{◌≡◌, ℕ, Bool, true, false, not, eqb, ◌&&◌, ◌||◌, List, [], ◌∷◌}
use Rattle.std.proofs.Common.{refl, sym, ap, subst, ◌∙◌, ⊎_elim}
use Rattle.std.proofs.lemmas.Bool.{cases_Bool, and_parts, or_left, both_ways, eqb-true}
use Rattle.std.proofs.lemmas.List.Elements.{All-nil, All-cons, All-weaker}
use Rattle.std.specs.List.{All, list_any}
use Rattle.cm_model.specs.declared.message.Message.{Message}
use Rattle.cm_model.specs.Letters.{is_among, is_for, has_arrived, IsHeldBack}
use Rattle.cm_model.specs.OneChip.{is_accepted, arrived_for, delivered, kept}

-- one for its processor has arrived before, or is delivered
abbrev IsBehind : (ℕ → Bool) → List ℕ → List Message → Message → Type 0
IsBehind receives before out m = has_arrived m ≡ true → receives m.proc ≡ true
    → (is_among m.proc before || list_any (is_for m.proc) out) ≡ true

moved : (a b c : Bool) → ((a || b) || c) ≡ true → (b || (a || c)) ≡ true
moved true true c e = refl
moved true false c e = refl
moved false b c e = e

-- who could be delivered and is not comes after another for its processor
came_after : (receives : ℕ → Bool) (before : List ℕ) (m : Message) → is_accepted receives before m ≡ false
    → has_arrived m ≡ true → receives m.proc ≡ true → is_among m.proc before ≡ true
came_after receives before m e home can =
    ⊎_elim (λ (a : is_among m.proc before ≡ true). a)
    (λ (a : is_among m.proc before ≡ false).
    let taken : is_accepted receives before m ≡ true = rw (home, can, a) refl in
    absurd (both_ways (is_accepted receives before m) e taken))
    (cases_Bool (is_among m.proc before))

-- what has arrived for these and one more
with_one : (before : List ℕ) (x m : Message) (out : List Message) → has_arrived x ≡ true
    → (is_among m.proc (arrived_for before x) || list_any (is_for m.proc) out) ≡ true
    → ((eqb x.proc m.proc || is_among m.proc before) || list_any (is_for m.proc) out) ≡ true
with_one before x m out here h =
    let e : arrived_for before x ≡ x.proc ∷ before = rw here refl in
    subst (λ (ps : List ℕ). (is_among m.proc ps || list_any (is_for m.proc) out) ≡ true) e h

behind_delivered : (receives : ℕ → Bool) (before : List ℕ) (x : Message) (out : List Message) (m : Message)
    → has_arrived x ≡ true → IsBehind receives (arrived_for before x) out m → IsBehind receives before (x ∷ out) m
behind_delivered receives before x out m here h home can =
    moved (eqb x.proc m.proc) (is_among m.proc before) (list_any (is_for m.proc) out)
    (with_one before x m out here (h home can))

behind_kept : (receives : ℕ → Bool) (before : List ℕ) (x : Message) (out : List Message) (m : Message)
    → is_accepted receives before x ≡ false → IsBehind receives (arrived_for before x) out m
    → IsBehind receives before out m
behind_kept receives before x out m e h home can =
    ⊎_elim
    (λ (here : has_arrived x ≡ true).
    let wide : ((eqb x.proc m.proc || is_among m.proc before) || list_any (is_for m.proc) out) ≡ true =
    with_one before x m out here (h home can) in
    ⊎_elim
    (λ (s : eqb x.proc m.proc ≡ true).
    let same : x.proc ≡ m.proc = eqb-true x.proc m.proc s in
    let among : is_among x.proc before ≡ true = came_after receives before x e here (ap receives same ∙ can) in
    or_left (is_among m.proc before) (list_any (is_for m.proc) out)
    (ap (λ k. is_among k before) (sym same) ∙ among))
    (λ (s : eqb x.proc m.proc ≡ false).
    subst (λ (b : Bool). ((b || is_among m.proc before) || list_any (is_for m.proc) out) ≡ true) s wide)
    (cases_Bool (eqb x.proc m.proc)))
    (λ (away : has_arrived x ≡ false).
    let e : arrived_for before x ≡ before = rw away refl in
    subst (λ (ps : List ℕ). (is_among m.proc ps || list_any (is_for m.proc) out) ≡ true) e (h home can))
    (cases_Bool (has_arrived x))

all_behind : (receives : ℕ → Bool) (before : List ℕ) (ms : List Message)
    → All (IsBehind receives before (delivered receives before ms)) (kept receives before ms)
all_behind receives before [] = All-nil (IsBehind receives before [])
all_behind receives before (x ∷ ms) =
    let more : List Message = delivered receives (arrived_for before x) ms in
    let rest : List Message = kept receives (arrived_for before x) ms in
    let ih : All (IsBehind receives (arrived_for before x) more) rest = all_behind receives (arrived_for before x) ms in
    ⊎_elim
    (λ (e : is_accepted receives before x ≡ true).
    let here : has_arrived x ≡ true =
    (and_parts (has_arrived x) (receives x.proc && not (is_among x.proc before)) e).0 in
    rw e (All-weaker (IsBehind receives (arrived_for before x) more) (IsBehind receives before (x ∷ more))
    (λ m h. behind_delivered receives before x more m here h) rest ih))
    (λ (e : is_accepted receives before x ≡ false).
    let first : IsBehind receives before more x =
    (λ home can. or_left (is_among x.proc before) (list_any (is_for x.proc) more)
    (came_after receives before x e home can)) in
    rw e (All-cons (IsBehind receives before more) x rest first
    (All-weaker (IsBehind receives (arrived_for before x) more) (IsBehind receives before more)
    (λ m h. behind_kept receives before x more m e h) rest ih)))
    (cases_Bool (is_accepted receives before x))

pub nobody_is_passed_over : (receives : ℕ → Bool) (here : List Message)
    → All (IsHeldBack receives (delivered receives [] here)) (kept receives [] here)
nobody_is_passed_over receives here = all_behind receives [] here
