-- The first block that has a step.
use Rattle.std.proofs.Common.{◌≡◌, ℕ, zero, suc, ◌+◌, ◌<◌, ◌≤◌, ◌^◌, Bool, true, false, Some, None}
use Rattle.std.proofs.Common.{map, refl, ap, sym, ◌∙◌, ⊎_elim, arith}
use Rattle.std.proofs.lemmas.Bool.{cases_lt}
use Rattle.std.specs.List.{find, range_with_len}
use Rattle.cm_exchange.specs.declared.step.Step.{Step}
use Rattle.cm_exchange.specs.Lanes.{exchange_of}
use Rattle.cm_exchange.specs.Worlds.{World, stand_of}
use Rattle.cm_exchange.specs.Steps.{step_at, is_possible, next_step}
use Rattle.cm_weave.specs.Woven.{Woven}

abbrev pub step_of_block : World → ℕ → Step
step_of_block world b = step_at b (stand_of world b).stage

-- no block below one has a step
abbrev pub HaveNone : ℕ → ℕ → Woven → ℕ → Type 0
HaveNone n cap now b = (i : ℕ) → i < b
    → is_possible (exchange_of n cap now.k now.machine now.acts) now.world (step_of_block now.world i) ≡ false

none_of : {X : Type 0} (p : X → Bool) (f : ℕ → X) (first count : ℕ)
    → ((i : ℕ) → first ≤ i → i < first + count → p (f i) ≡ false) → find p (map f (range_with_len first count)) ≡ None
none_of p f first zero h = refl
none_of p f first (suc count) h =
    rw (h first (omega arith) (omega arith))
    (none_of p f (first + 1) count (λ i l m. h i (omega (arith, l)) (omega (arith, m))))

one_of : {X : Type 0} (p : X → Bool) (f : ℕ → X) (first count b : ℕ) → first ≤ b → b < first + count
    → ((i : ℕ) → first ≤ i → i < b → p (f i) ≡ false) → p (f b) ≡ true
    → find p (map f (range_with_len first count)) ≡ Some (f b)
one_of p f first zero b l m h e = absurd (omega (arith, l, m))
one_of {X} p f first (suc count) b l m h e = ⊎_elim
    (λ (less : first < b).
    rw (h first (omega arith) less)
    (one_of p f (first + 1) count b (omega (arith, less)) (omega (arith, m)) (λ i q r. h i (omega (arith, q)) r) e))
    (λ (least : b ≤ first).
    let same : b ≡ first = omega (arith, l, least) in
    let here : p (f first) ≡ true = ap (λ (z : ℕ). p (f z)) (sym same) ∙ e in
    rw here (ap (λ (z : ℕ). Some (f z)) (sym same)))
    (cases_lt first b)

pub next_none : (n cap : ℕ) (now : Woven) → HaveNone n cap now (2 ^ now.k)
    → next_step (exchange_of n cap now.k now.machine now.acts) now.world ≡ None
unfolding next_step
next_none n cap now h =
    none_of (is_possible (exchange_of n cap now.k now.machine now.acts) now.world) (step_of_block now.world) 0
    (2 ^ now.k)
    (λ i l m. h i (omega (arith, m)))

pub next_some : (n cap : ℕ) (now : Woven) (b : ℕ) (step : Step) → b < 2 ^ now.k → HaveNone n cap now b
    → step ≡ step_of_block now.world b
    → is_possible (exchange_of n cap now.k now.machine now.acts) now.world step ≡ true
    → next_step (exchange_of n cap now.k now.machine now.acts) now.world ≡ Some step
unfolding next_step
next_some n cap now b step l h is e =
    one_of (is_possible (exchange_of n cap now.k now.machine now.acts) now.world) (step_of_block now.world) 0
    (2 ^ now.k)
    b (omega arith) (omega (arith, l)) (λ i q r. h i r)
    (ap (is_possible (exchange_of n cap now.k now.machine now.acts) now.world) (sym is) ∙ e)
    ∙ ap Some (sym is)

pub none_more : (n cap : ℕ) (now : Woven) (b : ℕ) (step : Step) → HaveNone n cap now b
    → step ≡ step_of_block now.world b
    → is_possible (exchange_of n cap now.k now.machine now.acts) now.world step ≡ false
    → HaveNone n cap now (b + 1)
none_more n cap now b step h is e i l = ⊎_elim
    (λ (less : i < b). h i less)
    (λ (least : b ≤ i).
    let same : i ≡ b = omega (arith, l, least) in
    ap (λ (z : ℕ). is_possible (exchange_of n cap now.k now.machine now.acts) now.world
    (step_of_block now.world z)) same
    ∙ ap (is_possible (exchange_of n cap now.k now.machine now.acts) now.world) (sym is) ∙ e)
    (cases_lt i b)
