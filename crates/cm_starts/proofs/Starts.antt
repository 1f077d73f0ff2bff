-- Each step of a start word keeps its rule.
use Rattle.std.proofs.Common.{◌≡◌, ℕ, zero, suc, ◌≤◌, eqb, Bool, true, false, [], ◌∷◌, ◌++◌, get_or, set}
use Rattle.std.proofs.Common.{sym, refl, ap, subst, inr, ⊎_elim, arith}
use mathlib.Core.Option.{some, some-injective, some-ne-none}
use lib.ListN.{get_elem?}
use prog.Atomic.{either}
use Rattle.atomic_table.specs.Table.{State, Me, keeps, Allows, Splits}
use Rattle.cm_starts.specs.declared.words.Sight.{Sight}
use Rattle.cm_starts.specs.Starting.{starter_alone, starter, waiter, starting, start_state, StartRule, looked, has_told}

-- a seat has a view
abbrev Sees : ℕ → Sight → State ℕ Sight → Type 0
Sees id v s = get_elem? s.views id ≡ some v

-- what holds of each state of the rule
each_state : (P : State ℕ Sight → Type 0) → P starting
    → ((word : ℕ) (saw : Bool) → word ≤ 2 → P (start_state word saw)) → (s : State ℕ Sight) → StartRule s → P s
each_state P first later s kept =
    ⊎_elim
    (λ (e : s ≡ starting). subst P (sym e) first)
    (λ (t : (word : ℕ) × (saw : Bool) × (word ≤ 2) × (s ≡ start_state word saw)). subst P (sym t.3) (later t.0 t.1 t.2))
    kept

kept_at : (word : ℕ) (saw : Bool) → word ≤ 2 → StartRule (start_state word saw)
kept_at word saw few = inr (word, saw, few, refl)

-- what a step that tells or finds a word asks of a state
abbrev Leads : ℕ → Sight → (ℕ → ℕ) → (ℕ → Me ℕ Sight → Type 0) → State ℕ Sight → Type 0
Leads id v f then s =
    (w : Sight) × StartRule (record { words = set s.words 0 (f (get_or s.words 0 0)); homes = s.homes; views = set s.views id w })
    × then (get_or s.words 0 0) (w, [])

allowed : (slots id : ℕ) (m : Me ℕ Sight) (v : Sight) (f : ℕ → ℕ) (then : Me ℕ Sight → ℕ → Me ℕ Sight → Type 0)
    → m ≡ (v, []) → ((s : State ℕ Sight) → StartRule s → Sees id v s → Leads id v f (then (v, [])) s)
    → Allows StartRule slots id m 0 f (then m)
allowed slots id m v f then at leads =
    subst (λ (z : Me ℕ Sight). Allows StartRule slots id z 0 f (then z)) (sym at)
    (λ s kept _ sees _. let it = leads s kept sees in (it.0, keeps, tt, it.1, it.2))

-- ---- looks

look_first : (id x : ℕ) (Goal : Type 0) → Sees id (waiter x) starting → Goal
look_first zero x Goal sees = let e = ap (λ (z : Sight). z.place) (some-injective _ (waiter x) sees) in cc
look_first (suc n) x Goal sees = absurd (some-ne-none (waiter x) (sym sees))

look_later : (id x word : ℕ) (saw : Bool) → word ≤ 2 → Sees id (waiter x) (start_state word saw)
    → Leads id (waiter x) (λ n. n) (looked (waiter x, [])) (start_state word saw)
look_later zero x word saw few sees = let e = ap (λ (z : Sight). z.place) (some-injective _ (waiter x) sees) in cc
look_later (suc zero) x word saw few sees = (waiter word, kept_at word true few, refl)
look_later (suc (suc n)) x word saw few sees = absurd (some-ne-none (waiter x) (sym sees))

pub looks : (slots id x : ℕ) (m : Me ℕ Sight) → m ≡ (waiter x, []) → Allows StartRule slots id m 0 (λ n. n) (looked m)
looks slots id x m at =
    allowed slots id m (waiter x) (λ n. n) looked at
    (each_state (λ s. Sees id (waiter x) s → Leads id (waiter x) (λ n. n) (looked (waiter x, [])) s)
    (look_first id x _) (look_later id x))

-- ---- tells

abbrev becomes : ℕ → ℕ → ℕ
becomes word n = either (eqb n 0) word n

tell_first : (id : ℕ) (Goal : Type 0) → Sees id (starter 0) starting → Goal
tell_first zero Goal sees = let e = ap (λ (z : Sight). z.place) (some-injective _ (starter 0) sees) in cc
tell_first (suc n) Goal sees = absurd (some-ne-none (starter 0) (sym sees))

tell_at : (word told_so_far : ℕ) (saw : Bool) → word ≤ 2 → told_so_far ≡ 0
    → Leads 0 (starter 0) (becomes word) (has_told word (starter 0, [])) (start_state told_so_far saw)
tell_at word told_so_far true few none =
    subst (λ (z : ℕ). Leads 0 (starter 0) (becomes word) (has_told word (starter 0, [])) (start_state z true)) (sym none)
    (starter word, kept_at word false few, refl)
tell_at word told_so_far false few none =
    subst (λ (z : ℕ). Leads 0 (starter 0) (becomes word) (has_told word (starter 0, [])) (start_state z false)) (sym none)
    (starter word, kept_at word false few, refl)

tell_later : (word id told_so_far : ℕ) (saw : Bool) → word ≤ 2 → told_so_far ≤ 2
    → Sees id (starter 0) (start_state told_so_far saw)
    → Leads id (starter 0) (becomes word) (has_told word (starter 0, [])) (start_state told_so_far saw)
tell_later word zero before saw few _ sees =
    tell_at word before saw few (ap (λ (z : Sight). z.word) (some-injective _ (starter 0) sees))
tell_later word (suc zero) before saw few _ sees =
    let e = ap (λ (z : Sight). z.place) (some-injective _ (starter 0) sees) in cc
tell_later word (suc (suc n)) before saw few _ sees = absurd (some-ne-none (starter 0) (sym sees))

pub tells : (slots id word : ℕ) (m : Me ℕ Sight) → m ≡ (starter 0, []) → word ≤ 2
    → Allows StartRule slots id m 0 (becomes word) (has_told word m)
tells slots id word m at few =
    allowed slots id m (starter 0) (becomes word) (has_told word) at
    (each_state (λ s. Sees id (starter 0) s → Leads id (starter 0) (becomes word) (has_told word (starter 0, [])) s)
    (tell_first id _) (λ before saw below. tell_later word id before saw few below))

-- ---- the seats are dealt

abbrev cut : ℕ → State ℕ Sight → State ℕ Sight
cut id s = record { words = s.words; homes = s.homes; views = set s.views id (starter 0) ++ waiter 0 ∷ [] }

deal_first : (id : ℕ) → Sees id starter_alone starting → StartRule (cut id starting)
deal_first zero sees = kept_at 0 false (omega arith)
deal_first (suc n) sees = absurd (some-ne-none starter_alone (sym sees))

deal_later : (id word : ℕ) (saw : Bool) → word ≤ 2 → Sees id starter_alone (start_state word saw)
    → StartRule (cut id (start_state word saw))
deal_later zero word saw few sees = let e = ap (λ (z : Sight). z.place) (some-injective _ starter_alone sees) in cc
deal_later (suc zero) word saw few sees = let e = ap (λ (z : Sight). z.place) (some-injective _ starter_alone sees) in cc
deal_later (suc (suc n)) word saw few sees = absurd (some-ne-none starter_alone (sym sees))

pub deals : (id : ℕ) → Splits StartRule id starter_alone (starter 0) (waiter 0)
deals id = each_state (λ s. Sees id starter_alone s → StartRule (cut id s)) (deal_first id) (deal_later id)
