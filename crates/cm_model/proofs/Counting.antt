-- Sums over sets, over chips and over what many chips add.
use Rattle.std.proofs.Common.{◌≡◌, ℕ, zero, suc, ◌+◌, ◌<◌, ◌≤◌, ◌^◌, true, false, cond, eqb, List, [], ◌∷◌, map, refl}
use Rattle.std.proofs.Common.{sym, ◌∙◌, ap, ⊎_elim, arith}
use Rattle.std.proofs.lemmas.Bool.{cases_Bool, cases_eq, eq-eqb, ne_eqb}
use Rattle.std.proofs.lemmas.List.Sums.{sum_by-cons, sum_by-append}
use Rattle.std.specs.List.{flat_map, sum_by, range_with_len}
use Rattle.cm_model.specs.Router.{Standing, is_before, standing_at}
use Rattle.cm_model.specs.Order.{put, in_order}

-- ---- sums over any list

pub sum_by-plus : {X : Type 0} (f g : X → ℕ) (xs : List X) → sum_by (λ x. f x + g x) xs ≡ sum_by f xs + sum_by g xs
sum_by-plus f g [] = refl
sum_by-plus f g (x ∷ xs) =
    omega (arith, sum_by-cons (λ y. f y + g y) x xs, sum_by-cons f x xs, sum_by-cons g x xs, sum_by-plus f g xs)

pub sum_by-map : {X Y : Type 0} (f : Y → ℕ) (h : X → Y) (xs : List X) → sum_by f (map h xs) ≡ sum_by (λ x. f (h x)) xs
sum_by-map f h [] = refl
sum_by-map f h (x ∷ xs) =
    omega (arith, sum_by-cons f (h x) (map h xs), sum_by-cons (λ y. f (h y)) x xs, sum_by-map f h xs)

pub sum_by-flat_map : {X Y : Type 0} (f : Y → ℕ) (h : X → List Y) (xs : List X)
    → sum_by f (flat_map h xs) ≡ sum_by (λ x. sum_by f (h x)) xs
sum_by-flat_map f h [] = refl
sum_by-flat_map f h (x ∷ xs) =
    omega (arith, sum_by-append f (h x) (flat_map h xs), sum_by-cons (λ y. sum_by f (h y)) x xs, sum_by-flat_map f h xs)

pub sum_by-same : {X : Type 0} (f g : X → ℕ) (xs : List X) → ((x : X) → f x ≡ g x) → sum_by f xs ≡ sum_by g xs
sum_by-same f g [] same = refl
sum_by-same f g (x ∷ xs) same = omega (arith, sum_by-cons f x xs, sum_by-cons g x xs, same x, sum_by-same f g xs same)

pub sum_by-none : {X : Type 0} (f : X → ℕ) (xs : List X) → ((x : X) → f x ≡ 0) → sum_by f xs ≡ 0
sum_by-none f [] none = refl
sum_by-none f (x ∷ xs) none = omega (arith, sum_by-cons f x xs, none x, sum_by-none f xs none)

-- two functions that agree on a range have one sum
pub sum_by-range : (f g : ℕ → ℕ) (a k : ℕ) → ((c : ℕ) → a ≤ c → c < a + k → f c ≡ g c)
    → sum_by f (range_with_len a k) ≡ sum_by g (range_with_len a k)
sum_by-range f g a zero same = refl
sum_by-range f g a (suc k) same =
    let ih : sum_by f (range_with_len (a + 1) k) ≡ sum_by g (range_with_len (a + 1) k) =
    sum_by-range f g (a + 1) k (λ c h l. same c (omega arith) (omega arith)) in
    let here : f a ≡ g a = same a (omega arith) (omega arith) in
    omega (arith, sum_by-cons f a (range_with_len (a + 1) k), sum_by-cons g a (range_with_len (a + 1) k))

-- a sum over a range of what stands at one number alone
pub sum_by-past : (g : ℕ → ℕ) (c a k : ℕ) → c < a → sum_by (λ b. cond (eqb c b) (g b) 0) (range_with_len a k) ≡ 0
sum_by-past g c a zero h = refl
sum_by-past g c a (suc k) h =
    let other : cond (eqb c a) (g a) 0 ≡ 0 = rw (ne_eqb c a (λ e. omega (arith, e))) refl in
    omega (
      arith,
      sum_by-cons (λ b. cond (eqb c b) (g b) 0) a (range_with_len (a + 1) k),
      sum_by-past g c (a + 1) k (omega arith),
    )

pub sum_by-single : (g : ℕ → ℕ) (c a k : ℕ) → a ≤ c → c < a + k
    → sum_by (λ b. cond (eqb c b) (g b) 0) (range_with_len a k) ≡ g c
sum_by-single g c a zero h l = absurd (omega arith)
sum_by-single g c a (suc k) h l =
    ⊎_elim
    (λ (e : c ≡ a).
    let here : cond (eqb c a) (g a) 0 ≡ g c = rw (eq-eqb c a e) (ap g (sym e)) in
    omega (
      arith,
      sum_by-cons (λ b. cond (eqb c b) (g b) 0) a (range_with_len (a + 1) k),
      sum_by-past g c (a + 1) k (omega arith),
    ))
    (λ (e : c ≡ a → ⊥).
    let other : cond (eqb c a) (g a) 0 ≡ 0 = rw (ne_eqb c a e) refl in
    omega (
      arith,
      sum_by-cons (λ b. cond (eqb c b) (g b) 0) a (range_with_len (a + 1) k),
      sum_by-single g c (a + 1) k (omega arith) (omega arith),
    ))
    (cases_eq c a)

-- ---- sums over sets of records

pub sum_by-put : (f : Standing → ℕ) (r : Standing) (xs : List Standing) → sum_by f (put r xs) ≡ f r + sum_by f xs
sum_by-put f r [] = sum_by-cons f r []
sum_by-put f r (x ∷ xs) =
    ⊎_elim (λ (e : is_before x.since r.since ≡ true). rw e
    (omega (arith, sum_by-cons f x (put r xs), sum_by-cons f x xs, sum_by-put f r xs)))
    (λ (e : is_before x.since r.since ≡ false). rw e (sum_by-cons f r (x ∷ xs)))
    (cases_Bool (is_before x.since r.since))

pub sum_by-in_order : (f : Standing → ℕ) (xs : List Standing) → sum_by f (in_order xs) ≡ sum_by f xs
sum_by-in_order f [] = refl
sum_by-in_order f (x ∷ xs) = omega (arith, sum_by-put f x (in_order xs), sum_by-cons f x xs, sum_by-in_order f xs)

-- each record stands at a chip of the cube
abbrev pub AllInCube : ℕ → List Standing → Type 0
AllInCube n [] = Unit {0}
AllInCube n (r ∷ rs) = (r.chip < 2 ^ n) × AllInCube n rs

sum_by-at_cons : (f : Standing → ℕ) (c : ℕ) (r : Standing) (set : List Standing)
    → sum_by f (standing_at c (r ∷ set)) ≡ cond (eqb r.chip c) (f r) 0 + sum_by f (standing_at c set)
sum_by-at_cons f c r set =
    ⊎_elim (λ (e : eqb r.chip c ≡ true). rw e (sum_by-cons f r (standing_at c set)))
    (λ (e : eqb r.chip c ≡ false). rw e (omega arith)) (cases_Bool (eqb r.chip c))

-- a sum over the chips of sums over the records at each is a sum over the set
pub sum_by_chips : (n : ℕ) (f : ℕ → Standing → ℕ) (set : List Standing) → AllInCube n set →
    sum_by (λ c. sum_by (f c) (standing_at c set)) (range_with_len 0 (2 ^ n)) ≡ sum_by (λ r. f r.chip r) set
sum_by_chips n f [] h = sum_by-none (λ c. 0) (range_with_len 0 (2 ^ n)) (λ c. refl)
sum_by_chips n f (r ∷ set) h =
    let chips : List ℕ = range_with_len 0 (2 ^ n) in
    sum_by-same (λ c. sum_by (f c) (standing_at c (r ∷ set)))
    (λ c. cond (eqb r.chip c) (f c r) 0 + sum_by (f c) (standing_at c set)) chips
    (λ c. sum_by-at_cons (f c) c r set)
    ∙ (sum_by-plus (λ c. cond (eqb r.chip c) (f c r) 0) (λ c. sum_by (f c) (standing_at c set)) chips
    ∙ omega (
      arith,
      sum_by-single (λ c. f c r) r.chip 0 (2 ^ n) (omega arith) (omega (arith, h.0)),
      sum_by_chips n f set h.1,
      sum_by-cons (λ q. f q.chip q) r set,
    ))
