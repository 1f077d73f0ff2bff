-- What a set of standing messages is at each moment of a run: all before a time, and rising at each chip.
use Rattle.std.proofs.Common.{◌≡◌, ℕ, zero, suc, ◌+◌, ◌<◌, ◌≤◌, Bool, true, false, List, [], ◌∷◌, ◌++◌, map}
use Rattle.std.proofs.Common.{Option, Some, None, refl, sym, ◌∙◌, ap, subst, ⊎_elim, arith}
use Rattle.std.proofs.lemmas.Bool.{cases_Bool, eqb-true, ne_eqb, cases_eq}
use Rattle.std.proofs.lemmas.List.{append-nil}
use Rattle.std.proofs.lemmas.List.Elements.{filter-append}
use Rattle.std.specs.List.{filter, flat_map, range_with_len}
use Rattle.std.specs.Option.{option_to_list}
use Rattle.cm_model.specs.Router.{Since, Standing, is_at, is_before, standing_at, record_across}
use Rattle.cm_model.specs.Order.{queue}
use Rattle.cm_model.proofs.Order.{AllBefore, AllAfter, IsRising, Precedes, before_transitive}
use Rattle.cm_model.proofs.Crossing.{time_across}

pub record IsReady (top : Since) (set : List Standing) : Type 0 where
  pub before : AllBefore top set
  pub rising : (c : ℕ) → IsRising (queue c set)

-- ---- all before a time

pub AllBefore-later : (s t : Since) (xs : List Standing) → is_before s t ≡ true → AllBefore s xs → AllBefore t xs
AllBefore-later s t [] h k = tt
AllBefore-later s t (x ∷ xs) h k = (before_transitive x.since s t k.0 h, AllBefore-later s t xs h k.1)

pub AllBefore-append : (s : Since) (xs ys : List Standing) → AllBefore s xs → AllBefore s ys → AllBefore s (xs ++ ys)
AllBefore-append s [] ys h k = k
AllBefore-append s (x ∷ xs) ys h k = (h.0, AllBefore-append s xs ys h.1 k)

pub AllBefore-flat_map : (s : Since) (f : ℕ → List Standing) (cs : List ℕ) → ((c : ℕ) → AllBefore s (f c))
    → AllBefore s (flat_map f cs)
AllBefore-flat_map s f [] h = tt
AllBefore-flat_map s f (c ∷ cs) h = AllBefore-append s (f c) (flat_map f cs) (h c) (AllBefore-flat_map s f cs h)

-- ---- rising

pub AllAfter-filter : (p : Standing → Bool) (s : Since) (xs : List Standing) → AllAfter s xs → AllAfter s (filter p xs)
AllAfter-filter p s [] h = tt
AllAfter-filter p s (x ∷ xs) h =
    ⊎_elim (λ (e : p x ≡ true). rw e (h.0, AllAfter-filter p s xs h.1))
    (λ (e : p x ≡ false). rw e (AllAfter-filter p s xs h.1)) (cases_Bool (p x))

pub IsRising-filter : (p : Standing → Bool) (xs : List Standing) → IsRising xs → IsRising (filter p xs)
IsRising-filter p [] h = tt
IsRising-filter p (x ∷ xs) h =
    ⊎_elim (λ (e : p x ≡ true). rw e (AllAfter-filter p x.since xs h.0, IsRising-filter p xs h.1))
    (λ (e : p x ≡ false). rw e (IsRising-filter p xs h.1)) (cases_Bool (p x))

pub AllAfter-append : (s : Since) (xs ys : List Standing) → AllAfter s xs → AllAfter s ys → AllAfter s (xs ++ ys)
AllAfter-append s [] ys h k = k
AllAfter-append s (x ∷ xs) ys h k = (h.0, AllAfter-append s xs ys h.1 k)

pub IsRising-append : (xs ys : List Standing) → IsRising xs → IsRising ys → Precedes xs ys → IsRising (xs ++ ys)
IsRising-append [] ys h k p = k
IsRising-append (x ∷ xs) ys h k p = (AllAfter-append x.since xs ys h.0 p.0, IsRising-append xs ys h.1 k p.1)

-- all before a time precede those that come at it
AllAfter-option : (s : Since) (d cycle : ℕ) (o : Option Standing) → is_before s (time_across d cycle) ≡ true
    → AllAfter s (map (record_across d cycle) (option_to_list o))
AllAfter-option s d cycle None h = tt
AllAfter-option s d cycle (Some r) h = (h, tt)

pub Precedes-comers : (d cycle : ℕ) (o : Option Standing) (xs : List Standing) → AllBefore (time_across d cycle) xs
    → Precedes xs (map (record_across d cycle) (option_to_list o))
Precedes-comers d cycle o [] h = tt
Precedes-comers d cycle o (x ∷ xs) h = (AllAfter-option x.since d cycle o h.0, Precedes-comers d cycle o xs h.1)

pub IsRising-comers : (d cycle : ℕ) (o : Option Standing) → IsRising (map (record_across d cycle) (option_to_list o))
IsRising-comers d cycle None = tt
IsRising-comers d cycle (Some r) = (tt, tt)

-- ---- what many chips add

-- all stand at this chip
abbrev pub AllAt : ℕ → List Standing → Type 0
AllAt c [] = Unit {0}
AllAt c (r ∷ rs) = (is_at c r ≡ true) × AllAt c rs

pub standing_at-here : (c : ℕ) (xs : List Standing) → AllAt c xs → standing_at c xs ≡ xs
standing_at-here c [] h = refl
standing_at-here c (x ∷ xs) h = let e = h.0 in rw e (ap (λ z. x ∷ z) (standing_at-here c xs h.1))

pub standing_at-elsewhere : (c b : ℕ) (xs : List Standing) → (b ≡ c → ⊥) → AllAt b xs → standing_at c xs ≡ []
standing_at-elsewhere c b [] ne h = refl
standing_at-elsewhere c b (x ∷ xs) ne h =
    let e : is_at c x ≡ false = ne_eqb x.chip c (λ same. ne (sym (eqb-true x.chip b h.0) ∙ same)) in
    rw e (standing_at-elsewhere c b xs ne h.1)

pub gathered_out : (f : ℕ → List Standing) → ((b : ℕ) → AllAt b (f b)) → (c a k : ℕ) → c < a
    → standing_at c (flat_map f (range_with_len a k)) ≡ []
gathered_out f at_own c a zero h = refl
gathered_out f at_own c a (suc k) h =
    filter-append (is_at c) (f a) (flat_map f (range_with_len (a + 1) k))
    ∙ rw (standing_at-elsewhere c a (f a) (λ e. omega (arith, e)) (at_own a))
    (gathered_out f at_own c (a + 1) k (omega arith))

pub gathered_past : (f : ℕ → List Standing) → ((b : ℕ) → AllAt b (f b)) → (c a k : ℕ) → a + k ≤ c
    → standing_at c (flat_map f (range_with_len a k)) ≡ []
gathered_past f at_own c a zero h = refl
gathered_past f at_own c a (suc k) h =
    filter-append (is_at c) (f a) (flat_map f (range_with_len (a + 1) k))
    ∙ rw (standing_at-elsewhere c a (f a) (λ e. omega (arith, e)) (at_own a))
    (gathered_past f at_own c (a + 1) k (omega arith))

-- of what each chip adds, a chip has what it adds itself
pub gathered : (f : ℕ → List Standing) → ((b : ℕ) → AllAt b (f b)) → (c a k : ℕ) → a ≤ c → c < a + k
    → standing_at c (flat_map f (range_with_len a k)) ≡ f c
gathered f at_own c a zero h l = absurd (omega arith)
gathered f at_own c a (suc k) h l =
    filter-append (is_at c) (f a) (flat_map f (range_with_len (a + 1) k))
    ∙ ⊎_elim
    (λ (e : a ≡ c). subst (λ (z : ℕ). standing_at c (f z) ++ standing_at c (flat_map f (range_with_len (z + 1) k))
    ≡ f c) (sym e)
    (rw (standing_at-here c (f c) (at_own c), gathered_out f at_own c (c + 1) k (omega arith)) (append-nil (f c))))
    (λ (e : a ≡ c → ⊥). rw (standing_at-elsewhere c a (f a) e (at_own a))
    (gathered f at_own c (a + 1) k (omega arith) (omega arith)))
    (cases_eq a c)
