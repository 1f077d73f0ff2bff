-- What two lists become, place by place.
use Rattle.std.proofs.Common.{◌≡◌, ◌≢◌, ℕ, ◌+◌, ◌<◌, ⊎_elim, List, length, get_or, slice_set, take}
use Rattle.std.proofs.Common.{drop, ◌++◌, sym, ◌∙◌, refl, subst, arith}
use Rattle.std.proofs.lemmas.List.{length-set, get_or-set_same, get_or-set_other, get_or_default}
use Rattle.std.proofs.lemmas.List.{take-append-le, take_all}
use Rattle.cm_workers.specs.Each.{AreEachBelow}
use Rattle.cm_gates.proofs.Hands.{either_same, less_than}

pub none_yet : {A B : Type 0} (Become : A → B → A → B → Type 0) (olds : List A) (bs : List B)
    → AreEachBelow 0 Become olds bs olds bs
none_yet Become olds bs = record {
  first_len = refl;
  second_len = refl;
  each = λ i a b l. absurd (omega (arith, l));
  first_rest = λ i a l. refl;
  second_rest = λ i b l. refl;
}

-- one place more
pub one_more : {A B : Type 0} (Become : A → B → A → B → Type 0) (olds : List A) (bs : List B) (xs : List A)
    (ys : List B) (m : ℕ) (x : A) (y : B)
    → m < length olds → m < length bs → AreEachBelow m Become olds bs xs ys
    → ((a : A) (b : B) → Become (get_or olds m a) (get_or bs m b) x y)
    → AreEachBelow (m + 1) Become olds bs (slice_set xs m x) (slice_set ys m y)
one_more {A} {B} Become olds bs xs ys m x y below also were is = record {
  first_len = length-set xs m x ∙ were.first_len;
  second_len = length-set ys m y ∙ were.second_len;
  each = λ i a b l. ⊎_elim
      (λ (here : i ≡ m).
      subst (λ (j : ℕ). Become (get_or olds j a) (get_or bs j b) (get_or (slice_set xs m x) j a)
      (get_or (slice_set ys m y) j b)) (sym here)
      (subst (λ (v : A). Become (get_or olds m a) (get_or bs m b) v (get_or (slice_set ys m y) m b))
      (sym (get_or-set_same xs m x a (omega (arith, below, were.first_len))))
      (subst (λ (v : B). Become (get_or olds m a) (get_or bs m b) x v)
      (sym (get_or-set_same ys m y b (omega (arith, also, were.second_len)))) (is a b))))
      (λ (other : i ≢ m).
      subst (λ (v : A). Become (get_or olds i a) (get_or bs i b) v (get_or (slice_set ys m y) i b))
      (sym (get_or-set_other xs m i x a other))
      (subst (λ (v : B). Become (get_or olds i a) (get_or bs i b) (get_or xs i a) v)
      (sym (get_or-set_other ys m i y b other))
      (were.each i a b (less_than i m l other))))
      (either_same i m);
  first_rest = λ i a l. get_or-set_other xs m i x a (λ (e : i ≡ m). absurd (omega (arith, e, l)))
      ∙ were.first_rest i a (omega (arith, l));
  second_rest = λ i b l. get_or-set_other ys m i y b (λ (e : i ≡ m). absurd (omega (arith, e, l)))
      ∙ were.second_rest i b (omega (arith, l));
}

-- what was so at each place is so at one that is still as it was
pub still_so : {A B : Type 0} (Become : A → B → A → B → Type 0) (So : A → B → Type 0) (olds : List A) (bs : List B)
    (xs : List A) (ys : List B) (m : ℕ) (a : A) (b : B) → m < length olds → AreEachBelow m Become olds bs xs ys
    → ((i : ℕ) (x : A) (y : B) → i < length olds → So (get_or olds i x) (get_or bs i y))
    → So (get_or xs m a) (get_or ys m b)
still_so {A} {B} Become So olds bs xs ys m a b below were so =
    subst (λ (v : A). So v (get_or ys m b)) (sym (were.first_rest m a (omega arith)))
    (subst (λ (v : B). So (get_or olds m a) v) (sym (were.second_rest m b (omega arith))) (so m a b below))

-- what becomes of the things at one place
pub next_place : {A B : Type 0} (Become : A → B → A → B → Type 0) (olds : List A) (bs : List B) (xs : List A)
    (ys : List B) (m : ℕ) (x u : A) (y v : B)
    → m < length olds → m < length bs → AreEachBelow m Become olds bs xs ys → Become (get_or xs m u) (get_or ys m v) x y
    → AreEachBelow (m + 1) Become olds bs (slice_set xs m x) (slice_set ys m y)
next_place {A} {B} Become olds bs xs ys m x u y v below also were is =
    one_more Become olds bs xs ys m x y below also were (λ a b.
    subst (λ (w : A). Become w (get_or bs m b) x y)
    (were.first_rest m u (omega arith) ∙ get_or_default olds m u a below)
    (subst (λ (w : B). Become (get_or xs m u) w x y)
    (were.second_rest m v (omega arith) ∙ get_or_default bs m v b also) is))

-- ---- a list written back in place of another that is as long

pub written_back : {X : Type 0} (many : ℕ) (new old : List X) → length new ≡ many
    → take many (new ++ drop (length new) old) ≡ new
written_back many new old long = take-append-le many new (drop (length new) old) (omega (arith, long))
    ∙ take_all many new (omega (arith, long))
