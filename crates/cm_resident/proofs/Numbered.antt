-- Things that are so by their number: all of them, and those from one on.
use Rattle.std.proofs.Common.{◌≡◌, ℕ, ◌+◌, ◌<◌, ◌≤◌, ⊎_elim, List, [], ◌∷◌, ◌++◌, get_or, drop}
use Rattle.std.proofs.Common.{ap, sym, subst, ◌∙◌, arith}
use Rattle.std.proofs.lemmas.Bool.{cases_lt}
use Rattle.std.proofs.lemmas.List.{length-append, length-drop, get_or_append_left, get_or_push, get_or-drop}
use Rattle.cm_resident.specs.Gathering.{AreAll, AreFrom}

module _ {X : Type 0} (Is : ℕ → X → Type 0) where
  pub none_yet : AreAll Is 0 []
  none_yet = record { len = (let e : 0 ≡ 0 = omega arith in e); each = λ i d l. absurd (omega (arith, l)) }

  -- one thing more
  pub one_more : (m : ℕ) (things new : List X) (x : X) → AreAll Is m things → new ≡ things ++ x ∷ [] → Is m x
      → AreAll Is (m + 1) new
  one_more m things new x are is one = subst (λ (xs : List X). AreAll Is (m + 1) xs) (sym is) (record {
    len = length-append things (x ∷ []) ∙ ap (λ (n : ℕ). n + 1) are.len;
    each = λ i d l. ⊎_elim
        (λ (less : i < m). subst (λ (y : X). Is i y)
        (sym (get_or_append_left things (x ∷ []) d i (omega (arith, less, are.len)))) (are.each i d less))
        (λ (no_less : m ≤ i). let at : m ≡ i = omega (arith, no_less, l) in
        subst (λ (y : X). Is i y) (sym (get_or_push things x d i (are.len ∙ at)))
        (subst (λ (v : ℕ). Is v x) at one))
        (cases_lt i m);
  })

  -- all are those from the first on
  pub from_first : (total : ℕ) (things : List X) → AreAll Is total things → AreFrom Is 0 total things
  from_first total things are = record {
    len = (let f = are.len in omega (arith, f));
    each = λ i d l.
        let at : i ≡ 0 + i = omega arith in
        subst (λ (v : ℕ). Is v (get_or things i d)) at (are.each i d (omega (arith, l)));
  }

  -- the first of those that are left
  pub first_is : (from total : ℕ) (things : List X) (x : X) → AreFrom Is from total things → from < total
      → x ≡ get_or things 0 x → Is from x
  first_is from total things x are below is =
      let at : from + 0 ≡ from = omega arith in
      subst (λ (v : ℕ). Is v x) at
      (subst (λ (y : X). Is (from + 0) y) (sym is) (are.each 0 x (omega (arith, below))))

  -- those behind it
  pub rest_are : (from total : ℕ) (things rest : List X) → AreFrom Is from total things → from < total
      → rest ≡ drop 1 things → AreFrom Is (from + 1) total rest
  rest_are from total things rest are below is = subst (λ (xs : List X). AreFrom Is (from + 1) total xs) (sym is) (record {
    len = (let f = length-drop 1 things in let g = are.len in omega (arith, f, g, below));
    each = λ i d l.
        let at : from + (1 + i) ≡ from + 1 + i = omega arith in
        subst (λ (y : X). Is (from + 1 + i) y) (sym (get_or-drop 1 things i d))
        (subst (λ (v : ℕ). Is v (get_or things (1 + i) d)) at (are.each (1 + i) d (omega (arith, l))));
  })

  -- what is so is also otherwise
  pub are_so : (So : ℕ → X → Type 0) (total : ℕ) (things : List X) → AreAll Is total things
      → ((i : ℕ) (x : X) → i < total → Is i x → So i x) → AreAll So total things
  are_so So total things are so =
      record { len = are.len; each = λ i d l. so i (get_or things i d) l (are.each i d l) }
