-- Lists that are taken from the front, and lists that grow beside them.
use Rattle.std.proofs.Common.{◌≡◌, ℕ, ◌+◌, ◌<◌, ◌≤◌, ⊎_elim, List, [], ◌∷◌, ◌++◌, length, get_or, drop}
use Rattle.std.proofs.Common.{ap, sym, subst, ◌∙◌, arith}
use Rattle.std.proofs.lemmas.Bool.{cases_lt}
use Rattle.std.proofs.lemmas.List.{get_or_append_left, get_or_push, get_or-drop, get_or_default, drop-drop}

-- the first of what is left, after w were taken
pub first_taken : {X : Type 0} (orig now : List X) (w : ℕ) (x : X) → now ≡ drop w orig → w < length orig
    → x ≡ get_or now 0 x → (e : X) → x ≡ get_or orig w e
first_taken {X} orig now w x is below from e =
    from ∙ ap (λ (xs : List X). get_or xs 0 x) is ∙ get_or-drop w orig 0 x
    ∙ ap (λ (i : ℕ). get_or orig i x) (let at : w + 0 ≡ w = omega arith in at) ∙ get_or_default orig w x e below

pub rest_left : {X : Type 0} (orig now new : List X) (w : ℕ) → now ≡ drop w orig → new ≡ drop 1 now
    → new ≡ drop (w + 1) orig
rest_left orig now new w is from = from ∙ ap (λ xs. drop 1 xs) is ∙ drop-drop 1 w orig

-- one more at the end, beside one of a list that was there before
pub one_beside : {A H : Type 0} (P : A → H → Type 0) (orig : List A) (hs hs_new : List H) (h : H) (m : ℕ) → length hs ≡ m
    → hs_new ≡ hs ++ h ∷ [] → ((w : ℕ) (d : H) (e : A) → w < m → P (get_or orig w e) (get_or hs w d))
    → ((e : A) → P (get_or orig m e) h)
    → (w : ℕ) (d : H) (e : A) → w < m + 1 → P (get_or orig w e) (get_or hs_new w d)
one_beside {A} {H} P orig hs hs_new h m long is were one w d e below =
    subst (λ (xs : List H). P (get_or orig w e) (get_or xs w d)) (sym is)
    (⊎_elim
    (λ (l : w < m).
    subst (λ (x : H). P (get_or orig w e) x) (sym (get_or_append_left hs (h ∷ []) d w (omega (arith, l, long))))
    (were w d e l))
    (λ (l : m ≤ w).
    let at : m ≡ w = omega (arith, l, below) in
    subst (λ (x : H). P (get_or orig w e) x) (sym (get_or_push hs h d w (long ∙ at)))
    (subst (λ (v : ℕ). P (get_or orig v e) h) at (one e)))
    (cases_lt w m))

-- what is so of the first things of a list is so of one further
pub one_further : {X : Type 0} (P : X → Type 0) (xs : List X) (m : ℕ) (x : X)
    → ((w : ℕ) (d : X) → w < m → P (get_or xs w d)) → ((d : X) → x ≡ get_or xs m d) → P x
    → (w : ℕ) (d : X) → w < m + 1 → P (get_or xs w d)
one_further {X} P xs m x were here is w d below =
    ⊎_elim
    (λ (l : w < m). were w d l)
    (λ (l : m ≤ w).
    let at : m ≡ w = omega (arith, l, below) in
    subst P (here d ∙ ap (λ (v : ℕ). get_or xs v d) at) is)
    (cases_lt w m)
