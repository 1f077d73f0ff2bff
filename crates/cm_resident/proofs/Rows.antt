-- Rows of things that are taken from hands.
use Rattle.std.proofs.Common.{◌≡◌, ◌≢◌, ◌↔◌, ℕ, ◌+◌, ◌-◌, ◌*◌, ◌/◌, ◌<◌, ◌≤◌, min, ⊎_elim, ◌⊎◌, inl, inr}
use Rattle.std.proofs.Common.{List, [], ◌∷◌, ◌++◌, length, drop, get_or, Vec, sym, ap, ◌∙◌, refl, subst, arith}
use Rattle.std.specs.declared.alloc.Global.{Global}
use Rattle.std.proofs.lemmas.Bool.{cases_lt}
use Rattle.std.proofs.lemmas.Nat.{div-add-mod', mul-le}
use Rattle.std.proofs.Math.Nat.{mod-lt}
use Rattle.std.proofs.lemmas.List.{length-append, length-drop, drop-drop, get_or-drop, get_or_append_left, get_or_push}
use Rattle.cm_gates.specs.Dealing.{hand, AreDealt, AreShares}
use Rattle.cm_resident.specs.Gathering.{IsRowTaken}

pub none_taken : {X : Type 0} (total : ℕ) (hands : List (Vec X Global)) (things : List X) → length things ≤ total
    → IsRowTaken total 0 hands things hands things
none_taken total hands things few = record {
  len = refl;
  count = omega (arith, few);
  rest = λ i d l. refl;
  each = λ w e d l m. absurd (omega (arith, l));
  taken = λ w e l. absurd (omega (arith, l));
  left = λ w e l. refl;
}

drop_none : {X : Type 0} (xs : List X) → length xs ≡ 0 → drop 1 xs ≡ xs
drop_none [] none = refl
drop_none (x ∷ xs) none = absurd (omega (arith, none))

less_than : (a b : ℕ) → a < b + 1 → a ≢ b → a < b
less_than a b l other = ⊎_elim (λ (k : a < b). k) (λ (k : b ≤ a). absurd (other (omega (arith, k, l)))) (cases_lt a b)

either_same : (m n : ℕ) → (m ≡ n) ⊎ (m ≢ n)
either_same m n = ⊎_elim
    (λ (l : m < n). inr (λ (same : m ≡ n). absurd (omega (arith, l, same))))
    (λ (l : n ≤ m). ⊎_elim (λ (k : n < m). inr (λ (same : m ≡ n). absurd (omega (arith, k, same))))
    (λ (k : m ≤ n). inl (omega (arith, l, k))) (cases_lt n m))
    (cases_lt m n)

module _ {X : Type 0} (total m : ℕ) (hands now : List (Vec X Global)) (things more : List X)
    (are : IsRowTaken total m hands things now more) where
  -- the hand whose turn it is has what it had
  pub hand_now : (e : Vec X Global) → hand now e m ≡ hand hands e m
  hand_now e = are.left m e (omega arith)

  -- one hand more gave a thing
  pub one_taken : (later : List (Vec X Global)) (x : X) → length more < total → length things + m < total
      → length later ≡ length now → ((e : Vec X Global) (d : X) → x ≡ get_or (hand now e m) 0 d)
      → ((e : Vec X Global) → hand later e m ≡ drop 1 (hand now e m))
      → ((s : ℕ) (e : Vec X Global) → s ≢ m → hand later e s ≡ hand now e s)
      → IsRowTaken total (m + 1) hands things later (more ++ x ∷ [])
  one_taken later x room below len is here others =
      let count : length more ≡ length things + m = (let f = are.count in omega (arith, f, below)) in
      let one : length (more ++ x ∷ []) ≡ length more + 1 = length-append more (x ∷ []) in record {
        len = len ∙ are.len;
        count = omega (arith, one, count, below);
        rest = λ i d l. get_or_append_left more (x ∷ []) d i (omega (arith, l, count)) ∙ are.rest i d l;
        each = λ w e d l k. ⊎_elim
            (λ (same : w ≡ m).
            subst (λ (v : ℕ). get_or (more ++ x ∷ []) (length things + v) d ≡ get_or (hand hands e v) 0 d) (sym same)
            (get_or_push more x d (length things + m) count ∙ is e d ∙ ap (λ (xs : List X). get_or xs 0 d) (hand_now e)))
            (λ (other : w ≢ m).
            let less : w < m = less_than w m l other in
            get_or_append_left more (x ∷ []) d (length things + w) (omega (arith, less, count)) ∙ are.each w e d less k)
            (either_same w m);
        taken = λ w e l. ⊎_elim
            (λ (same : w ≡ m). subst (λ (v : ℕ). hand later e v ≡ drop 1 (hand hands e v)) (sym same)
            (here e ∙ ap (λ (xs : List X). drop 1 xs) (hand_now e)))
            (λ (other : w ≢ m). others w e other ∙ are.taken w e (less_than w m l other))
            (either_same w m);
        left = λ w e l. others w e (λ (same : w ≡ m). absurd (omega (arith, same, l))) ∙ are.left w e (omega (arith, l));
      }

  -- or had none, since there are enough
  pub enough_taken : total ≤ length things + m → ((e : Vec X Global) → length (hand hands e m) ≡ 0)
      → IsRowTaken total (m + 1) hands things now more
  enough_taken past none = record {
    len = are.len;
    count = (let f = are.count in omega (arith, f, past));
    rest = are.rest;
    each = λ w e d l k. are.each w e d (omega (arith, k, past)) k;
    taken = λ w e l. ⊎_elim
        (λ (same : w ≡ m). subst (λ (v : ℕ). hand now e v ≡ drop 1 (hand hands e v)) (sym same)
        (hand_now e ∙ sym (drop_none (hand hands e m) (none e))))
        (λ (other : w ≢ m). are.taken w e (less_than w m l other))
        (either_same w m);
    left = λ w e l. are.left w e (omega (arith, l));
  }

-- ---- rows one behind the other

-- after q rows
pub record AreRowsTaken {X : Type 0} (total q : ℕ) (hands : List (Vec X Global)) (now : List (Vec X Global))
    (things : List X) : Type 0 where
  pub len : length now ≡ length hands
  pub count : length things ≡ min (q * length hands) total
  pub each : (w i : ℕ) (e : Vec X Global) (d : X) → w < length hands → i < q → i * length hands + w < total
      → get_or things (i * length hands + w) d ≡ get_or (hand hands e w) i d
  pub taken : (w : ℕ) (e : Vec X Global) → w < length hands → hand now e w ≡ drop q (hand hands e w)

module _ {X : Type 0} (total q : ℕ) (hands now : List (Vec X Global)) (things : List X)
    (shares : AreShares (length hands) total hands) (are : AreRowsTaken total q hands now things) where
  pub row_few : length things ≤ total
  row_few = let f = are.count in omega (arith, f)

  -- a hand has a thing exactly where there are not so many with those of the hands before it
  pub row_shares : (w : ℕ) (e : Vec X Global) → w < length now
      → (0 < length (hand now e w)) ↔ (length things + w < total)
  row_shares w e l =
      let l0 : w < length hands = omega (arith, l, are.len) in
      let long : length (hand now e w) ≡ length (hand hands e w) - q =
      ap length (are.taken w e l0) ∙ length-drop q (hand hands e w) in
      let share = shares w q e l0 in let count = are.count in (
        (λ (some : 0 < length (hand now e w)).
            let below = share.0 (omega (arith, some, long)) in omega (arith, below, count)),
        (λ (below : length things + w < total).
            let inside : q * length hands + w < total = omega (arith, below, count) in
            let some = share.1 inside in omega (arith, some, long)),
      )

  one_row : (i many : ℕ) → (i + 1) * many ≡ i * many + many
  one_row i many = grind arith

  -- one row more
  pub rows_more : (later : List (Vec X Global)) (more : List X)
      → IsRowTaken total (length now) now things later more → AreRowsTaken total (q + 1) hands later more
  rows_more later more row =
      let many : ℕ = length hands in let next = one_row q many in
      let count = are.count in record {
        len = row.len ∙ are.len;
        count = (let f = row.count in omega (arith, f, count, are.len, next));
        each = λ w i e d l m k. ⊎_elim
            (λ (same : i ≡ q).
            subst (λ (v : ℕ). get_or more (v * many + w) d ≡ get_or (hand hands e w) v d) (sym same)
            (let inside : q * many + w < total = subst (λ (v : ℕ). v * many + w < total) same k in
            let begin : length things ≡ q * many = omega (arith, inside, count) in
            ap (λ (v : ℕ). get_or more (v + w) d) (sym begin)
            ∙ row.each w e d (omega (arith, l, are.len)) (omega (arith, inside, begin))
            ∙ ap (λ (xs : List X). get_or xs 0 d) (are.taken w e l)
            ∙ get_or-drop q (hand hands e w) 0 d
            ∙ ap (λ (v : ℕ). get_or (hand hands e w) v d) (let at : q + 0 ≡ q = omega arith in at)))
            (λ (other : i ≢ q).
            let less : i < q = less_than i q m other in
            let f = mul-le (i + 1) many q many (omega (arith, less)) (omega arith) in
            let g = one_row i many in
            row.rest (i * many + w) d (omega (arith, f, g, l, k, count)) ∙ are.each w i e d l less k)
            (either_same i q);
        taken = λ w e l. row.taken w e (omega (arith, l, are.len))
            ∙ ap (λ (xs : List X). drop 1 xs) (are.taken w e l) ∙ drop-drop 1 q (hand hands e w);
      }

-- after so many rows all are taken, and they are those that were dealt
pub all_taken : {X : Type 0} (total : ℕ) (hands now : List (Vec X Global)) (things : List X) → 0 < length hands
    → AreShares (length hands) total hands → AreRowsTaken total (total / length hands + 1) hands now things
    → (length things ≡ total) × AreDealt (length hands) things hands
all_taken {X} total hands now things some shares are =
    let many : ℕ = length hands in let q : ℕ = total / many in
    let whole = div-add-mod' total many in let rest = mod-lt total some in
    let next : (q + 1) * many ≡ q * many + many = grind arith in
    let count : length things ≡ total = (let f = are.count in omega (arith, f, whole, rest, next)) in (
      count,
      record {
        len = refl;
        shares = λ w i e l. subst (λ (t : ℕ). (i < length (hand hands e w)) ↔ (i * many + w < t)) (sym count) (shares w i e l);
        each = λ w i e d l m.
            let inside : i * many + w < total = omega (arith, m, count) in
            let row : i < q + 1 = ⊎_elim (λ (k : i < q + 1). k)
            (λ (k : q + 1 ≤ i). let f = mul-le (q + 1) many i many k (omega arith) in
            absurd (omega (arith, f, next, whole, rest, inside)))
            (cases_lt i (q + 1)) in
            sym (are.each w i e d l row inside);
      },
    )
