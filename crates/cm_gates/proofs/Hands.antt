-- Things dealt out, one more and one less.
use Rattle.std.proofs.Common.{◌≡◌, ◌≢◌, ◌↔◌, ℕ, ◌+◌, ◌-◌, ◌*◌, ◌/◌, ◌%◌, ◌<◌, ◌≤◌, ◌++◌, [], ◌∷◌, ◌⊎◌, inl, inr}
use Rattle.std.proofs.Common.{⊎_elim, List, length, reverse, get_or, Vec, sym, ap, ◌∙◌, refl, subst, arith}
use Rattle.std.specs.declared.alloc.Global.{Global}
use Rattle.std.proofs.lemmas.List.{length-append, length-reverse, get_or_append_left, get_or_push, get_or-reverse}
use Rattle.std.proofs.lemmas.Nat.{div-add-mod', mul-le}
use Rattle.std.proofs.lemmas.Bool.{cases_lt}
use Rattle.std.proofs.Math.Nat.{mod-lt}
use Rattle.cm_gates.specs.Dealing.{hand, AreDealt, AreShares, HasPut}

-- one row more
rows : (count p q : ℕ) → p < q → p * count + count ≤ q * count
rows count p q below = let f = mul-le (p + 1) count q count (omega arith) (omega arith) in grind (arith, f)

-- a hand's turn comes when it has as many as there were rounds before
pub turn : (count j L : ℕ) → ((q : ℕ) → (q < L) ↔ (q * count + j % count < j)) → L ≡ j / count
turn count j L shares =
    let whole = div-add-mod' j count in
    ⊎_elim
    (λ (l : L < j / count). absurd (let f = rows count L (j / count) l in
    let no = (shares L).1 (omega (arith, f, whole)) in omega (arith, no)))
    (λ (l : j / count ≤ L). ⊎_elim
    (λ (m : j / count < L). absurd (let no = (shares (j / count)).0 m in omega (arith, no, whole)))
    (λ (m : L ≤ j / count). omega (arith, l, m))
    (cases_lt (j / count) L))
    (cases_lt L (j / count))

-- the place of a thing tells its hand and its round
pub place : (count j r q : ℕ) → 0 < count → r < count → q * count + r ≡ j → (r ≡ j % count) × (q ≡ j / count)
place count j r q some below at =
    let whole = div-add-mod' j count in let rest = mod-lt j some in
    let same : q ≡ j / count =
    ⊎_elim
    (λ (l : q < j / count). absurd (let f = rows count q (j / count) l in omega (arith, f, whole, rest, at)))
    (λ (l : j / count ≤ q). ⊎_elim
    (λ (m : j / count < q). absurd (let f = rows count (j / count) q m in omega (arith, f, whole, rest, at)))
    (λ (m : q ≤ j / count). omega (arith, l, m))
    (cases_lt (j / count) q))
    (cases_lt q (j / count)) in
    let products : q * count ≡ j / count * count = ap (λ (x : ℕ). x * count) same in
    (omega (arith, whole, at, products), same)

-- ---- one more

-- the hand whose turn it is
next_hand : {X : Type 0} (count j : ℕ) (hands : List (Vec X Global)) (e : Vec X Global) → 0 < count
    → AreShares count j hands
    → length (hand hands e (j % count)) ≡ j / count
next_hand count j hands e some shares =
    turn count j (length (hand hands e (j % count))) (λ q. shares (j % count) q e (mod-lt j some))

-- two numbers are the same or are not
pub either_same : (m n : ℕ) → (m ≡ n) ⊎ (m ≢ n)
either_same m n = ⊎_elim
    (λ (l : m < n). inr (λ (same : m ≡ n). absurd (omega (arith, l, same))))
    (λ (l : n ≤ m). ⊎_elim (λ (k : n < m). inr (λ (same : m ≡ n). absurd (omega (arith, k, same))))
    (λ (k : m ≤ n). inl (omega (arith, l, k))) (cases_lt n m))
    (cases_lt m n)

-- no more, and not the same, is less
pub less_than : (a b : ℕ) → a < b + 1 → a ≢ b → a < b
less_than a b l other = ⊎_elim (λ (k : a < b). k) (λ (k : b ≤ a). absurd (other (omega (arith, k, l)))) (cases_lt a b)

-- the hand that gets thing j has one more, and the others have what they had
shares_more : {X : Type 0} (count j : ℕ) (thing : X) (old new : List (Vec X Global)) → 0 < count → AreShares count j old
    → HasPut (j % count) thing old new → AreShares count (j + 1) new
shares_more {X} count j thing old new some shares put r q e below =
    ⊎_elim
    (λ (same : r ≡ j % count).
    let long = next_hand count j old e some shares in
    let grown : length (hand new e r) ≡ j / count + 1 =
    ap (λ (s : ℕ). length (hand new e s)) same ∙ ap length (put.here e)
    ∙ length-append (hand old e (j % count)) (thing ∷ []) ∙ ap (λ (n : ℕ). n + 1) long in
    let whole = div-add-mod' j count in (
      (λ (l : q < length (hand new e r)). ⊎_elim
          (λ (k : q < j / count). let f = rows count q (j / count) k in omega (arith, f, whole, same))
          (λ (k : j / count ≤ q). let here : q ≡ j / count = omega (arith, k, l, grown) in
          let p : q * count ≡ j / count * count = ap (λ (x : ℕ). x * count) here in omega (arith, p, whole, same))
          (cases_lt q (j / count))),
      (λ (l : q * count + r < j + 1). ⊎_elim
          (λ (k : j / count < q). absurd (let f = rows count (j / count) q k in let rest = mod-lt j some in
          omega (arith, f, whole, same, l, rest)))
          (λ (k : q ≤ j / count). omega (arith, k, grown))
          (cases_lt (j / count) q)),
    ))
    (λ (other : r ≢ j % count).
    let were = put.others r e other in
    let old_ones = shares r q e below in (
      (λ (l : q < length (hand new e r)). let k = old_ones.0 (subst (λ (xs : List X). q < length xs) were l) in
          omega (arith, k)),
      (λ (l : q * count + r < j + 1).
          let not_it : q * count + r ≢ j = λ (at : q * count + r ≡ j). other (place count j r q some below at).0 in
          subst (λ (xs : List X). q < length xs) (sym were) (old_ones.1 (less_than (q * count + r) j l not_it))),
    ))
    (either_same r (j % count))

pub one_dealt : {X : Type 0} (count : ℕ) (things : List X) (thing : X) (old new : List (Vec X Global)) → 0 < count
    → AreDealt count things old → HasPut (length things % count) thing old new
    → AreDealt count (things ++ thing ∷ []) new
one_dealt {X} count things thing old new some dealt put =
    let many = length-append things (thing ∷ []) in record {
      len = put.len ∙ dealt.len;
      shares = subst (λ (n : ℕ). AreShares count n new) (sym many)
          (shares_more count (length things) thing old new some dealt.shares put);
      each = λ r q e d below l. ⊎_elim
          (λ (k : q * count + r < length things).
          let same : get_or (hand new e r) q d ≡ get_or (hand old e r) q d = ⊎_elim
          (λ (here : r ≡ length things % count).
          ap (λ (s : ℕ). get_or (hand new e s) q d) here ∙ ap (λ (xs : List X). get_or xs q d) (put.here e)
          ∙ get_or_append_left (hand old e (length things % count)) (thing ∷ []) d q
          (subst (λ (s : ℕ). q < length (hand old e s)) here ((dealt.shares r q e below).1 k))
          ∙ sym (ap (λ (s : ℕ). get_or (hand old e s) q d) here))
          (λ (other : r ≢ length things % count). ap (λ (xs : List X). get_or xs q d) (put.others r e other))
          (either_same r (length things % count)) in
          same ∙ dealt.each r q e d below k ∙ sym (get_or_append_left things (thing ∷ []) d (q * count + r) k))
          (λ (k : length things ≤ q * count + r).
          let at : q * count + r ≡ length things = omega (arith, k, l, many) in
          let where_it_is = place count (length things) r q some below at in
          let long = next_hand count (length things) old e some dealt.shares in
          ap (λ (s : ℕ). get_or (hand new e s) q d) where_it_is.0 ∙ ap (λ (xs : List X). get_or xs q d) (put.here e)
          ∙ get_or_push (hand old e (length things % count)) thing d q (long ∙ sym where_it_is.1)
          ∙ sym (get_or_push things thing d (q * count + r) (sym at)))
          (cases_lt (q * count + r) (length things));
    }

-- ---- one less

-- of so many things that hands had, so many were taken, the last first, and what is left is in the hands
pub record AreLeft {X : Type 0} (count many i : ℕ) (whole now : List (Vec X Global)) (taken : List X) : Type 0 where
  pub len : length now ≡ count
  pub within : i ≤ many
  pub shares : AreShares count (many - i) now
  pub same : (r q : ℕ) (e : Vec X Global) (d : X) → r < count → q * count + r < many - i
      → get_or (hand now e r) q d ≡ get_or (hand whole e r) q d
  pub long : length taken ≡ i
  pub back : (r q : ℕ) (e : Vec X Global) (d : X) → r < count → q * count + r < many → many ≤ q * count + r + i
      → get_or taken (many - 1 - (q * count + r)) d ≡ get_or (hand whole e r) q d

pub none_taken : {X : Type 0} (count many : ℕ) (hands : List (Vec X Global)) → length hands ≡ count
    → AreShares count many hands
    → AreLeft count many 0 hands hands []
none_taken count many hands len shares = record {
  len = len;
  within = omega arith;
  shares = subst (λ (n : ℕ). AreShares count n hands) (omega arith) shares;
  same = λ r q e d below l. refl;
  long = refl;
  back = λ r q e d below l m. absurd (omega (arith, l, m));
}

module _ {X : Type 0} (count j : ℕ) (thing : X) (old new : List (Vec X Global)) (some : 0 < count)
    (shares : AreShares count (j + 1) old) (put : HasPut (j % count) thing new old) where
  -- how many it has then
  fewer : (e : Vec X Global) → length (hand new e (j % count)) ≡ j / count
  fewer e =
      let at = div-add-mod' j count in
      let grown = ap length (put.here e) ∙ length-append (hand new e (j % count)) (thing ∷ []) in
      ⊎_elim
      (λ (l : length (hand new e (j % count)) < j / count).
      absurd (let has = (shares (j % count) (j / count) e (mod-lt j some)).1 (omega (arith, at)) in
      omega (arith, has, grown, l)))
      (λ (l : j / count ≤ length (hand new e (j % count))). ⊎_elim
      (λ (k : j / count < length (hand new e (j % count))).
      absurd (let f = rows count (j / count) (j / count + 1) (omega arith) in
      let has = (shares (j % count) (j / count + 1) e (mod-lt j some)).0 (omega (arith, grown, k)) in
      omega (arith, has, at, f)))
      (λ (k : length (hand new e (j % count)) ≤ j / count). omega (arith, l, k))
      (cases_lt (j / count) (length (hand new e (j % count)))))
      (cases_lt (length (hand new e (j % count))) (j / count))

  pub shares_fewer : AreShares count j new
  shares_fewer r q e below =
      ⊎_elim
      (λ (same : r ≡ j % count).
      let at = div-add-mod' j count in
      let long : length (hand new e r) ≡ j / count = ap (λ (s : ℕ). length (hand new e s)) same ∙ fewer e in (
        (λ (l : q < length (hand new e r)). let f = rows count q (j / count) (omega (arith, l, long)) in
            omega (arith, f, at, same)),
        (λ (l : q * count + r < j). ⊎_elim
            (λ (k : q < j / count). omega (arith, k, long))
            (λ (k : j / count ≤ q). absurd (let f = mul-le (j / count) count q count k (omega arith) in
            omega (arith, f, at, same, l)))
            (cases_lt q (j / count))),
      ))
      (λ (other : r ≢ j % count).
      let were = put.others r e other in
      let old_ones = shares r q e below in (
        (λ (l : q < length (hand new e r)).
            let k = old_ones.0 (subst (λ (xs : List X). q < length xs) (sym were) l) in
            let not_it : q * count + r ≢ j = λ (at : q * count + r ≡ j). other (place count j r q some below at).0 in
            less_than (q * count + r) j k not_it),
        (λ (l : q * count + r < j). subst (λ (xs : List X). q < length xs) were (old_ones.1 (omega (arith, l)))),
      ))
      (either_same r (j % count))

  pub same_before : (r q : ℕ) (e : Vec X Global) (d : X) → r < count → q * count + r < j
      → get_or (hand new e r) q d ≡ get_or (hand old e r) q d
  same_before r q e d below l = ⊎_elim
      (λ (here : r ≡ j % count).
      ap (λ (s : ℕ). get_or (hand new e s) q d) here
      ∙ sym (get_or_append_left (hand new e (j % count)) (thing ∷ []) d q
      (subst (λ (s : ℕ). q < length (hand new e s)) here ((shares_fewer r q e below).1 l)))
      ∙ sym (ap (λ (s : ℕ). get_or (hand old e s) q d) here ∙ ap (λ (xs : List X). get_or xs q d) (put.here e)))
      (λ (other : r ≢ j % count). sym (ap (λ (xs : List X). get_or xs q d) (put.others r e other)))
      (either_same r (j % count))

  pub the_last : (r q : ℕ) (e : Vec X Global) (d : X) → r < count → q * count + r ≡ j
      → thing ≡ get_or (hand old e r) q d
  the_last r q e d below at =
      let it = place count j r q some below at in
      sym (ap (λ (s : ℕ). get_or (hand old e s) q d) it.0 ∙ ap (λ (xs : List X). get_or xs q d) (put.here e)
      ∙ get_or_push (hand new e (j % count)) thing d q (fewer e ∙ sym it.1))

pub one_taken : {X : Type 0} (count many i : ℕ) (whole old new : List (Vec X Global)) (taken : List X) (thing : X)
    → 0 < count → i < many
    → AreLeft count many i whole old taken → HasPut ((many - 1 - i) % count) thing new old
    → AreLeft count many (i + 1) whole new (taken ++ thing ∷ [])
one_taken {X} count many i whole old new taken thing some below left put =
    let j = many - 1 - i in
    let before : many - i ≡ j + 1 = omega (arith, below) in
    let after : many - (i + 1) ≡ j = omega (arith, below) in
    let shares = subst (λ (n : ℕ). AreShares count n old) before left.shares in record {
      len = sym put.len ∙ left.len;
      within = omega (arith, below);
      shares = subst (λ (n : ℕ). AreShares count n new) (sym after)
          (shares_fewer count j thing old new some shares put);
      same = λ r q e d l m. same_before count j thing old new some shares put r q e d l (omega (arith, m, after))
          ∙ left.same r q e d l (omega (arith, m));
      long = length-append taken (thing ∷ []) ∙ ap (λ (n : ℕ). n + 1) left.long;
      back = λ r q e d l m k. ⊎_elim
          (λ (here : q * count + r ≡ j).
          get_or_push taken thing d (many - 1 - (q * count + r)) (left.long ∙ omega (arith, here, below))
          ∙ the_last count j thing old new some shares put r q e d l here
          ∙ left.same r q e d l (omega (arith, here, below)))
          (λ (other : q * count + r ≢ j).
          let far : j < q * count + r = ⊎_elim
          (λ (x : j < q * count + r). x)
          (λ (x : q * count + r ≤ j). absurd (other (omega (arith, x, k, below))))
          (cases_lt j (q * count + r)) in
          get_or_append_left taken (thing ∷ []) d (many - 1 - (q * count + r)) (omega (arith, far, left.long, below, m))
          ∙ left.back r q e d l m (omega (arith, far, below)))
          (either_same (q * count + r) j);
    }

pub all_taken : {X : Type 0} (count many : ℕ) (whole now : List (Vec X Global)) (taken things : List X)
    → length whole ≡ count
    → AreShares count many whole → AreLeft count many many whole now taken → things ≡ reverse taken
    → AreDealt count things whole
all_taken {X} count many whole now taken things len shares left is =
    let long : length things ≡ many = ap length is ∙ length-reverse taken ∙ left.long in record {
      len = len;
      shares = subst (λ (n : ℕ). AreShares count n whole) (sym long) shares;
      each = λ r q e d below l.
          let m : q * count + r < many = omega (arith, l, long) in
          sym (ap (λ (xs : List X). get_or xs (q * count + r) d) is
          ∙ get_or-reverse taken (q * count + r) d (omega (arith, m, left.long))
          ∙ ap (λ (n : ℕ). get_or taken (n - 1 - (q * count + r)) d) left.long
          ∙ left.back r q e d below m (omega (arith, m)));
    }
