-- The two ends of a wire, and its place among others.
use Rattle.std.proofs.Common.{◌≡◌, ◌≢◌, ℕ, ◌+◌, ◌*◌, ◌/◌, ◌%◌, ◌^◌, ◌<◌, ◌≤◌, Bool, true, false}
use Rattle.std.proofs.Common.{List, [], ◌∷◌, length, get_or, set, bit_or, ◌&&◌, ◌||◌, ◌==◌, refl, sym, ap, ◌∙◌, subst, ⊎_elim}
use Rattle.std.proofs.Common.{zero, suc, cond, not, min, arith, take, ◌++◌, lit<}
use Rattle.std.specs.Prelude.{bit_xor}
use Rattle.std.specs.List.{All, list_any, insert}
use Rattle.std.proofs.lemmas.List.Elements.{All-nil, All-cons, All-head, All-tail}
use Rattle.std.proofs.lemmas.List.{get_or-set_same, get_or-set_other, take_more}
use Rattle.std.proofs.lemmas.Bool.{cases_eq}
use Rattle.std.specs.Int.Bits.{xor_zero_r}
use Rattle.std.proofs.lemmas.Bool.{eqb-false}
use Rattle.std.proofs.lemmas.Bool.{cases_lt}
use Rattle.std.proofs.lemmas.Bool.Decides.{nat_tests}
use Rattle.std.proofs.lemmas.Nat.{xor_shr, xor_mod, pow_pos, le-div}
use Rattle.std.proofs.Math.Nat.{div_self, div-mul-le_self, le_trans, pow-le-pow_right, mod-eq_of_lt}
use Rattle.cm_bits.specs.Bit.{bit}
use Rattle.cm_bits.specs.Wire.{Wire, IsWire}
use Rattle.cm_model.specs.declared.rule.Rule.TheVariants.{First}
use Rattle.cm_model.specs.Wiring.{Routing, wire_of, same_wire, wire_before, AreRising, IsWireOf, plain_way, way_of}
use Rattle.cm_model.proofs.Cuts.{cuts_are_few}
use Rattle.cm_model.proofs.Flips.{xor_twice}
use Rattle.cm_router.specs.Cuts.{CubeCuts, AreWires, most_wires, has_wire, wire_put, with_wire, is_cut_at}
use Rattle.cm_router.proofs.Taking.{bit-with_one}

-- an even number with its lowest bit turned
next_of_even : (q : ℕ) → q % 2 ≡ 0 → bit_xor q 1 ≡ q + 1
next_of_even q e =
    let half : bit_xor q 1 / 2 ≡ q / 2 = xor_shr q 1 1 ∙ xor_zero_r (q / 2) in
    let odd : bit_xor q 1 % 2 ≡ 1 = xor_mod q 1 1 ∙ ap (λ (r : ℕ). bit_xor r 1) e in
    omega (arith, half, odd, e)

-- with a bit of it turned from 0 a number is greater
rises : (l d : ℕ) → bit l d ≡ false → l < bit_xor l (2 ^ d)
rises l d e =
    let q : ℕ = l / 2 ^ d in
    let even : q % 2 ≡ 0 = let odd_not : q % 2 ≡ 1 → ⊥ = eqb-false (q % 2) 1 e in grind (arith, odd_not) in
    let up : bit_xor l (2 ^ d) / 2 ^ d ≡ q + 1 =
    xor_shr l (2 ^ d) d ∙ (ap (λ (x : ℕ). bit_xor q x) (div_self (pow_pos d)) ∙ next_of_even q even) in
    ⊎_elim (λ (h : l < bit_xor l (2 ^ d)). h)
    (λ (h : bit_xor l (2 ^ d) ≤ l).
    let below : (q + 1) * 2 ^ d ≤ bit_xor l (2 ^ d) =
    subst (λ (x : ℕ). x * 2 ^ d ≤ bit_xor l (2 ^ d)) up (div-mul-le_self (bit_xor l (2 ^ d)) (2 ^ d)) in
    let over : q + 1 ≤ q = le-div (q + 1) l (2 ^ d) (pow_pos d) (le_trans below h) in
    absurd (omega (arith, over)))
    (cases_lt l (bit_xor l (2 ^ d)))

-- the wire of a chip is this one where the chip is one of its ends
pub at_its_ends : (c d : ℕ) (w : Wire) → bit w.chip w.dim ≡ false →
    same_wire (wire_of c d) w
    ≡ ((c == bit_xor w.chip (2 ^ w.dim) && d == w.dim) || (c == w.chip && d == w.dim))
at_its_ends c d w e =
    let upper : ℕ = bit_xor w.chip (2 ^ w.dim) in
    let other : ℕ = bit_xor c (2 ^ d) in
    let lower : w.chip < upper = rises w.chip w.dim e in
    let from_lower : d ≡ w.dim → c ≡ w.chip → other ≡ upper =
    λ s t. ap (λ (x : ℕ). bit_xor x (2 ^ d)) t ∙ ap (λ (x : ℕ). bit_xor w.chip (2 ^ x)) s in
    let from_upper : d ≡ w.dim → c ≡ upper → other ≡ w.chip =
    λ s t. ap (λ (x : ℕ). bit_xor c (2 ^ x)) s ∙ (ap (λ (x : ℕ). bit_xor x (2 ^ w.dim)) t ∙ xor_twice w.chip (2 ^ w.dim)) in
    let to_upper : d ≡ w.dim → other ≡ w.chip → c ≡ upper =
    λ s t. sym (xor_twice c (2 ^ d)) ∙ (ap (λ (x : ℕ). bit_xor x (2 ^ d)) t
    ∙ ap (λ (x : ℕ). bit_xor w.chip (2 ^ x)) s) in
    grind (arith, nat_tests, lower, from_lower, from_upper, to_upper)

-- so many rows are those of all chips
pub all_rows : (dims : ℕ) → dims ≤ 12 → 1 * 2 ^ dims % 18446744073709551616 ≡ 2 ^ dims
all_rows dims h =
    let most : 2 ^ dims ≤ 2 ^ 12 = pow-le-pow_right (lit< tt) h in
    let below : 1 * 2 ^ dims < 18446744073709551616 = omega arith in
    mod-eq_of_lt below ∙ omega arith

-- ---- one bit, and both

-- one bit more in the row of a chip
pub one_end : (rows : List ℕ) (chip dim c d : ℕ) → chip < length rows → dim < 16 →
    is_cut_at (set rows chip (bit_or (get_or rows chip 0) ((1 * 2 ^ dim) % 65536))) c d
    ≡ ((c == chip && d == dim) || is_cut_at rows c d)
one_end rows chip dim c d l below =
    let row : ℕ = bit_or (get_or rows chip 0) ((1 * 2 ^ dim) % 65536) in
    ⊎_elim
    (λ (e : c ≡ chip).
    let here : get_or (set rows chip row) c 0 ≡ row =
    ap (λ (k : ℕ). get_or (set rows chip row) k 0) e ∙ get_or-set_same rows chip row 0 l in
    let more : bit row d ≡ (bit (get_or rows chip 0) d || (dim == d)) = bit-with_one (get_or rows chip 0) dim d below in
    let same : get_or rows c 0 ≡ get_or rows chip 0 = ap (λ (k : ℕ). get_or rows k 0) e in
    grind (arith, nat_tests, here, more, same, e))
    (λ (e : c ≢ chip).
    let there : get_or (set rows chip row) c 0 ≡ get_or rows c 0 = get_or-set_other rows chip c row 0 e in
    grind (arith, nat_tests, there, e))
    (cases_eq c chip)

or_assoc : (x y z : Bool) → (x || (y || z)) ≡ ((x || y) || z)
or_assoc true y z = refl
or_assoc false y z = refl

-- both ends of a wire are cut
pub both_cut : (old now new : List ℕ) (w : Wire) → bit w.chip w.dim ≡ false →
    ((c d : ℕ) → is_cut_at now c d ≡ ((c == w.chip && d == w.dim) || is_cut_at old c d)) →
    ((c d : ℕ) → is_cut_at new c d ≡ ((c == bit_xor w.chip (2 ^ w.dim) && d == w.dim) || is_cut_at now c d)) →
    (c d : ℕ) → is_cut_at new c d ≡ (same_wire (wire_of c d) w || is_cut_at old c d)
both_cut old now new w lower first second c d =
    second c d
    ∙ (ap (λ (z : Bool). (c == bit_xor w.chip (2 ^ w.dim) && d == w.dim) || z) (first c d)
    ∙ (or_assoc (c == bit_xor w.chip (2 ^ w.dim) && d == w.dim) (c == w.chip && d == w.dim) (is_cut_at old c d)
    ∙ ap (λ (z : Bool). z || is_cut_at old c d) (sym (at_its_ends c d w lower))))

-- the same, where the ends are told by numbers that the code worked out
pub cut_by_code : (old now new : List ℕ) (w : Wire) (chip dim other : ℕ) → bit w.chip w.dim ≡ false → chip ≡ w.chip
    → dim ≡ w.dim → other ≡ bit_xor chip (2 ^ dim) →
    ((c d : ℕ) → is_cut_at now c d ≡ ((c == chip && d == dim) || is_cut_at old c d)) →
    ((c d : ℕ) → is_cut_at new c d ≡ ((c == other && d == dim) || is_cut_at now c d)) →
    (c d : ℕ) → is_cut_at new c d ≡ (same_wire (wire_of c d) w || is_cut_at old c d)
cut_by_code old now new w chip dim other lower here over there first second =
    let across : other ≡ bit_xor w.chip (2 ^ w.dim) = there ∙ (λ j. bit_xor (here j) (2 ^ over j)) in
    both_cut old now new w lower
    (λ c d. first c d ∙ (λ j. (c == here j && d == over j) || is_cut_at old c d))
    (λ c d. second c d ∙ (λ j. (c == across j && d == over j) || is_cut_at now c d))

-- ---- the order of wires

before_transitive : (u v w : Wire) → wire_before u v ≡ true → wire_before v w ≡ true → wire_before u w ≡ true
before_transitive u v w first second = grind (arith, nat_tests, first, second)

before_or_behind : (v w : Wire) → wire_before v w ≡ false → same_wire w v ≡ false → wire_before w v ≡ true
before_or_behind v w not_before not_same = grind (arith, nat_tests, not_before, not_same)

-- a wire that is named by its lower end
pub lower_end : (w : Wire) → bit w.chip w.dim ≡ false → wire_of w.chip w.dim ≡ w
lower_end w e =
    let above = rises w.chip w.dim e in
    let least : min w.chip (bit_xor w.chip (2 ^ w.dim)) ≡ w.chip = omega (arith, above) in
    λ i. record { chip = least i; dim = w.dim }

-- what was asked at a wire's lower end is whether it is among these
pub asked : (wires : List Wire) (w : Wire) (chip dim : ℕ) (answer : Bool) → bit w.chip w.dim ≡ false → chip ≡ w.chip
    → dim ≡ w.dim → answer ≡ has_wire wires chip dim → list_any (same_wire w) wires ≡ answer
asked wires w chip dim answer lower here over e =
    let one : wire_of chip dim ≡ w = (λ i. wire_of (here i) (over i)) ∙ lower_end w lower in
    sym (e ∙ ap (λ (v : Wire). list_any (same_wire v) wires) one)

-- ---- one wire more

or_false : (a b : Bool) → (a || b) ≡ false → (a ≡ false) × (b ≡ false)
or_false true b e = absurd cc
or_false false b e = (refl, e)

or_turned : (x y : Bool) → (x || y) ≡ (y || x)
or_turned true true = refl
or_turned true false = refl
or_turned false true = refl
or_turned false false = refl

or_swap : (x y z : Bool) → (x || (y || z)) ≡ (y || (x || z))
or_swap true true z = refl
or_swap true false z = refl
or_swap false y z = refl

any_put : (p : Wire → Bool) (w v : Wire) (vs rest : List Wire) (test : Bool) → list_any p rest ≡ (p w || list_any p vs)
    → list_any p (cond test (v ∷ rest) (w ∷ v ∷ vs)) ≡ (p w || (p v || list_any p vs))
any_put p w v vs rest true e = ap (λ (z : Bool). p v || z) e ∙ or_swap (p v) (p w) (list_any p vs)
any_put p w v vs rest false e = refl

pub list_any-put : (p : Wire → Bool) (w : Wire) (ws : List Wire) → list_any p (wire_put w ws) ≡ (p w || list_any p ws)
list_any-put p w [] = refl
list_any-put p w (v ∷ vs) = any_put p w v vs (wire_put w vs) (wire_before v w) (list_any-put p w vs)

long_put : (w v : Wire) (vs rest : List Wire) (test : Bool) → length rest ≡ length vs + 1
    → length (cond test (v ∷ rest) (w ∷ v ∷ vs)) ≡ length vs + 2
long_put w v vs rest true e = omega (arith, e)
long_put w v vs rest false e = omega arith

pub length-put : (w : Wire) (ws : List Wire) → length (wire_put w ws) ≡ length ws + 1
length-put w [] = refl
length-put w (v ∷ vs) = long_put w v vs (wire_put w vs) (wire_before v w) (length-put w vs) ∙ omega arith

module _ (P : Wire → Type 0) where
  all_put : (w v : Wire) (vs rest : List Wire) (test : Bool) → P w → All P (v ∷ vs) → All P rest
      → All P (cond test (v ∷ rest) (w ∷ v ∷ vs))
  all_put w v vs rest true here all more = All-cons P v rest (All-head P v vs all) more
  all_put w v vs rest false here all more = All-cons P w (v ∷ vs) here all

  pub All-put : (w : Wire) (ws : List Wire) → P w → All P ws → All P (wire_put w ws)
  All-put w [] here all = All-cons P w [] here all
  All-put w (v ∷ vs) here all =
      all_put w v vs (wire_put w vs) (wire_before v w) here all (All-put w vs here (All-tail P v vs all))

rising_put : (w v : Wire) (vs : List Wire) (test : Bool) → wire_before v w ≡ test → same_wire w v ≡ false
    → AreRising (v ∷ vs) → AreRising (wire_put w vs) → AreRising (cond test (v ∷ wire_put w vs) (w ∷ v ∷ vs))
rising_put w v vs true e other rising more = (All-put (λ u. wire_before v u ≡ true) w vs e rising.0, more)
rising_put w v vs false e other rising more =
    let first : wire_before w v ≡ true = before_or_behind v w e other in (
      All-cons (λ u. wire_before w u ≡ true) v vs first
          (λ k d l. before_transitive w v (get_or vs k d) first (rising.0 k d l)),
      rising,
    )

pub AreRising-put : (w : Wire) (ws : List Wire) → AreRising ws → list_any (same_wire w) ws ≡ false
    → AreRising (wire_put w ws)
AreRising-put w [] rising new = (All-nil (λ u. wire_before w u ≡ true), tt)
AreRising-put w (v ∷ vs) rising new =
    let parts = or_false (same_wire w v) (list_any (same_wire w) vs) new in
    rising_put w v vs (wire_before v w) refl parts.0 rising (AreRising-put w vs rising.1 parts.1)

-- ---- wires that come in their order

not_before_itself : (v w : Wire) → wire_before v w ≡ true → same_wire w v ≡ false
not_before_itself v w before = grind (arith, nat_tests, before)

none_same : (w : Wire) (ws : List Wire) → All (λ v. wire_before v w ≡ true) ws → list_any (same_wire w) ws ≡ false
none_same w [] before = refl
none_same w (v ∷ vs) before =
    rw (not_before_itself v w (All-head (λ u. wire_before u w ≡ true) v vs before))
    (none_same w vs (All-tail (λ u. wire_before u w ≡ true) v vs before))

put_last : (w : Wire) (ws : List Wire) → All (λ v. wire_before v w ≡ true) ws → wire_put w ws ≡ ws ++ w ∷ []
put_last w [] before = refl
put_last w (v ∷ vs) before =
    rw (All-head (λ u. wire_before u w ≡ true) v vs before)
    (ap (λ (xs : List Wire). v ∷ xs) (put_last w vs (All-tail (λ u. wire_before u w ≡ true) v vs before)))

-- the wires ahead of a place stand before the one there
ahead_before : (ws : List Wire) (i : ℕ) (d : Wire) → AreRising ws → i < length ws
    → All (λ v. wire_before v (get_or ws i d) ≡ true) (take i ws)
ahead_before [] i d rising l = absurd (omega (arith, l))
ahead_before (w ∷ ws) zero d rising l = All-nil (λ v. wire_before v w ≡ true)
ahead_before (w ∷ ws) (suc i) d rising l =
    All-cons (λ v. wire_before v (get_or ws i d) ≡ true) w (take i ws) (rising.0 i d (omega (arith, l)))
    (ahead_before ws i d rising.1 (omega (arith, l)))

-- so the next one comes to stand last
pub one_more_taken : (ws : List Wire) (i : ℕ) (w : Wire) → AreRising ws → i < length ws → w ≡ get_or ws i w
    → with_wire w (take i ws) ≡ take (i + 1) ws
one_more_taken ws i w rising l is =
    let before : All (λ v. wire_before v w ≡ true) (take i ws) =
    subst (λ (u : Wire). All (λ v. wire_before v u ≡ true) (take i ws)) (sym is) (ahead_before ws i w rising l) in
    rw (none_same w (take i ws) before)
    (put_last w (take i ws) before ∙ ap (λ (x : Wire). take i ws ++ x ∷ []) is ∙ sym (take_more ws i w l))

-- ---- its place

all_before : (w v : Wire) (vs : List Wire) (j : ℕ) → AreRising (v ∷ vs) → j < length (v ∷ vs)
    → wire_before (get_or (v ∷ vs) j w) w ≡ true → wire_before v w ≡ true
all_before w v vs zero rising l e = e
all_before w v vs (suc j) rising l e =
    before_transitive v (get_or vs j w) w (rising.0 j w (omega (arith, l))) e

-- it stands behind one that is before it, and before one that is not
pub put_there : (w : Wire) (ws : List Wire) (i : ℕ) → i ≤ length ws → AreRising ws
    → ((j : ℕ) → suc j ≡ i → wire_before (get_or ws j w) w ≡ true)
    → (i < length ws → wire_before (get_or ws i w) w ≡ false) → insert ws i w ≡ wire_put w ws
put_there w [] zero l rising before here = refl
put_there w [] (suc i) l rising before here = absurd (omega (arith, l))
put_there w (v ∷ vs) zero l rising before here = rw (here (omega arith)) refl
put_there w (v ∷ vs) (suc i) l rising before here =
    let first : wire_before v w ≡ true = all_before w v vs i rising (omega (arith, l)) (before i refl) in
    let more : insert vs i w ≡ wire_put w vs =
    put_there w vs i (omega (arith, l)) rising.1 (λ j e. before (suc j) (ap suc e)) (λ k. here (omega (arith, k))) in
    rw first (ap (λ (xs : List Wire). v ∷ xs) more)

-- ---- no wire over a dimension

no_wire : (w : Wire) (c d : ℕ) → (w.dim == d) ≡ false → same_wire (wire_of c d) w ≡ false
no_wire w c d e = grind (arith, nat_tests, e)

pub none_cut : (wires : List Wire) (c d : ℕ) → list_any (λ w. w.dim == d) wires ≡ false → has_wire wires c d ≡ false
none_cut [] c d e = refl
none_cut (w ∷ ws) c d e =
    let parts = or_false (w.dim == d) (list_any (λ v. v.dim == d) ws) e in
    rw (no_wire w c d parts.0) (none_cut ws c d parts.1)

pub whole_over : (routing : Routing) (d : ℕ) → list_any (λ w. w.dim == d) routing.cuts ≡ false
    → (c : ℕ) → way_of routing c d ≡ record { cut = false; rule = routing.rule }
whole_over routing d none c = λ i. record { cut = none_cut routing.cuts c d none i; rule = routing.rule }

pub plain_over : (routing : Routing) (d : ℕ) → routing.rule ≡ First → list_any (λ w. w.dim == d) routing.cuts ≡ false
    → (c : ℕ) → way_of routing c d ≡ plain_way
plain_over routing d first none c = λ i. record { cut = none_cut routing.cuts c d none i; rule = first i }

pub not_so : (b : Bool) → not b ≡ true → b ≡ false
not_so true h = absurd cc
not_so false h = refl

-- ---- all that is kept of cut wires, where there is one more

-- a wire that is new among others, and of their cube
pub record IsNew (dims : ℕ) (wires : List Wire) (w : Wire) : Type 0 where
  pub wire : IsWireOf dims w
  pub new : list_any (same_wire w) wires ≡ false

pub is_new : (dims : ℕ) (wires : List Wire) (cuts : CubeCuts) (w : Wire) (chip dim : ℕ) (answer : Bool)
    → record { dims = dims; wires = wires } ≡ cuts → IsWire w → w.chip < 2 ^ cuts.dims → w.dim < cuts.dims
    → chip ≡ w.chip → dim ≡ w.dim → answer ≡ has_wire cuts.wires chip dim → answer ≡ false → IsNew dims wires w
is_new dims wires cuts w chip dim answer is whole below within here over e none =
    let size : dims ≡ cuts.dims = ap (λ (x : CubeCuts). x.dims) is in
    record {
      wire = record { wire = whole; dim = rw size within; chip = rw size below };
      new = ap (λ (x : CubeCuts). list_any (same_wire w) x.wires) is
          ∙ (asked cuts.wires w chip dim answer whole.lower here over e ∙ none);
    }

pub AreWires-put : (dims : ℕ) (wires : List Wire) (w : Wire) → AreWires (record { dims = dims; wires = wires })
    → IsNew dims wires w → AreWires (record { dims = dims; wires = wire_put w wires })
AreWires-put dims wires w are one = record {
  dimensions = are.dimensions;
  within = All-put (IsWireOf dims) w wires one.wire are.within;
  rising = AreRising-put w wires are.rising one.new;
}

-- there is a place for it
pub place_left : (dims : ℕ) (wires : List Wire) (w : Wire) → AreWires (record { dims = dims; wires = wires })
    → IsNew dims wires w → length wires < most_wires dims
place_left dims wires w are one =
    let more = AreWires-put dims wires w are one in
    let few = cuts_are_few dims (record { cuts = wire_put w wires; rule = First })
    (record { within = more.within; rising = more.rising }) in
    omega (arith, few, length-put w wires)

-- the rows by chip, after both ends were written
pub by_chip-put : (old now new : List ℕ) (wires : List Wire) (w : Wire) (chip dim other : ℕ)
    → bit w.chip w.dim ≡ false → chip ≡ w.chip → dim ≡ w.dim → other ≡ bit_xor chip (2 ^ dim)
    → ((c d : ℕ) → is_cut_at now c d ≡ ((c == chip && d == dim) || is_cut_at old c d))
    → ((c d : ℕ) → is_cut_at new c d ≡ ((c == other && d == dim) || is_cut_at now c d))
    → ((c d : ℕ) → is_cut_at old c d ≡ has_wire wires c d)
    → (c d : ℕ) → is_cut_at new c d ≡ has_wire (wire_put w wires) c d
by_chip-put old now new wires w chip dim other lower here over there first second was c d =
    cut_by_code old now new w chip dim other lower here over there first second c d
    ∙ (ap (λ (z : Bool). same_wire (wire_of c d) w || z) (was c d) ∙ sym (list_any-put (same_wire (wire_of c d)) w wires))

-- and the bits by dimension
pub by_dimension-put : (over : ℕ) (wires : List Wire) (w : Wire) (dim : ℕ) → dim ≡ w.dim → dim < 16
    → ((d : ℕ) → bit over d ≡ list_any (λ v. v.dim == d) wires)
    → (d : ℕ) → bit (bit_or over ((1 * 2 ^ dim) % 65536)) d ≡ list_any (λ v. v.dim == d) (wire_put w wires)
by_dimension-put over wires w dim is below was d =
    bit-with_one over dim d below
    ∙ ((λ i. was d i || (is i == d))
    ∙ (or_turned (list_any (λ v. v.dim == d) wires) (w.dim == d) ∙ sym (list_any-put (λ v. v.dim == d) w wires)))
