-- A cube has no more wires than half of their ends, and so no more that are cut; and those that are cut tell how a
-- machine routes.
use Rattle.std.proofs.Common.{◌≡◌, ℕ, zero, suc, ◌+◌, ◌*◌, ◌/◌, ◌^◌, ◌<◌, ◌≤◌, ◌&&◌, ◌||◌, ◌==◌, Bool, true, false}
use Rattle.std.proofs.Common.{List, [], ◌∷◌, length, get_or, eqb, nat_lt, refl, sym, ap, ◌∙◌, ⊎_elim, arith, min}
use Rattle.std.proofs.Common.{bit_and, bit_xor}
use Rattle.std.proofs.lemmas.Bool.{and_parts, and_from, or_cases, or_left, eqb-true, eq-eqb, ltb-true, ne_eqb}
use Rattle.std.proofs.lemmas.Bool.{cases_Bool, false_from_ne_true}
use Rattle.std.proofs.lemmas.List.Folds.{list_any_none}
use Rattle.std.proofs.lemmas.Nat.{div-mul-add, mul-add-lt}
use Rattle.std.proofs.lemmas.Nat.Bits.{bit_at-pow_same, bit_at-lt, and_pow}
use Rattle.std.specs.Int.{bit_at}
use Rattle.std.specs.Int.Bits.{xor_disjoint}
use Rattle.std.proofs.lemmas.List.Elements.{All-head, All-tail}
use Rattle.std.proofs.lemmas.Map.Steps.{length-le_from_distinct_below}
use Rattle.std.specs.List.{All, AllByRecursion, IsDistinct, list_any}
use Rattle.cm_bits.specs.Wire.{Wire}
use Rattle.cm_bits.specs.Bit.{bit, differ}
use Rattle.cm_model.specs.Wiring.{wire_of, same_wire, wire_before, AreRising, IsWireOf}
use Rattle.cm_model.specs.Laws.{CutsAreFew, RoutingsAreToldByWires}
use Rattle.cm_model.proofs.Bits.{bit-bit_xor}
use Rattle.cm_model.proofs.Flips.{xor_twice, across_below}

-- ---- the two ends of a wire, as numbers below n * 2 ^ n

end_number : ℕ → ℕ → ℕ → ℕ
end_number n c d = d * 2 ^ n + c

-- two numbers of ends are one where chip and dimension are
one_end : (n c d b e : ℕ) → c < 2 ^ n → b < 2 ^ n → end_number n c d ≡ end_number n b e → (c ≡ b) × (d ≡ e)
unfolding end_number
one_end n c d b e h k same =
    let dim : d ≡ e = sym (div-mul-add d (2 ^ n) c h) ∙ (ap (λ (j : ℕ). j / 2 ^ n) same ∙ div-mul-add e (2 ^ n) b k) in
    let rows : d * 2 ^ n ≡ e * 2 ^ n = ap (λ (j : ℕ). j * 2 ^ n) dim in
    (omega (arith, same, rows), dim)

end_below : (n c d : ℕ) → c < 2 ^ n → d < n → end_number n c d < n * 2 ^ n
unfolding end_number
end_below n c d h k = omega (arith, mul-add-lt d (2 ^ n) c n k h)

-- the chip at the other end
far : Wire → ℕ
far w = bit_xor w.chip (2 ^ w.dim)

near_end : ℕ → Wire → ℕ
near_end n w = end_number n w.chip w.dim

far_end : ℕ → Wire → ℕ
far_end n w = end_number n (far w) w.dim

far_below : (n : ℕ) (w : Wire) → IsWireOf n w → far w < 2 ^ n
unfolding far
far_below n w is = across_below n w.dim w.chip is.dim is.chip

far_bit : (n : ℕ) (w : Wire) → IsWireOf n w → bit (far w) w.dim ≡ true
unfolding far
far_bit n w is =
    bit-bit_xor w.chip (2 ^ w.dim) w.dim
    ∙ (λ i. differ (is.wire.lower i) (bit_at-pow_same w.dim i == 1))

near_end_below : (n : ℕ) (w : Wire) → IsWireOf n w → near_end n w < n * 2 ^ n
unfolding near_end
near_end_below n w is = end_below n w.chip w.dim is.chip is.dim

far_end_below : (n : ℕ) (w : Wire) → IsWireOf n w → far_end n w < n * 2 ^ n
unfolding far_end
far_end_below n w is = end_below n (far w) w.dim (far_below n w is) is.dim

far_back : (w : Wire) → bit_xor (far w) (2 ^ w.dim) ≡ w.chip
unfolding far
far_back w = xor_twice w.chip (2 ^ w.dim)

-- ---- wires that differ have no end in common

not_before : (v w : Wire) → wire_before v w ≡ true → v.chip ≡ w.chip → v.dim ≡ w.dim → ⊥
not_before v w before chip dim =
    ⊎_elim
    (λ (lower : nat_lt v.chip w.chip ≡ true). let below : v.chip < w.chip = ltb-true v.chip w.chip lower in
    omega (arith, chip))
    (λ (same : (v.chip == w.chip && nat_lt v.dim w.dim) ≡ true).
    let below : v.dim < w.dim = ltb-true v.dim w.dim (and_parts (v.chip == w.chip) (nat_lt v.dim w.dim) same).1 in
    omega (arith, dim))
    (or_cases (nat_lt v.chip w.chip) (v.chip == w.chip && nat_lt v.dim w.dim) before)

not_both_ends : (n : ℕ) (v w : Wire) → IsWireOf n v → IsWireOf n w → near_end n v ≡ far_end n w → ⊥
unfolding near_end far_end
not_both_ends n v w one other same =
    let ends = one_end n v.chip v.dim (far w) w.dim one.chip (far_below n w other) same in
    let wrong : false ≡ true = sym one.wire.lower ∙ ((λ i. bit (ends.0 i) (ends.1 i)) ∙ far_bit n w other) in
    absurd (cc)

record Apart (n : ℕ) (v w : Wire) : Type 0 where
  near : eqb (near_end n v) (near_end n w) ≡ false
  across : eqb (near_end n v) (far_end n w) ≡ false
  back : eqb (far_end n v) (near_end n w) ≡ false
  far : eqb (far_end n v) (far_end n w) ≡ false

apart : (n : ℕ) (v w : Wire) → IsWireOf n v → IsWireOf n w → wire_before v w ≡ true → Apart n v w
unfolding near_end far_end
apart n v w one other before = record {
  near = ne_eqb (near_end n v) (near_end n w) (λ same.
      let ends = one_end n v.chip v.dim w.chip w.dim one.chip other.chip same in not_before v w before ends.0 ends.1);
  across = ne_eqb (near_end n v) (far_end n w) (not_both_ends n v w one other);
  back = ne_eqb (far_end n v) (near_end n w) (λ same. not_both_ends n w v other one (sym same));
  far = ne_eqb (far_end n v) (far_end n w) (λ same.
      let ends = one_end n (far v) v.dim (far w) w.dim (far_below n v one) (far_below n w other) same in
      let chip : v.chip ≡ w.chip =
      sym (far_back v) ∙ ((λ i. bit_xor (ends.0 i) (2 ^ ends.1 i)) ∙ far_back w) in
      not_before v w before chip ends.1);
}

-- ---- the ends of all wires

ends : ℕ → List Wire → List ℕ
ends n [] = []
ends n (w ∷ ws) = near_end n w ∷ far_end n w ∷ ends n ws

length-ends : (n : ℕ) (ws : List Wire) → length (ends n ws) ≡ 2 * length ws
unfolding ends
length-ends n [] = refl
length-ends n (w ∷ ws) = omega (arith, length-ends n ws)

all_apart : (n k : ℕ) (ws : List Wire)
    → All (λ w. (eqb k (near_end n w) ≡ false) × (eqb k (far_end n w) ≡ false)) ws
    → AllByRecursion (λ q. eqb k q ≡ false) (ends n ws)
unfolding ends
all_apart n k [] each = tt
all_apart n k (w ∷ ws) each =
    let here = All-head (λ v. (eqb k (near_end n v) ≡ false) × (eqb k (far_end n v) ≡ false)) w ws each in
    let others = All-tail (λ v. (eqb k (near_end n v) ≡ false) × (eqb k (far_end n v) ≡ false)) w ws each in
    (here.0, (here.1, all_apart n k ws others))

distinct : (n : ℕ) (ws : List Wire) → All (IsWireOf n) ws → AreRising ws → IsDistinct eqb (ends n ws)
unfolding ends IsDistinct
distinct n [] within rising = tt
distinct n (w ∷ ws) within rising =
    let here : IsWireOf n w = All-head (IsWireOf n) w ws within in
    let others : All (IsWireOf n) ws = All-tail (IsWireOf n) w ws within in (
      (
        ne_eqb (near_end n w) (far_end n w) (not_both_ends n w w here here),
        all_apart n (near_end n w) ws (λ k d h.
            let a = apart n w (get_or ws k d) here (others k d h) (rising.0 k d h) in (a.near, a.across)),
      ),
      (
        all_apart n (far_end n w) ws (λ k d h.
            let a = apart n w (get_or ws k d) here (others k d h) (rising.0 k d h) in (a.back, a.far)),
        distinct n ws others rising.1,
      ),
    )

ends_below : (n q : ℕ) (ws : List Wire) → All (IsWireOf n) ws → list_any (eqb q) (ends n ws) ≡ true → q < n * 2 ^ n
unfolding ends
ends_below n q [] within found = absurd (cc)
ends_below n q (w ∷ ws) within found =
    let here : IsWireOf n w = All-head (IsWireOf n) w ws within in
    ⊎_elim
    (λ (near : eqb q (near_end n w) ≡ true). omega (arith, eqb-true q (near_end n w) near, near_end_below n w here))
    (λ (rest : (eqb q (far_end n w) || list_any (eqb q) (ends n ws)) ≡ true).
    ⊎_elim
    (λ (across : eqb q (far_end n w) ≡ true). omega (arith, eqb-true q (far_end n w) across, far_end_below n w here))
    (λ (later : list_any (eqb q) (ends n ws) ≡ true). ends_below n q ws (All-tail (IsWireOf n) w ws within) later)
    (or_cases (eqb q (far_end n w)) (list_any (eqb q) (ends n ws)) rest))
    (or_cases (eqb q (near_end n w)) (eqb q (far_end n w) || list_any (eqb q) (ends n ws)) found)

pub cuts_are_few : CutsAreFew
cuts_are_few n routing is =
    let most : length (ends n routing.cuts) ≤ n * 2 ^ n =
    length-le_from_distinct_below (ends n routing.cuts) (n * 2 ^ n)
    (distinct n routing.cuts is.within is.rising) (λ q found. ends_below n q routing.cuts is.within found) in
    omega (arith, length-ends n routing.cuts)

-- ---- two lists that rise and have the same wires are one

same_from : (v w : Wire) → same_wire v w ≡ true → v ≡ w
same_from v w same =
    let both = and_parts (v.chip == w.chip) (v.dim == w.dim) same in
    λ i. record { chip = eqb-true v.chip w.chip both.0 i; dim = eqb-true v.dim w.dim both.1 i }

same_itself : (w : Wire) → same_wire w w ≡ true
same_itself w = and_from (w.chip == w.chip) (w.dim == w.dim) (eq-eqb w.chip w.chip refl) (eq-eqb w.dim w.dim refl)

not_itself : (v w : Wire) → wire_before v w ≡ true → same_wire v w ≡ false
not_itself v w before =
    false_from_ne_true (same_wire v w) (λ same. let is : v ≡ w = same_from v w same in
    not_before v w before (ap (λ (x : Wire). x.chip) is) (ap (λ (x : Wire). x.dim) is))

-- a wire that stands before all of a list is not in it
none_of : (v : Wire) (ws : List Wire) → All (λ w. wire_before v w ≡ true) ws → list_any (same_wire v) ws ≡ false
none_of v ws before = list_any_none (same_wire v) ws (λ k d h. not_itself v (get_or ws k d) (before k d h))

-- what stands before all of a list stands before each wire in it
before_found : (v u : Wire) (ws : List Wire) → All (λ w. wire_before v w ≡ true) ws → list_any (same_wire u) ws ≡ true
    → wire_before v u ≡ true
before_found v u [] before found = absurd (cc)
before_found v u (w ∷ ws) before found =
    ⊎_elim
    (λ (here : same_wire u w ≡ true). ap (wire_before v) (same_from u w here)
    ∙ All-head (λ x. wire_before v x ≡ true) w ws before)
    (λ (later : list_any (same_wire u) ws ≡ true).
    before_found v u ws (All-tail (λ x. wire_before v x ≡ true) w ws before) later)
    (or_cases (same_wire u w) (list_any (same_wire u) ws) found)

not_both_before : (v w : Wire) → wire_before v w ≡ true → wire_before w v ≡ true → ⊥
not_both_before v w one other =
    ⊎_elim
    (λ (lower : nat_lt v.chip w.chip ≡ true). let below : v.chip < w.chip = ltb-true v.chip w.chip lower in
    ⊎_elim
    (λ (back : nat_lt w.chip v.chip ≡ true). omega (arith, ltb-true w.chip v.chip back))
    (λ (back : (w.chip == v.chip && nat_lt w.dim v.dim) ≡ true).
    omega (arith, eqb-true w.chip v.chip (and_parts (w.chip == v.chip) (nat_lt w.dim v.dim) back).0))
    (or_cases (nat_lt w.chip v.chip) (w.chip == v.chip && nat_lt w.dim v.dim) other))
    (λ (same : (v.chip == w.chip && nat_lt v.dim w.dim) ≡ true).
    let both = and_parts (v.chip == w.chip) (nat_lt v.dim w.dim) same in
    let chip : v.chip ≡ w.chip = eqb-true v.chip w.chip both.0 in
    let below : v.dim < w.dim = ltb-true v.dim w.dim both.1 in
    ⊎_elim
    (λ (back : nat_lt w.chip v.chip ≡ true). omega (arith, ltb-true w.chip v.chip back))
    (λ (back : (w.chip == v.chip && nat_lt w.dim v.dim) ≡ true).
    omega (arith, ltb-true w.dim v.dim (and_parts (w.chip == v.chip) (nat_lt w.dim v.dim) back).1))
    (or_cases (nat_lt w.chip v.chip) (w.chip == v.chip && nat_lt w.dim v.dim) other))
    (or_cases (nat_lt v.chip w.chip) (v.chip == w.chip && nat_lt v.dim w.dim) one)

HaveSameWires : ℕ → List Wire → List Wire → Type 0
HaveSameWires n vs ws = (u : Wire) → IsWireOf n u → list_any (same_wire u) vs ≡ list_any (same_wire u) ws

has_first : (w : Wire) (ws : List Wire) → list_any (same_wire w) (w ∷ ws) ≡ true
has_first w ws = or_left (same_wire w w) (list_any (same_wire w) ws) (same_itself w)

first_same : (v w : Wire) (vs ws : List Wire) → AreRising (v ∷ vs) → AreRising (w ∷ ws)
    → list_any (same_wire v) (w ∷ ws) ≡ true → list_any (same_wire w) (v ∷ vs) ≡ true → v ≡ w
first_same v w vs ws rising also found back =
    ⊎_elim (λ (here : same_wire v w ≡ true). same_from v w here)
    (λ (later : list_any (same_wire v) ws ≡ true).
    ⊎_elim (λ (here : same_wire w v ≡ true). sym (same_from w v here))
    (λ (behind : list_any (same_wire w) vs ≡ true).
    absurd (not_both_before v w (before_found v w vs rising.0 behind) (before_found w v ws also.0 later)))
    (or_cases (same_wire w v) (list_any (same_wire w) vs) back))
    (or_cases (same_wire v w) (list_any (same_wire v) ws) found)

behind : (a b x y : Bool) → a ≡ b → a ≡ false → (a || x) ≡ (b || y) → x ≡ y
behind true b x y one none both = absurd (cc)
behind false true x y one none both = absurd (cc)
behind false false x y one none both = both

others_same : (u v w : Wire) (vs ws : List Wire) → AreRising (v ∷ vs) → AreRising (w ∷ ws) → v ≡ w
    → list_any (same_wire u) (v ∷ vs) ≡ list_any (same_wire u) (w ∷ ws)
    → list_any (same_wire u) vs ≡ list_any (same_wire u) ws
others_same u v w vs ws rising also first all =
    ⊎_elim
    (λ (here : same_wire u v ≡ true). let is : u ≡ v = same_from u v here in
    ap (λ (x : Wire). list_any (same_wire x) vs) is ∙ none_of v vs rising.0
    ∙ sym (ap (λ (x : Wire). list_any (same_wire x) ws) (is ∙ first) ∙ none_of w ws also.0))
    (λ (other : same_wire u v ≡ false).
    behind (same_wire u v) (same_wire u w) (list_any (same_wire u) vs) (list_any (same_wire u) ws)
    (ap (same_wire u) first) other all)
    (cases_Bool (same_wire u v))

same_wires : (n : ℕ) (vs ws : List Wire) → All (IsWireOf n) vs → All (IsWireOf n) ws → AreRising vs → AreRising ws
    → HaveSameWires n vs ws → vs ≡ ws
unfolding HaveSameWires
same_wires n [] [] within inside rising also same = refl
same_wires n [] (w ∷ ws) within inside rising also same =
    let wrong : false ≡ true = same w (All-head (IsWireOf n) w ws inside) ∙ has_first w ws in absurd (cc)
same_wires n (v ∷ vs) [] within inside rising also same =
    let wrong : true ≡ false = sym (has_first v vs) ∙ same v (All-head (IsWireOf n) v vs within) in absurd (cc)
same_wires n (v ∷ vs) (w ∷ ws) within inside rising also same =
    let first : v ≡ w = first_same v w vs ws rising also
    (sym (same v (All-head (IsWireOf n) v vs within)) ∙ has_first v vs)
    (same w (All-head (IsWireOf n) w ws inside) ∙ has_first w ws) in
    λ i. first i ∷ same_wires n vs ws (All-tail (IsWireOf n) v vs within) (All-tail (IsWireOf n) w ws inside)
    rising.1 also.1 (λ u is. others_same u v w vs ws rising also first (same u is)) i

-- ---- a routing is told by which wires it cuts

zero_bit : (b : ℕ) → b < 2 → (b == 1) ≡ false → b ≡ 0
zero_bit zero small none = refl
zero_bit (suc zero) small none = absurd (cc)
zero_bit (suc (suc b)) small none = absurd (omega (arith, small))

-- a wire seen from its lower end
wire_of-wire : (n : ℕ) (u : Wire) → IsWireOf n u → wire_of u.chip u.dim ≡ u
wire_of-wire n u is =
    let none : bit_at u.chip u.dim ≡ 0 = zero_bit (bit_at u.chip u.dim) (bit_at-lt u.chip u.dim) is.wire.lower in
    let apart : bit_and u.chip (2 ^ u.dim) ≡ 0 =
    omega (arith, and_pow u.chip u.dim, ap (λ (k : ℕ). k * 2 ^ u.dim) none) in
    let lower : min u.chip (bit_xor u.chip (2 ^ u.dim)) ≡ u.chip =
    omega (arith, xor_disjoint u.chip (2 ^ u.dim) apart) in
    λ i. record { chip = lower i; dim = u.dim }

pub routings_are_told_by_wires : RoutingsAreToldByWires
unfolding HaveSameWires
routings_are_told_by_wires n left right is also rule same =
    let cuts : left.cuts ≡ right.cuts =
    same_wires n left.cuts right.cuts is.within also.within is.rising also.rising (λ u of.
    ap (λ (w : Wire). list_any (same_wire w) left.cuts) (sym (wire_of-wire n u of))
    ∙ (same u.chip u.dim of.chip of.dim
    ∙ ap (λ (w : Wire). list_any (same_wire w) right.cuts) (wire_of-wire n u of))) in
    λ i. record { cuts = cuts i; rule = rule i }
