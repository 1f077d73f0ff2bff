-- Lists of acts, one more instruction or round at a time.
use Rattle.std.proofs.Common.{◌≡◌, ℕ, zero, suc, ◌+◌, ◌-◌, ◌*◌, ◌/◌, ◌<◌, ◌≤◌, not, eqb, leb, List, [], ◌∷◌, ◌++◌}
use Rattle.std.proofs.Common.{length, map, sym, ap, ◌∙◌, arith, append-nil, append_assoc, map-id, length-append, ⊎_elim}
use Rattle.std.proofs.lemmas.List.{map-append, length-map}
use Rattle.std.proofs.lemmas.Bool.{cases_lt}
use Rattle.std.proofs.Math.Nat.{div-eq_of_lt, mul-zero}
use Rattle.std.specs.List.{range_with_len, flat_map}
use Rattle.std.proofs.lemmas.Bool.Decides.{nat_tests}
use Rattle.std.proofs.lemmas.List.FromFn.{map-range_with_len_more}
use Rattle.std.proofs.lemmas.List.Concat.{flat_map-append}
use Rattle.cm_bits.specs.Span.{Span}
use Rattle.cm_model.specs.declared.act.Nano.{Nano}
use Rattle.cm_model.specs.declared.act.Act.{Act}
use Rattle.cm_model.specs.declared.act.Act.TheVariants as act
use Rattle.cm_model.specs.Each.{tabulate}
use Rattle.cm_model.proofs.Each.{length-tabulate}
use Rattle.cm_language.specs.declared.macros.Context.{Context}
use Rattle.cm_language.specs.declared.macros.Context.TheVariants.{Always, On}
use Rattle.cm_language.specs.Acts.{nano, each_bit, above, lowest, number_bits, product, product_round, clear_flag}

-- ---- instructions, bit by bit

pub pushed_none : (xs : List Act) (f : ℕ → Nano) → xs ≡ xs ++ map act.Nano (tabulate 0 0 f)
unfolding tabulate
pushed_none xs f = sym (append-nil xs)

pub pushed_more : (xs ys zs : List Act) (n : ℕ) (f : ℕ → Nano) (x : Nano) → ys ≡ xs ++ map act.Nano (tabulate 0 n f)
    → zs ≡ ys ++ act.Nano x ∷ [] → x ≡ f n
    → zs ≡ xs ++ map act.Nano (tabulate 0 (n + 1) f)
unfolding tabulate
pushed_more xs ys zs n f x before grown is =
    grown ∙ (λ i. before i ++ act.Nano (is i) ∷ [])
    ∙ append_assoc xs (map act.Nano (map f (range_with_len 0 n))) (act.Nano (f n) ∷ [])
    ∙ ap (λ rest. xs ++ rest) (sym (map-append act.Nano (map f (range_with_len 0 n)) (f n ∷ []))
    ∙ ap (map act.Nano) (sym (map-range_with_len_more f 0 n n (omega arith))))

-- ---- rounds

range_more : (n : ℕ) → range_with_len 0 (n + 1) ≡ range_with_len 0 n ++ n ∷ []
range_more n =
    sym (map-id (range_with_len 0 (n + 1))) ∙ map-range_with_len_more (λ (i : ℕ). i) 0 n n (omega arith)
    ∙ ap (λ (xs : List ℕ). xs ++ n ∷ []) (map-id (range_with_len 0 n))

rounds_so_far : (f : ℕ → List Nano) (n : ℕ)
    → flat_map f (range_with_len 0 (n + 1)) ≡ flat_map f (range_with_len 0 n) ++ f n
rounds_so_far f n =
    ap (flat_map f) (range_more n) ∙ flat_map-append f (range_with_len 0 n) (n ∷ [])
    ∙ ap (λ rest. flat_map f (range_with_len 0 n) ++ rest) (append-nil (f n))

pub rounds_more : (xs ys zs : List Act) (n : ℕ) (f : ℕ → List Nano)
    → ys ≡ xs ++ map act.Nano (flat_map f (range_with_len 0 n)) → zs ≡ ys ++ map act.Nano (f n)
    → zs ≡ xs ++ map act.Nano (flat_map f (range_with_len 0 (n + 1)))
rounds_more xs ys zs n f before grown =
    grown ∙ ap (λ front. front ++ map act.Nano (f n)) before
    ∙ append_assoc xs (map act.Nano (flat_map f (range_with_len 0 n))) (map act.Nano (f n))
    ∙ ap (λ rest. xs ++ rest)
    (sym (map-append act.Nano (flat_map f (range_with_len 0 n)) (f n)) ∙ ap (map act.Nano) (sym (rounds_so_far f n)))

pub length-round : (d x y : Span) (j : ℕ) → length (product_round d x y j) ≡ 2 + (d.len - j)
unfolding product_round
length-round d x y j = omega (arith, length-tabulate {X = Nano} 0 (d.len - j))

pub length-rounds_more : (d x y : Span) (n : ℕ) → length (flat_map (product_round d x y) (range_with_len 0 (n + 1)))
    ≡ length (flat_map (product_round d x y) (range_with_len 0 n)) + (2 + (d.len - n))
length-rounds_more d x y n =
    ap length (rounds_so_far (product_round d x y) n)
    ∙ length-append (flat_map (product_round d x y) (range_with_len 0 n)) (product_round d x y n)
    ∙ ap (λ (k : ℕ). length (flat_map (product_round d x y) (range_with_len 0 n)) + k) (length-round d x y n)

rounds_grow : (f : ℕ → List Nano) (n k : ℕ)
    → length (flat_map f (range_with_len 0 n)) ≤ length (flat_map f (range_with_len 0 (n + k)))
rounds_grow f n zero = let e : n ≡ n + 0 = omega arith in
    omega (arith, ap (λ (m : ℕ). length (flat_map f (range_with_len 0 m))) e)
rounds_grow f n (suc k) =
    let e : n + k + 1 ≡ n + suc k = omega arith in
    omega (
      arith,
      rounds_grow f n k,
      ap (λ (m : ℕ). length (flat_map f (range_with_len 0 m))) e,
      ap length (rounds_so_far f (n + k)),
      length-append (flat_map f (range_with_len 0 (n + k))) (f (n + k)),
    )

-- a round that is still to come has room where all have
pub room_for_round : (d x y : Span) (n : ℕ) → n < d.len
    → length (flat_map (product_round d x y) (range_with_len 0 n)) + (2 + (d.len - n))
    ≤ length (flat_map (product_round d x y) (range_with_len 0 d.len))
room_for_round d x y n h =
    let e : n + 1 + (d.len - (n + 1)) ≡ d.len = omega (arith, h) in
    omega (
      arith,
      length-rounds_more d x y n,
      rounds_grow (product_round d x y) (n + 1) (d.len - (n + 1)),
      ap (λ (m : ℕ). length (flat_map (product_round d x y) (range_with_len 0 m))) e,
    )

-- ---- counts

pub length_of_bits : (n : ℕ) (f : ℕ → Nano) → length (map act.Nano (tabulate 0 n f)) ≡ n
length_of_bits n f = length-map (tabulate 0 n f) act.Nano ∙ length-tabulate 0 n f

pub length_of_product : (c : Context) (d x y : Span) (tail : List Nano)
    → length (map act.Nano (number_bits c d 0 ++ (product d x y ++ tail)))
    ≡ d.len + length (product d x y) + length tail
length_of_product c d x y tail =
    length-map (number_bits c d 0 ++ (product d x y ++ tail)) act.Nano
    ∙ omega (
      arith,
      length-append (number_bits c d 0) (product d x y ++ tail),
      length-append (product d x y) tail,
      length-tabulate {X = Nano} 0 d.len,
    )

-- ---- a number that fits

-- nothing is left when the low bits are cut off
pub shifted_out : (n d : ℕ) → 0 < d → eqb (n / d) 0 ≡ not (leb d n)
shifted_out n d h =
    ⊎_elim
    (λ (l : n < d). let e : n / d ≡ 0 = div-eq_of_lt l in grind (arith, nat_tests))
    (λ (l : d ≤ n).
    let some : n / d ≡ 0 → ⊥ = λ e. omega (arith, ap (λ (k : ℕ). d * k) e ∙ mul-zero d) in
    grind (arith, nat_tests))
    (cases_lt n d)

-- ---- one round

pub round_is : (d x y : Span) (j n : ℕ) (old one two all : List Act) (first : Nano) (b z u v carry other last : ℕ)
    (upper lower : Span)
    → one ≡ old ++ act.Nano first ∷ [] → two ≡ one ++ act.Nano (clear_flag (On u) carry) ∷ []
    → all ≡ two ++ map act.Nano (each_bit (On u) upper lower other last 0x96 0xe8)
    → first ≡ nano Always b b z v 0xf0 0xf0 → b ≡ x.at + j → z ≡ 8 → u ≡ 6 → v ≡ 6 → carry ≡ 7 → other ≡ 7 → last ≡ 7
    → upper ≡ above d j → lower ≡ lowest y (n - j) → n ≡ d.len
    → all ≡ old ++ map act.Nano (product_round d x y j)
unfolding product_round
round_is d x y j n old one two all first b z u v carry other last upper lower e1 e2 e3 is bit_is z_is u_is v_is c1 c2 c3
    upper_is lower_is n_is =
    e3 ∙ (λ i. (e2 ∙ ap (λ front. front ++ act.Nano (clear_flag (On u) carry) ∷ []) e1) i
    ++ map act.Nano (each_bit (On u) upper lower other last 0x96 0xe8))
    ∙ (λ i. (old ++ act.Nano (is i) ∷ []) ++ act.Nano (clear_flag (On (u_is i)) (c1 i)) ∷ []
    ++ map act.Nano (each_bit (On (u_is i)) (upper_is i) (lower_is i) (c2 i) (c3 i) 0x96 0xe8))
    ∙ (λ i. (old ++ act.Nano (nano Always (bit_is i) (bit_is i) (z_is i) (v_is i) 0xf0 0xf0) ∷ [])
    ++ act.Nano (clear_flag (On 6) 7) ∷ []
    ++ map act.Nano (each_bit (On 6) (above d j) (lowest y (n_is i - j)) 7 7 0x96 0xe8))
    ∙ simp append_assoc
