-- A plane of flags is 0 just where no processor of the chip has the flag, and so all planes of a run.
use Rattle.std.proofs.Common.{◌≡◌, ℕ, ◌+◌, ◌-◌, ◌^◌, ◌<◌, ◌≤◌, ◌==◌, suc, Bool, true, false, not, ◌||◌, List, [], ◌∷◌, length}
use Rattle.std.proofs.Common.{get_or, take, drop, bit_or, refl, ap, ◌∙◌, sym, arith, eq-eqb, ne_eqb, w16}
use Rattle.std.specs.Int.{bit_at, trailing_zeros}
use Rattle.std.specs.List.{list_any}
use Rattle.std.proofs.lemmas.Bool.{eqb-true, eqb-false}
use Rattle.std.proofs.lemmas.List.Folds.{list_any_at}
use Rattle.std.proofs.lemmas.Nat.{le_or_l, le_or_r}
use Rattle.std.proofs.lemmas.Nat.Bits.{bit_at-trailing_zeros}
use Rattle.cm_bits.specs.Bit.{bit}
use Rattle.cm_model.specs.Processor.{Processor, flag}
use Rattle.cm_model.specs.Chip.{IsPlane, processor_at, no_processor}
use Rattle.cm_model.proofs.Bits.{bit-zero}
use Rattle.cm_element.specs.Flags.{has_flag}
use Rattle.cm_element.proofs.Laying.{get_or-part, length-part}

-- where the test fails at each index, nothing passes it
none_passes : {X : Type 0} (test : X → Bool) (d : X) (xs : List X)
    → ((i : ℕ) → i < length xs → test (get_or xs i d) ≡ false) → list_any test xs ≡ false
none_passes test d [] fails = refl
none_passes test d (x ∷ xs) fails =
    ap (λ (b : Bool). b || list_any test xs) (fails 0 (omega arith))
    ∙ none_passes test d xs (λ i h. fails (suc i) (omega arith))

-- the plane of a flag
pub has_flag-plane : (number : ℕ) (chip : List Processor) (plane : ℕ) → plane < 2 ^ 16 → length chip ≡ 16
    → IsPlane plane (λ p. flag (processor_at chip p) number) → has_flag number chip ≡ not (plane == 0)
has_flag-plane number chip plane fits sixteen flags = by (plane == 0) refl where
  by : (empty : Bool) → (plane == 0) ≡ empty → has_flag number chip ≡ not empty
  by true empty =
      none_passes (λ processor. flag processor number) no_processor chip (λ i h.
      sym (flags i (omega arith)) ∙ ap (λ (word : ℕ). bit word i) (eqb-true plane 0 empty) ∙ bit-zero i)
  by false some =
      let not_zero : ¬ (plane ≡ 0) = eqb-false plane 0 some in
      let lowest = bit_at-trailing_zeros w16 plane (omega arith) fits in
      let below : trailing_zeros w16 plane < 16 = lowest.0 in
      list_any_at (λ processor. flag processor number) chip (trailing_zeros w16 plane) no_processor (omega arith)
      (sym (flags (trailing_zeros w16 plane) below) ∙ eq-eqb (bit_at plane (trailing_zeros w16 plane)) 1 lowest.1)

-- one more plane among those that were looked at
pub seen_more : (seen plane : ℕ) → not (bit_or seen plane == 0) ≡ not (seen == 0) || not (plane == 0)
seen_more seen plane = by (seen == 0) (plane == 0) refl refl where
  by : (a b : Bool) → (seen == 0) ≡ a → (plane == 0) ≡ b → not (bit_or seen plane == 0) ≡ not a || not b
  by true true none nothing = rw (eqb-true seen 0 none, eqb-true plane 0 nothing) refl
  by true false none some =
      let not_zero : ¬ (plane ≡ 0) = eqb-false plane 0 some in
      let more = le_or_r seen plane in
      ap not (ne_eqb (bit_or seen plane) 0 (λ e. not_zero (omega (arith, e, more))))
  by false b some nothing =
      let not_zero : ¬ (seen ≡ 0) = eqb-false seen 0 some in
      let more = le_or_l seen plane in
      ap not (ne_eqb (bit_or seen plane) 0 (λ e. not_zero (omega (arith, e, more))))

-- two lists of which each passes its test where the other does
pub list_any-same : {X Y : Type 0} (p : X → Bool) (q : Y → Bool) (d : X) (e : Y) (xs : List X) (ys : List Y)
    → length xs ≡ length ys
    → ((i : ℕ) → i < length xs → p (get_or xs i d) ≡ q (get_or ys i e)) → list_any p xs ≡ list_any q ys
list_any-same p q d e [] [] long same = refl
list_any-same p q d e [] (y ∷ ys) long same = absurd (omega (arith, long))
list_any-same p q d e (x ∷ xs) [] long same = absurd (omega (arith, long))
list_any-same p q d e (x ∷ xs) (y ∷ ys) long same =
    (λ j. same 0 (omega arith) j
    || list_any-same p q d e xs ys (omega (arith, long)) (λ i h. same (suc i) (omega arith)) j)

-- where no plane of a part of a list has a 1, each of them is 0
pub none_in_part : (planes : List ℕ) (at end i : ℕ) → at + i < end → end ≤ length planes
    → list_any (λ plane. not (plane == 0)) (take (end - at) (drop at planes)) ≡ false → get_or planes (at + i) 0 ≡ 0
none_in_part planes at end i below inside none = by (get_or planes (at + i) 0 == 0) refl where
  part : List ℕ
  part = take (end - at) (drop at planes)

  here : get_or part i 0 ≡ get_or planes (at + i) 0
  here = get_or-part planes at end (end - at) i refl (omega arith)

  by : (zero : Bool) → (get_or planes (at + i) 0 == 0) ≡ zero → get_or planes (at + i) 0 ≡ 0
  by true is = eqb-true (get_or planes (at + i) 0) 0 is
  by false is =
      let long : length part ≡ end - at = length-part planes at end (end - at) refl (omega arith) in
      let some : list_any (λ plane. not (plane == 0)) part ≡ true =
      list_any_at (λ plane. not (plane == 0)) part i 0 (omega arith)
      (ap (λ (n : ℕ). not (n == 0)) here ∙ ap not is) in
      absurd cc
