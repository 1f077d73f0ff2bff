-- Planes that are moved one place on, as the code moves them.
use Rattle.std.proofs.Common.{◌≡◌, ◌⊎◌, inl, inr, nat_lt, eq-eqb, ne_eqb, ℕ, ◌+◌, ◌-◌, ◌*◌, ◌/◌, ◌%◌, ◌^◌, ◌<◌, ◌≤◌}
use Rattle.std.proofs.Common.{◌==◌, Bool, true, false, not, ◌&&◌, ◌||◌, Some, None, if◌then◌else◌, bit_and, bit_or}
use Rattle.std.proofs.Common.{refl, ap, ◌∙◌, arith}
use Rattle.std.proofs.Math.Bool.{and-false, or-false}
use Rattle.std.proofs.lemmas.Bool.{eqb-true, eqb-false, cases_lt, lt-ltb}
use Rattle.cm_bits.specs.Bit.{bit}
use Rattle.cm_bits.specs.declared.plane.Dir.TheVariants.{North, East, West, South}
use Rattle.cm_model.specs.Chip.{IsPlane, plane_bit}
use Rattle.cm_model.proofs.Bits.{bit-bit_and, bit-bit_or}
use Rattle.cm_news.specs.Moves.{is_entry, one_back, sender_on_chip, at_edge, bit_along_edge}
use Rattle.cm_news.proofs.Shifting.{and-true, bits_by_test, bit-down, bit-up_below, bit-up_above, bit-past}

-- a bit that is 0 where steps come in from another chip, and else the one before's, is the sender's
by_sender : (entry : Bool) (x q : ℕ) (v : Bool) → (entry ≡ true → v ≡ false) → (entry ≡ false → v ≡ bit x q)
    → v ≡ plane_bit x (if entry then None else Some q)
by_sender true x q v first others = first refl
by_sender false x q v first others = others refl

-- a bit that is the edge's where steps come in from another chip, and else 0
by_entry : (entry : Bool) (x q : ℕ) (v : Bool) → (entry ≡ true → v ≡ bit x q) → (entry ≡ false → v ≡ false)
    → v ≡ if entry then bit x q else false
by_entry true x q v first others = first refl
by_entry false x q v first others = others refl

-- ---- inside the chip

pub inside_north : (x : ℕ) → x < 2 ^ 16 → (p : ℕ) → p < 16 → bit (x / 16) p ≡ plane_bit x (sender_on_chip North p)
inside_north x fits p h = bit-down x 4 p ∙ by_sender (is_entry North p) x (one_back North p) (bit x (4 + p))
    (λ entry. let last : p / 4 ≡ 3 = eqb-true (p / 4) 3 entry in bit-past x 16 (4 + p) fits (omega arith))
    (λ entry. ap (bit x) (omega arith))

pub inside_south : (x p : ℕ) → p < 16 → bit (x * 16 % 65536) p ≡ plane_bit x (sender_on_chip South p)
inside_south x p h = by_sender (is_entry South p) x (one_back South p) (bit (x * 16 % 65536) p)
    (λ entry. let first : p / 4 ≡ 0 = eqb-true (p / 4) 0 entry in bit-up_below x 4 p h (omega arith))
    (λ entry. let others : ¬ (p / 4 ≡ 0) = eqb-false (p / 4) 0 entry in
    bit-up_above x 4 p h (omega arith) ∙ ap (bit x) (omega arith))

pub inside_west : (x p : ℕ) → p < 16 → bit (bit_and (x / 2) 30583) p ≡ plane_bit x (sender_on_chip West p)
inside_west x p h =
    bit-bit_and (x / 2) 30583 p
    ∙ ap (λ (b : Bool). bit (x / 2) p && b) (bits_by_test 30583 (λ k. not (k % 4 == 3)) refl p h)
    ∙ by_sender (is_entry West p) x (one_back West p) (bit (x / 2) p && not (p % 4 == 3))
    (λ entry. ap (λ (b : Bool). bit (x / 2) p && not b) entry ∙ and-false (bit (x / 2) p))
    (λ entry. ap (λ (b : Bool). bit (x / 2) p && not b) entry ∙ and-true (bit (x / 2) p) ∙ bit-down x 1 p
    ∙ ap (bit x) (omega arith))

pub inside_east : (x p : ℕ) → p < 16 → bit (bit_and (x * 2 % 65536) 61166) p ≡ plane_bit x (sender_on_chip East p)
inside_east x p h =
    bit-bit_and (x * 2 % 65536) 61166 p
    ∙ ap (λ (b : Bool). bit (x * 2 % 65536) p && b) (bits_by_test 61166 (λ k. not (k % 4 == 0)) refl p h)
    ∙ by_sender (is_entry East p) x (one_back East p) (bit (x * 2 % 65536) p && not (p % 4 == 0))
    (λ entry. ap (λ (b : Bool). bit (x * 2 % 65536) p && not b) entry ∙ and-false (bit (x * 2 % 65536) p))
    (λ entry. let others : ¬ (p % 4 ≡ 0) = eqb-false (p % 4) 0 entry in
    ap (λ (b : Bool). bit (x * 2 % 65536) p && not b) entry ∙ and-true (bit (x * 2 % 65536) p)
    ∙ bit-up_above x 1 p h (omega arith) ∙ ap (bit x) (omega arith))

-- ---- over its edges

pub edge_north : (x i : ℕ) → i < 4 → bit (bit_and x 15) i ≡ bit x (at_edge North i)
edge_north x i h =
    bit-bit_and x 15 i
    ∙ ap (λ (b : Bool). bit x i && b) (bits_by_test 15 (λ k. nat_lt k 4) refl i (omega arith) ∙ lt-ltb i 4 h)
    ∙ and-true (bit x i) ∙ ap (bit x) (omega arith)

pub edge_south : (x i : ℕ) → bit (x / 4096) i ≡ bit x (at_edge South i)
edge_south x i = bit-down x 12 i ∙ ap (bit x) (omega arith)

pub entering_north : (x p : ℕ) → p < 16
    → bit (x * 4096 % 65536) p ≡ if is_entry North p then bit x (bit_along_edge North p) else false
entering_north x p h = by_entry (is_entry North p) x (bit_along_edge North p) (bit (x * 4096 % 65536) p)
    (λ entry. let last : p / 4 ≡ 3 = eqb-true (p / 4) 3 entry in
    bit-up_above x 12 p h (omega arith) ∙ ap (bit x) (omega arith))
    (λ entry. let others : ¬ (p / 4 ≡ 3) = eqb-false (p / 4) 3 entry in bit-up_below x 12 p h (omega arith))

pub entering_south : (x : ℕ) → x < 16 → (p : ℕ) → p < 16
    → bit x p ≡ if is_entry South p then bit x (bit_along_edge South p) else false
entering_south x small p h = by_entry (is_entry South p) x (bit_along_edge South p) (bit x p)
    (λ entry. let first : p / 4 ≡ 0 = eqb-true (p / 4) 0 entry in ap (bit x) (omega arith))
    (λ entry. let others : ¬ (p / 4 ≡ 0) = eqb-false (p / 4) 0 entry in bit-past x 4 p small (omega arith))

-- the bits of a first column, three columns on
pub entering_west : (x t : ℕ) → IsPlane t (λ p. if p % 4 == 0 then bit x (p / 4) else false)
    → (p : ℕ) → p < 16 → bit (t * 8 % 65536) p ≡ if is_entry West p then bit x (bit_along_edge West p) else false
entering_west x t column p h = by_entry (is_entry West p) x (bit_along_edge West p) (bit (t * 8 % 65536) p)
    (λ entry. let last : p % 4 ≡ 3 = eqb-true (p % 4) 3 entry in
    bit-up_above t 3 p h (omega arith) ∙ column (p - 3) (omega arith)
    ∙ ap (λ (b : Bool). if b then bit x ((p - 3) / 4) else false) (eq-eqb ((p - 3) % 4) 0 (omega arith))
    ∙ ap (bit x) (omega arith))
    (λ entry. let others : ¬ (p % 4 ≡ 3) = eqb-false (p % 4) 3 entry in by (cases_lt p 3) others) where
      by : (p < 3) ⊎ (3 ≤ p) → ¬ (p % 4 ≡ 3) → bit (t * 8 % 65536) p ≡ false
      by (inl low) others = bit-up_below t 3 p h low
      by (inr high) others =
          bit-up_above t 3 p h high ∙ column (p - 3) (omega arith)
          ∙ ap (λ (b : Bool). if b then bit x ((p - 3) / 4) else false)
          (ne_eqb ((p - 3) % 4) 0 (λ (e : (p - 3) % 4 ≡ 0). others (omega arith)))

-- ---- both at once: a chip's own plane, and that of the chip before it

-- a bit that is that of the chip before where steps come in from there, and else the chip's own
by_entry_of_both : (entry : Bool) (x y q r : ℕ) (v w : Bool) → (entry ≡ true → v ≡ false) → (entry ≡ true → w ≡ bit y r)
    → (entry ≡ false → v ≡ bit x q) → (entry ≡ false → w ≡ false) → v || w ≡ (if entry then bit y r else bit x q)
by_entry_of_both true x y q r v w none there own nothing = (λ j. none refl j || there refl j)
by_entry_of_both false x y q r v w none there own nothing = (λ j. own refl j || nothing refl j) ∙ or-false (bit x q)

pub joined_north : (x y : ℕ) → x < 2 ^ 16 → (p : ℕ) → p < 16
    → bit (bit_or (x / 16) (y * 4096 % 65536)) p
    ≡ (if is_entry North p then bit y (at_edge North (bit_along_edge North p)) else bit x (one_back North p))
joined_north x y fits p h =
    bit-bit_or (x / 16) (y * 4096 % 65536) p
    ∙ by_entry_of_both (is_entry North p) x y (one_back North p) (at_edge North (bit_along_edge North p)) (bit (x / 16) p)
    (bit (y * 4096 % 65536) p)
    (λ entry. let last : p / 4 ≡ 3 = eqb-true (p / 4) 3 entry in
    bit-down x 4 p ∙ bit-past x 16 (4 + p) fits (omega arith))
    (λ entry. let last : p / 4 ≡ 3 = eqb-true (p / 4) 3 entry in
    bit-up_above y 12 p h (omega arith) ∙ ap (bit y) (omega arith))
    (λ entry. bit-down x 4 p ∙ ap (bit x) (omega arith))
    (λ entry. let others : ¬ (p / 4 ≡ 3) = eqb-false (p / 4) 3 entry in bit-up_below y 12 p h (omega arith))

pub joined_south : (x y : ℕ) → y < 2 ^ 16 → (p : ℕ) → p < 16
    → bit (bit_or (x * 16 % 65536) (y / 4096)) p
    ≡ (if is_entry South p then bit y (at_edge South (bit_along_edge South p)) else bit x (one_back South p))
joined_south x y fits p h =
    bit-bit_or (x * 16 % 65536) (y / 4096) p
    ∙ by_entry_of_both (is_entry South p) x y (one_back South p) (at_edge South (bit_along_edge South p))
    (bit (x * 16 % 65536) p) (bit (y / 4096) p)
    (λ entry. let first : p / 4 ≡ 0 = eqb-true (p / 4) 0 entry in bit-up_below x 4 p h (omega arith))
    (λ entry. let first : p / 4 ≡ 0 = eqb-true (p / 4) 0 entry in bit-down y 12 p ∙ ap (bit y) (omega arith))
    (λ entry. let others : ¬ (p / 4 ≡ 0) = eqb-false (p / 4) 0 entry in
    bit-up_above x 4 p h (omega arith) ∙ ap (bit x) (omega arith))
    (λ entry. let others : ¬ (p / 4 ≡ 0) = eqb-false (p / 4) 0 entry in
    bit-down y 12 p ∙ bit-past y 16 (12 + p) fits (omega arith))

-- a bit of a word of which those of some processors are kept
kept_bit : (x mask p : ℕ) (test : ℕ → Bool) (b : Bool) → bit mask p ≡ test p → test p ≡ b
    → bit (bit_and x mask) p ≡ bit x p && b
kept_bit x mask p test b is b_is = bit-bit_and x mask p ∙ ap (λ (v : Bool). bit x p && v) (is ∙ b_is)

pub joined_west : (x y p : ℕ) → p < 16
    → bit (bit_or (bit_and (x / 2) 30583) (bit_and (y * 8 % 65536) 34952)) p
    ≡ (if is_entry West p then bit y (at_edge West (bit_along_edge West p)) else bit x (one_back West p))
joined_west x y p h =
    let own = bits_by_test 30583 (λ k. not (k % 4 == 3)) refl p h in
    let there = bits_by_test 34952 (λ k. k % 4 == 3) refl p h in
    bit-bit_or (bit_and (x / 2) 30583) (bit_and (y * 8 % 65536) 34952) p
    ∙ by_entry_of_both (is_entry West p) x y (one_back West p) (at_edge West (bit_along_edge West p))
    (bit (bit_and (x / 2) 30583) p) (bit (bit_and (y * 8 % 65536) 34952) p)
    (λ entry. kept_bit (x / 2) 30583 p (λ k. not (k % 4 == 3)) false own (ap not entry) ∙ and-false (bit (x / 2) p))
    (λ entry. let last : p % 4 ≡ 3 = eqb-true (p % 4) 3 entry in
    kept_bit (y * 8 % 65536) 34952 p (λ k. k % 4 == 3) true there entry ∙ and-true (bit (y * 8 % 65536) p)
    ∙ bit-up_above y 3 p h (omega arith) ∙ ap (bit y) (omega arith))
    (λ entry. kept_bit (x / 2) 30583 p (λ k. not (k % 4 == 3)) true own (ap not entry) ∙ and-true (bit (x / 2) p)
    ∙ bit-down x 1 p ∙ ap (bit x) (omega arith))
    (λ entry. kept_bit (y * 8 % 65536) 34952 p (λ k. k % 4 == 3) false there entry ∙ and-false (bit (y * 8 % 65536) p))

pub joined_east : (x y p : ℕ) → p < 16
    → bit (bit_or (bit_and (x * 2 % 65536) 61166) (bit_and (y / 8) 4369)) p
    ≡ (if is_entry East p then bit y (at_edge East (bit_along_edge East p)) else bit x (one_back East p))
joined_east x y p h =
    let own = bits_by_test 61166 (λ k. not (k % 4 == 0)) refl p h in
    let there = bits_by_test 4369 (λ k. k % 4 == 0) refl p h in
    bit-bit_or (bit_and (x * 2 % 65536) 61166) (bit_and (y / 8) 4369) p
    ∙ by_entry_of_both (is_entry East p) x y (one_back East p) (at_edge East (bit_along_edge East p))
    (bit (bit_and (x * 2 % 65536) 61166) p) (bit (bit_and (y / 8) 4369) p)
    (λ entry. kept_bit (x * 2 % 65536) 61166 p (λ k. not (k % 4 == 0)) false own (ap not entry)
    ∙ and-false (bit (x * 2 % 65536) p))
    (λ entry. let first : p % 4 ≡ 0 = eqb-true (p % 4) 0 entry in
    kept_bit (y / 8) 4369 p (λ k. k % 4 == 0) true there entry ∙ and-true (bit (y / 8) p) ∙ bit-down y 3 p
    ∙ ap (bit y) (omega arith))
    (λ entry. let others : ¬ (p % 4 ≡ 0) = eqb-false (p % 4) 0 entry in
    kept_bit (x * 2 % 65536) 61166 p (λ k. not (k % 4 == 0)) true own (ap not entry) ∙ and-true (bit (x * 2 % 65536) p)
    ∙ bit-up_above x 1 p h (omega arith) ∙ ap (bit x) (omega arith))
    (λ entry. kept_bit (y / 8) 4369 p (λ k. k % 4 == 0) false there entry ∙ and-false (bit (y / 8) p))
