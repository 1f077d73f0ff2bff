-- Choices made by exclusive or, as the code makes them.
use Rattle.std.proofs.Common.{◌≡◌, ℕ, ◌+◌, ◌-◌, ◌%◌, ◌<◌, zero, suc, Bool, true, false, ◌&&◌, ◌==◌, ap, ◌∙◌, arith}
use Rattle.std.proofs.lemmas.Nat.Bits.{bit_at-zero, bit_at_ones}
use Rattle.cm_bits.specs.Bit.{bit, differ}
use Rattle.cm_model.specs.Processor.{entry}
use Rattle.cm_model.proofs.Bits.{differ-false, differ_chosen, differ_crossed}
use Rattle.cm_truth.specs.Choice.{chosen_of_four}

-- the choice of four by two choices of differences
pub four_chosen : (b f w x y z : Bool) → differ (differ w (f && differ w x))
    (b && differ (differ w y) (f && differ (differ w x) (differ y z))) ≡ chosen_of_four b f w x y z
four_chosen false f w x y z = differ-false (differ w (f && differ w x)) ∙ differ_chosen f w x
four_chosen true false w x y z = ap (λ (v : Bool). differ v (differ (differ w y) false)) (differ-false w)
    ∙ ap (differ w) (differ-false (differ w y)) ∙ differ_chosen true w y
four_chosen true true w x y z =
    ap (λ (v : Bool). differ v (differ (differ w y) (differ (differ w x) (differ y z)))) (differ_chosen true w x)
    ∙ ap (differ x) (differ_crossed true w x y z) ∙ differ_chosen true x z

-- the choice between four and their differences from four others is a choice of eight
pub eight_chosen : (table : ℕ) (a b f : Bool)
    → differ (chosen_of_four b f (bit table 0) (bit table 1) (bit table 2) (bit table 3))
    (a && chosen_of_four b f (differ (bit table 0) (bit table 4)) (differ (bit table 1) (bit table 5))
    (differ (bit table 2) (bit table 6)) (differ (bit table 3) (bit table 7)))
    ≡ entry table a b f
eight_chosen table false false false = differ_chosen false (bit table 0) (bit table 4)
eight_chosen table false false true = differ_chosen false (bit table 1) (bit table 5)
eight_chosen table false true false = differ_chosen false (bit table 2) (bit table 6)
eight_chosen table false true true = differ_chosen false (bit table 3) (bit table 7)
eight_chosen table true false false = differ_chosen true (bit table 0) (bit table 4)
eight_chosen table true false true = differ_chosen true (bit table 1) (bit table 5)
eight_chosen table true true false = differ_chosen true (bit table 2) (bit table 6)
eight_chosen table true true true = differ_chosen true (bit table 3) (bit table 7)

-- 0 less a bit, wrapped, is that bit everywhere
pub spread : (b : ℕ) → b < 2 → (p : ℕ) → p < 16 → bit ((0 + (65536 - b)) % 65536) p ≡ (b == 1)
spread zero _ p h = ap (λ (n : ℕ). n == 1) (bit_at-zero p)
spread (suc zero) _ p h = ap (λ (n : ℕ). n == 1) (bit_at_ones 16 p h)
spread (suc (suc b)) h _ _ = absurd (omega arith)
