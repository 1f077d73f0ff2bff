-- Where an instruction stores, told by exclusive or.
use Rattle.std.proofs.Common.{◌≡◌, ℕ, ◌-◌, ◌<◌, ◌==◌, ◌||◌, Bool, true, false, not, cond, bit_xor, refl, sym, ap, ◌∙◌}
use Rattle.std.proofs.Common.{⊎_elim, arith}
use Rattle.std.proofs.lemmas.Bool.{cases_Bool}
use Rattle.std.specs.Bool.{beq}
use Rattle.std.proofs.lemmas.Nat.Bits.{bit_at_ones}
use Rattle.cm_bits.specs.Bit.{bit, differ}
use Rattle.cm_model.proofs.Bits.{bit-bit_xor, bit-zero}
use Rattle.cm_model.specs.Chip.{IsPlane, plane_bit}
use Rattle.cm_model.specs.Place.{predecessor}
use Rattle.cm_rows.specs.Rows.{stores, bit_before}

pub bit-all : (p : ℕ) → p < 16 → bit 65535 p ≡ true
bit-all p h = ap (λ (n : ℕ). n == 1) (bit_at_ones 16 p h)

turned_by : (sense b : Bool) → differ b (not sense) ≡ beq b sense
turned_by true true = refl
turned_by true false = refl
turned_by false true = refl
turned_by false false = refl

bit-turned : (sense : Bool) (turned p : ℕ) → turned ≡ cond sense 0 65535 → p < 16 → bit turned p ≡ not sense
bit-turned true turned p is h = ap (λ (w : ℕ). bit w p) is ∙ bit-zero p
bit-turned false turned p is h = ap (λ (w : ℕ). bit w p) is ∙ bit-all p h

pub bit-asked : (always sense : Bool) (condition turned p : ℕ) → always ≡ false → turned ≡ cond sense 0 65535 → p < 16
    → bit (bit_xor condition turned) p ≡ stores always sense (bit condition p)
bit-asked always sense condition turned p not_always is h =
    bit-bit_xor condition turned p
    ∙ ap (differ (bit condition p)) (bit-turned sense turned p is h)
    ∙ turned_by sense (bit condition p)
    ∙ ap (λ v. v || beq (bit condition p) sense) (sym not_always)

-- the bit before in a plane is that of what the plane has
pub bit-before : (plane : ℕ) (bits : ℕ → Bool) → IsPlane plane bits → (p : ℕ) → p < 16
    → plane_bit plane (predecessor p) ≡ bit_before bits (predecessor p)
bit-before plane bits is p h = ⊎_elim
    (λ (e : (p == 0) ≡ true). rw e refl)
    (λ (e : (p == 0) ≡ false). rw e (is (p - 1) (omega arith)))
    (cases_Bool (p == 0))
