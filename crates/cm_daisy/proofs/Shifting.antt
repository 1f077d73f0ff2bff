-- The bits of a plane that is shifted up by one place.
use Rattle.std.proofs.Common.{◌≡◌, ℕ, ◌-◌, ◌*◌, ◌%◌, ◌<◌, ◌==◌, Bool, None, Some, if◌then◌else◌, zero, suc, ap, ◌∙◌}
use Rattle.std.proofs.Common.{sym, arith, ne_eqb}
use Rattle.std.specs.Int.{bit_at}
use Rattle.std.proofs.lemmas.Nat.{pow_pos}
use Rattle.std.proofs.lemmas.Nat.Bits.{bit_at_cat_low, bit_at_cat_high, bit_at-zero}
use Rattle.cm_bits.specs.Bit.{bit}
use Rattle.cm_model.proofs.Bits.{bit_at-cut}
use Rattle.cm_model.specs.Place.{predecessor}
use Rattle.cm_model.specs.Chip.{plane_bit}

-- a processor with one before it has that one's bit
predecessor-suc : (p : ℕ) → predecessor (suc p) ≡ Some p
predecessor-suc p =
    ap (λ (b : Bool). if b then None else Some (suc p - 1)) (ne_eqb (suc p) 0 (λ e. omega arith))
    ∙ ap Some (omega arith)

pub bit-shifted : (x p : ℕ) → p < 16 → bit (x * 2 % 65536) p ≡ plane_bit x (predecessor p)
bit-shifted x zero h =
    ap (λ (n : ℕ). n == 1) (bit_at-cut (x * 2) 16 0 h ∙ ap (λ (n : ℕ). bit_at n 0) (omega arith)
    ∙ bit_at_cat_low x 1 0 0 (omega arith) ∙ bit_at-zero 0)
bit-shifted x (suc p) h =
    ap (λ (n : ℕ). n == 1) (bit_at-cut (x * 2) 16 (suc p) h ∙ ap (λ (n : ℕ). bit_at n (suc p)) (omega arith)
    ∙ bit_at_cat_high x 1 0 (suc p) (pow_pos 1) (omega arith) ∙ ap (bit_at x) (omega arith))
    ∙ sym (ap (plane_bit x) (predecessor-suc p))
