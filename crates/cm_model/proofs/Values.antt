-- Numbers by their bits: a word is the value of its bits, and a plane is told by them.
use Rattle.std.proofs.Common.{◌≡◌, ℕ, ◌+◌, ◌*◌, ◌/◌, ◌%◌, ◌^◌, ◌<◌, zero, suc, Bool, map, ◌==◌, refl, sym, ap, ◌∙◌}
use Rattle.std.proofs.Common.{arith, div-one, mod-eq_of_lt, add-one, lit<, false, pow-suc, pow_pos}
use Rattle.std.proofs.Math.Nat.{div-div-eq-div-mul, mod-one}
use Rattle.std.proofs.Math.Arith.{mod-mul}
use Rattle.std.specs.Int.{bit_at}
use Rattle.std.specs.List.{range_with_len}
use Rattle.std.proofs.lemmas.Nat.Bits.{bit_at-lt}
use Rattle.cm_bits.specs.Bit.{bit, bit_number}
use Rattle.cm_model.specs.Processor.{value}
use Rattle.cm_model.specs.Each.{tabulate}
use Rattle.cm_model.specs.Chip.{IsPlane, plane_number}
use Rattle.cm_model.proofs.Each.{same_each_below}

number_of_bit : (u : ℕ) → u < 2 → bit_number (u == 1) ≡ u
number_of_bit zero _ = refl
number_of_bit (suc zero) _ = refl
number_of_bit (suc (suc u)) h = absurd (omega arith)

halved : (word first : ℕ) → word / 2 ^ (first + 1) ≡ word / 2 ^ first / 2
halved word first = rw (add-one, pow-suc) (sym (div-div-eq-div-mul word (2 ^ first) 2))

-- the bits of a word from one on, as many as are asked for
pub value-bits : (count first word : ℕ)
    → value (map (bit word) (range_with_len first count)) ≡ word / 2 ^ first % 2 ^ count
value-bits zero first word = sym (mod-one (word / 2 ^ first))
value-bits (suc count) first word =
    let low : bit_number (bit word first) ≡ word / 2 ^ first % 2 =
    number_of_bit (bit_at word first) (bit_at-lt word first) in
    let high : value (map (bit word) (range_with_len (first + 1) count)) ≡ word / 2 ^ first / 2 % 2 ^ count =
    value-bits count (first + 1) word ∙ ap (λ (q : ℕ). q % 2 ^ count) (halved word first) in
    let split : word / 2 ^ first % (2 ^ count * 2) ≡ (word / 2 ^ first / 2 % 2 ^ count) * 2 + word / 2 ^ first % 2 =
    mod-mul (word / 2 ^ first) {m = 2 ^ count} {c = 2} (pow_pos count) (lit< tt) in
    rw (low, high, pow-suc, split) (omega arith)

-- a list of bits is worth the word that has them
pub value-each : (count word : ℕ) (f : ℕ → Bool) → ((p : ℕ) → p < count → bit word p ≡ f p)
    → value (tabulate 0 count f) ≡ word % 2 ^ count
unfolding tabulate
value-each count word f is =
    ap value (sym (same_each_below false count (bit word) f is)) ∙ value-bits count 0 word
    ∙ ap (λ (q : ℕ). q % 2 ^ count) (div-one word)

-- a word below 2 ^ 16 is the number of the plane whose bits it has
pub plane_number-is : (word : ℕ) (f : ℕ → Bool) → word < 2 ^ 16 → IsPlane word f → word ≡ plane_number f
unfolding plane_number
plane_number-is word f fits is = sym (value-each 16 word f is ∙ mod-eq_of_lt fits)
