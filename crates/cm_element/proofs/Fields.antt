-- The value of a memory field, from its top bit down, or sixteen bits at once.
use Rattle.std.proofs.Common.{◌≡◌, ℕ, ◌+◌, ◌-◌, ◌*◌, ◌%◌, ◌^◌, ◌<◌, ◌≤◌, zero, suc, Bool, true, false, List, [], ◌∷◌, length}
use Rattle.std.proofs.Common.{map, take, drop, get_or, refl, sym, ap, ◌∙◌, arith, add-one, pow-suc}
use Rattle.std.proofs.Common.{lit<, length-take, ⊎_elim}
use Rattle.std.proofs.lemmas.Bool.{cases_lt}
use Rattle.std.proofs.Math.Nat.{mul-zero, mul_comm, mul_assoc}
use Rattle.std.proofs.Math.Seq.{drop-cons, drop-drop}
use Rattle.std.proofs.lemmas.List.{length-map, get_or-take, get_or-drop, get_or_past}
use Rattle.std.proofs.Math.Pow.{pow_mono}
use mir.Val.{bool_byte}
use Rattle.cm_bits.specs.Bit.{bit, bit_number}
use Rattle.cm_model.specs.Processor.{Processor, memory_bit, value, field_value}
use Rattle.cm_model.proofs.Messages.{field_value-lt}
use Rattle.cm_element.proofs.Planes.{bit_in_row}

-- a field's lowest bit and the field of the others
field-lowest : (processor : Processor) (a n : ℕ) → a < length processor.memory
    → field_value processor a (suc n) ≡ bit_number (memory_bit processor a) + 2 * field_value processor (suc a) n
unfolding field_value
field-lowest processor a n inside = ap (λ bits. value (take (suc n) bits)) (drop-cons processor.memory a false inside)

value-nothing : (n : ℕ) → value (take n []) ≡ 0
value-nothing zero = refl
value-nothing (suc n) = refl

-- the lowest bits of a number, and the others
value-parts : (low high : ℕ) (bits : List Bool)
    → value (take (low + high) bits) ≡ value (take low bits) + 2 ^ low * value (take high (drop low bits))
value-parts zero high bits =
    let all : 0 + high ≡ high = omega arith in
    let alone : value (take high bits) ≡ 0 + 1 * value (take high bits) = omega arith in
    ap (λ (n : ℕ). value (take n bits)) all ∙ alone
value-parts (suc low) high [] =
    let above : 2 ^ suc low * value (take high []) ≡ 0 = ap (λ (n : ℕ). 2 ^ suc low * n) (value-nothing high)
    ∙ mul-zero (2 ^ suc low) in
    let both : 0 ≡ 0 + 2 ^ suc low * value (take high []) = omega (arith, above) in
    value-nothing (suc low + high) ∙ both
value-parts (suc low) high (b ∷ bits) =
    let next : suc low + high ≡ suc (low + high) = omega arith in
    let rest : value (take (low + high) bits) ≡ value (take low bits) + 2 ^ low * value (take high (drop low bits)) =
    value-parts low high bits in
    let twice : 2 ^ suc low * value (take high (drop low bits)) ≡ 2 * (2 ^ low * value (take high (drop low bits))) =
    ap (λ (n : ℕ). n * value (take high (drop low bits))) (pow-suc 2 low ∙ mul_comm (2 ^ low) 2)
    ∙ mul_assoc 2 (2 ^ low) (value (take high (drop low bits))) in
    ap (λ (n : ℕ). value (take n (b ∷ bits))) next ∙ omega (arith, rest, twice)

-- sixteen more bits below the topmost bits of a field
pub field-sixteen_lower : (processor : Processor) (at n top number : ℕ) → top ≡ field_value processor (at + 16) n
    → number ≡ field_value processor at 16
    → top * 65536 + number ≡ field_value processor at (16 + n)
unfolding field_value
field-sixteen_lower processor at n top number top_is number_is =
    let both : value (take (16 + n) (drop at processor.memory))
    ≡ value (take 16 (drop at processor.memory)) + 65536 * value (take n (drop 16 (drop at processor.memory))) =
    value-parts 16 n (drop at processor.memory) in
    let above : value (take n (drop 16 (drop at processor.memory))) ≡ value (take n (drop (at + 16) processor.memory)) =
    ap (λ bits. value (take n bits)) (drop-drop 16 at processor.memory) in
    omega (arith, both, above, top_is, number_is)

-- the four lowest bits of sixteen
pub field-low_four : (processor : Processor) (at number : ℕ) → number ≡ field_value processor at 16
    → number % 16 ≡ field_value processor at 4
unfolding field_value
field-low_four processor at number is =
    let both : value (take 16 (drop at processor.memory))
    ≡ value (take 4 (drop at processor.memory)) + 16 * value (take 12 (drop 4 (drop at processor.memory))) =
    value-parts 4 12 (drop at processor.memory) in
    omega (arith, both, is, field_value-lt processor at 4)

-- a field's value is below any power of two of as many bits or more
pub field_below : (processor : Processor) (at len most number : ℕ) → number ≡ field_value processor at len
    → len ≤ most → number < 2 ^ most
field_below processor at len most number is few =
    let more : 2 ^ len ≤ 2 ^ most = pow_mono few in
    omega (arith, is, field_value-lt processor at len, more)

-- two lists with the same bits have the same value, though one may end before the other
same_value : (xs ys : List Bool) → ((k : ℕ) → get_or xs k false ≡ get_or ys k false) → value xs ≡ value ys
same_value [] [] same = refl
same_value [] (y ∷ ys) same =
    let rest : 0 ≡ value ys = same_value [] ys (λ k. same (suc k)) in
    let lowest : 0 ≡ bit_number y = ap bit_number (same 0) in
    omega (arith, rest, lowest)
same_value (x ∷ xs) [] same =
    let rest : value xs ≡ 0 = same_value xs [] (λ k. same (suc k)) in
    let lowest : bit_number x ≡ 0 = ap bit_number (same 0) in
    omega (arith, rest, lowest)
same_value (x ∷ xs) (y ∷ ys) same =
    let rest : value xs ≡ value ys = same_value xs ys (λ k. same (suc k)) in
    let lowest : bit_number x ≡ bit_number y = ap bit_number (same 0) in
    omega (arith, rest, lowest)

-- sixteen bits of a field, as they stand in the planes
pub sixteen_planes : (processor : Processor) (planes : List ℕ) (p at : ℕ) → length planes ≡ 16
    → ((k : ℕ) → k < 16 → bit (get_or planes k 0) p ≡ memory_bit processor (at + k))
    → value (map (λ plane. bit plane p) planes) ≡ field_value processor at 16
unfolding field_value
sixteen_planes processor planes p at long are =
    let bits : List Bool = map (λ plane. bit plane p) planes in
    let field : List Bool = take 16 (drop at processor.memory) in
    let bits_long : length bits ≡ 16 = length-map planes (λ plane. bit plane p) ∙ long in
    same_value bits field (λ k. ⊎_elim
    (λ (below : k < 16). bit_in_row planes k p ∙ are k below
    ∙ sym (get_or-take 16 (drop at processor.memory) k false below ∙ get_or-drop at processor.memory k false))
    (λ (past : 16 ≤ k). get_or_past bits k false (omega (arith, bits_long))
    ∙ sym (get_or_past field k false (omega (arith, length-take 16 (drop at processor.memory)))))
    (cases_lt k 16))

-- one more bit below the topmost bits of a field
pub field-one_lower : (processor : Processor) (at len n top number : ℕ) → n < len → at + len ≤ length processor.memory
    → top ≡ field_value processor (at + (len - n)) n
    → number ≡ bit_number (memory_bit processor (at + (len - (n + 1))))
    → top * 2 + number ≡ field_value processor (at + (len - (n + 1))) (n + 1)
field-one_lower processor at len n top number below within top_is number_is =
    let inside : at + (len - (n + 1)) < length processor.memory = omega arith in
    let above : suc (at + (len - (n + 1))) ≡ at + (len - n) = omega arith in
    let more : field_value processor (at + (len - (n + 1))) (n + 1)
    ≡ bit_number (memory_bit processor (at + (len - (n + 1)))) + 2 * field_value processor (at + (len - n)) n =
    ap (field_value processor (at + (len - (n + 1)))) (add-one n)
    ∙ field-lowest processor (at + (len - (n + 1))) n inside
    ∙ ap (λ (a : ℕ). bit_number (memory_bit processor (at + (len - (n + 1)))) + 2 * field_value processor a n) above in
    omega (arith, more, top_is, number_is)

-- one more bit, and the number stays below a power of two
pub one_more_bit : (top number n : ℕ) → top < 2 ^ n → number < 2 → top * 2 + number < 2 ^ (n + 1)
one_more_bit top number n h b = rw (add-one, pow-suc) (omega arith)

-- a bit as a number
pub bit_number-lt : (b : Bool) → bit_number b < 2
bit_number-lt true = lit< tt
bit_number-lt false = lit< tt

-- a bit as the code makes a number of it
pub bool_byte-is : (b : Bool) → bool_byte b ≡ bit_number b
bool_byte-is true = refl
bool_byte-is false = refl
