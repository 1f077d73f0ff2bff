-- Fields and numbers: what runs of bits in a field are worth.
use Rattle.std.proofs.Common.{◌≡◌, ℕ, zero, suc, ◌+◌, ◌*◌, ◌%◌, ◌^◌, ◌<◌, ◌≤◌, Bool, true, false, leb, List, [], ◌∷◌}
use Rattle.std.proofs.Common.{◌++◌, length, take, drop, map, refl, sym, ap, ◌∙◌, arith}
use Rattle.std.proofs.Math.Nat.{mod-eq_of_lt, div-one}
use Rattle.std.specs.List.{range_with_len}
use Rattle.std.specs.Prelude.{if◌then◌else◌}
use Rattle.cm_bits.specs.Bit.{bit, bit_number}
use Rattle.cm_bits.specs.Span.{Span}
use Rattle.cm_model.specs.Processor.{Processor, value, field_value, entry}
use Rattle.cm_model.specs.Letters.{bits_of, with_field}
use Rattle.cm_model.proofs.Values.{value-bits}
use Rattle.cm_model.proofs.Wholes.{length-bits_of}
use Rattle.cm_language.specs.Effect.{value_of}
use Rattle.cm_language.proofs.Bits.{reads, writes, reads-is, writes-is}
use Rattle.cm_language.proofs.Sums.{outs, carried, total, Adds, sum-outs, length-outs, value_below, low_part, high_part}
use Rattle.cm_language.proofs.Sums.{table_0, table_1}
use Rattle.cm_language.proofs.Loops.{choices}

-- ---- a number tells its bits

same_bits : (xs ys : List Bool) → length xs ≡ length ys → value xs ≡ value ys → xs ≡ ys
same_bits [] [] h e = refl
same_bits [] (y ∷ ys) h e = absurd (omega (arith, h))
same_bits (x ∷ xs) [] h e = absurd (omega (arith, h))
same_bits (true ∷ xs) (true ∷ ys) h e = ap (λ bs. true ∷ bs) (same_bits xs ys (omega (arith, h)) (omega (arith, e)))
same_bits (true ∷ xs) (false ∷ ys) h e = absurd (omega (arith, e))
same_bits (false ∷ xs) (true ∷ ys) h e = absurd (omega (arith, e))
same_bits (false ∷ xs) (false ∷ ys) h e = ap (λ bs. false ∷ bs) (same_bits xs ys (omega (arith, h)) (omega (arith, e)))

pub value-bits_of : (n v : ℕ) → value (bits_of n v) ≡ v % 2 ^ n
value-bits_of n v = value-bits n 0 v ∙ ap (λ (q : ℕ). q % 2 ^ n) (div-one v)

pub bits_of-value : (bs : List Bool) (n : ℕ) → length bs ≡ n → bs ≡ bits_of n (value bs)
bits_of-value bs n long =
    let below : value bs < 2 ^ n = rw long at (value_below bs) in
    same_bits bs (bits_of n (value bs)) (long ∙ sym (length-bits_of n (value bs)))
    (sym (value-bits_of n (value bs) ∙ mod-eq_of_lt below))

-- ---- a field

-- a number that is written bit by bit
pub writes-bits_of : (m : List Bool) (at len v : ℕ) → at + len ≤ length m
    → writes m at (bits_of len v) ≡ with_field m at len v
unfolding with_field
writes-bits_of m at len v fits =
    let long : length (bits_of len v) ≡ len = length-bits_of len v in
    let room : at + length (bits_of len v) ≤ length m = omega (arith, long) in
    writes-is m at (bits_of len v) room ∙ ap (λ (k : ℕ). take at m ++ (bits_of len v ++ drop (at + k) m)) long

-- bits that are written are their value
pub stored : (m : List Bool) (at len : ℕ) (bs : List Bool) (v : ℕ) → at + len ≤ length m → length bs ≡ len
    → value bs ≡ v → writes m at bs ≡ with_field m at len v
stored m at len bs v fits long is =
    ap (writes m at) (bits_of-value bs len long ∙ ap (bits_of len) is) ∙ writes-bits_of m at len v fits

-- the number in a field is worth its bits
pub read_value : (p : Processor) (f : Span) → f.at + f.len ≤ length p.memory
    → value_of p f ≡ value (reads p.memory f.at f.len)
unfolding field_value
read_value p f fits = sym (ap value (reads-is p.memory f.at f.len fits))

-- ---- sums

-- what comes out of a ripple, and what is carried out of it
pub record IsSum (n s : ℕ) (bs : List Bool) (c : Bool) : Type 0 where
  pub long : length bs ≡ n
  pub low : value bs ≡ s % 2 ^ n
  pub high : c ≡ leb (2 ^ n) s

pub is_sum : (tm tf : ℕ) (g : Bool → Bool → ℕ) → Adds tm tf g → (z : Bool) (xs ys : List Bool) (n s : ℕ)
    → length xs ≡ n → length ys ≡ n
    → total g xs ys + bit_number z ≡ s → IsSum n s (outs tm tf z xs ys) (carried tf z xs ys)
is_sum tm tf g adds z xs ys n s hx hy is =
    let same : length xs ≡ length ys = hx ∙ sym hy in
    let long : length (outs tm tf z xs ys) ≡ n = length-outs tm tf z xs ys same ∙ hx in
    let small : value (outs tm tf z xs ys) < 2 ^ n = rw long at (value_below (outs tm tf z xs ys)) in
    let all : value (outs tm tf z xs ys) + 2 ^ n * bit_number (carried tf z xs ys) ≡ s =
    (rw hx at (sum-outs tm tf g adds z xs ys same)) ∙ is in
    record {
      long = long;
      low = low_part (2 ^ n) (value (outs tm tf z xs ys)) (bit_number (carried tf z xs ys)) s small all;
      high = high_part (2 ^ n) (value (outs tm tf z xs ys)) s (carried tf z xs ys) small all;
    }

-- ---- choices

table_of_bit : (b x y z : Bool) → entry (if b then 0xff else 0x00) x y z ≡ b
table_of_bit true x y z = table_1 x y z
table_of_bit false x y z = table_0 x y z

pub choices-number : (v : ℕ) (z : Bool) (j n : ℕ) (xs ys : List Bool) → length xs ≡ n → length ys ≡ n
    → choices (λ i. if bit v i then 0xff else 0x00) z j xs ys ≡ map (bit v) (range_with_len j n)
choices-number v z j zero [] ys hx hy = refl
choices-number v z j zero (x ∷ xs) ys hx hy = absurd (omega (arith, hx))
choices-number v z j (suc n) [] ys hx hy = absurd (omega (arith, hx))
choices-number v z j (suc n) (x ∷ xs) [] hx hy = absurd (omega (arith, hy))
choices-number v z j (suc n) (x ∷ xs) (y ∷ ys) hx hy =
    λ i. table_of_bit (bit v j) x y z i ∷ choices-number v z (j + 1) n xs ys (omega (arith, hx)) (omega (arith, hy)) i

pub choices-second : (t : ℕ) (z : Bool) → ((x y : Bool) → entry t x y z ≡ y) → (j : ℕ) (xs ys : List Bool)
    → length xs ≡ length ys → choices (λ i. t) z j xs ys ≡ ys
choices-second t z h j [] [] e = refl
choices-second t z h j [] (y ∷ ys) e = absurd (omega (arith, e))
choices-second t z h j (x ∷ xs) [] e = absurd (omega (arith, e))
choices-second t z h j (x ∷ xs) (y ∷ ys) e = λ i. h x y i ∷ choices-second t z h (j + 1) xs ys (omega (arith, e)) i

pub choices-first : (t : ℕ) (z : Bool) → ((x y : Bool) → entry t x y z ≡ x) → (j : ℕ) (xs ys : List Bool)
    → length xs ≡ length ys → choices (λ i. t) z j xs ys ≡ xs
choices-first t z h j [] ys e = refl
choices-first t z h j (x ∷ xs) [] e = absurd (omega (arith, e))
choices-first t z h j (x ∷ xs) (y ∷ ys) e = λ i. h x y i ∷ choices-first t z h (j + 1) xs ys (omega (arith, e)) i
