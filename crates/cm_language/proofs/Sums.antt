-- Numbers by their bits: what runs of truth tables add up to.
use Rattle.std.proofs.Common.{◌≡◌, ℕ, suc, ◌+◌, ◌*◌, ◌%◌, ◌^◌, ◌<◌, ◌&&◌, Bool, true, false, not, eqb, ltb, leb, List}
use Rattle.std.proofs.Common.{[], ◌∷◌, ◌++◌, length, map, refl, sym, ap, ◌∙◌, arith, pow-suc}
use Rattle.std.proofs.Math.Nat.{mul_comm, mul_assoc, add_comm, mul-one, mul-zero}
use Rattle.std.proofs.lemmas.Nat.{mod-mul-add}
use Rattle.std.proofs.lemmas.Bool.Decides.{nat_tests}
use Rattle.std.specs.Bool.{beq}
use Rattle.cm_bits.specs.Bit.{bit_number}
use Rattle.cm_model.specs.Processor.{entry, value}

-- the bits that come out, where each act reads what the one before wrote
abbrev pub outs : ℕ → ℕ → Bool → List Bool → List Bool → List Bool
outs tm tf z [] ys = []
outs tm tf z (x ∷ xs) [] = []
outs tm tf z (x ∷ xs) (y ∷ ys) = entry tm x y z ∷ outs tm tf (entry tf x y z) xs ys

-- what the last one writes
abbrev pub carried : ℕ → Bool → List Bool → List Bool → Bool
carried tf z [] ys = z
carried tf z (x ∷ xs) [] = z
carried tf z (x ∷ xs) (y ∷ ys) = carried tf (entry tf x y z) xs ys

pub length-outs : (tm tf : ℕ) (z : Bool) (xs ys : List Bool) → length xs ≡ length ys
    → length (outs tm tf z xs ys) ≡ length xs
length-outs tm tf z [] ys h = refl
length-outs tm tf z (x ∷ xs) [] h = absurd (omega (arith, h))
length-outs tm tf z (x ∷ xs) (y ∷ ys) h = ap suc (length-outs tm tf (entry tf x y z) xs ys (omega (arith, h)))

-- ---- a sum of weights

-- a number for each pair of bits, by its place
abbrev pub total : (Bool → Bool → ℕ) → List Bool → List Bool → ℕ
total g [] ys = 0
total g (x ∷ xs) [] = 0
total g (x ∷ xs) (y ∷ ys) = g x y + 2 * total g xs ys

-- what both tables write of three bits is worth these bits
abbrev pub Adds : ℕ → ℕ → (Bool → Bool → ℕ) → Type 0
Adds tm tf g = (x y z : Bool) → bit_number (entry tm x y z) + 2 * bit_number (entry tf x y z) ≡ g x y + bit_number z

pub twice_power : (n c : ℕ) → 2 ^ suc n * c ≡ 2 * (2 ^ n * c)
twice_power n c = ap (λ (k : ℕ). k * c) (pow-suc 2 n ∙ mul_comm (2 ^ n) 2) ∙ mul_assoc 2 (2 ^ n) c

pub sum-outs : (tm tf : ℕ) (g : Bool → Bool → ℕ) → Adds tm tf g → (z : Bool) (xs ys : List Bool) → length xs ≡ length ys
    → value (outs tm tf z xs ys) + 2 ^ length xs * bit_number (carried tf z xs ys) ≡ total g xs ys + bit_number z
sum-outs tm tf g adds z [] ys h = omega arith
sum-outs tm tf g adds z (x ∷ xs) [] h = absurd (omega (arith, h))
sum-outs tm tf g adds z (x ∷ xs) (y ∷ ys) h =
    let rest : value (outs tm tf (entry tf x y z) xs ys)
    + 2 ^ length xs * bit_number (carried tf (entry tf x y z) xs ys) ≡ total g xs ys + bit_number (entry tf x y z) =
    sum-outs tm tf g adds (entry tf x y z) xs ys (omega (arith, h)) in
    omega (arith, rest, adds x y z, twice_power (length xs) (bit_number (carried tf (entry tf x y z) xs ys)))

-- ---- values

pub value_below : (bs : List Bool) → value bs < 2 ^ length bs
value_below [] = omega arith
value_below (true ∷ bs) = omega (arith, value_below bs, pow-suc 2 (length bs))
value_below (false ∷ bs) = omega (arith, value_below bs, pow-suc 2 (length bs))

pub value-append : (xs ys : List Bool) → value (xs ++ ys) ≡ value xs + 2 ^ length xs * value ys
value-append [] ys = omega arith
value-append (x ∷ xs) ys = omega (arith, value-append xs ys, twice_power (length xs) (value ys))

-- the bits the other way round
pub value-not : (bs : List Bool) → value (map not bs) + value bs + 1 ≡ 2 ^ length bs
value-not [] = refl
value-not (true ∷ bs) = omega (arith, value-not bs, pow-suc 2 (length bs))
value-not (false ∷ bs) = omega (arith, value-not bs, pow-suc 2 (length bs))

-- the number below a power and the multiple of it
pub low_part : (n v c s : ℕ) → v < n → v + n * c ≡ s → v ≡ s % n
low_part n v c s h e = sym (ap (λ (k : ℕ). k % n) (sym e ∙ add_comm v (n * c))
    ∙ ap (λ (k : ℕ). (k + v) % n) (mul_comm n c) ∙ mod-mul-add c n v h)

pub high_part : (n v s : ℕ) (c : Bool) → v < n → v + n * bit_number c ≡ s → c ≡ leb n s
high_part n v s true h e = grind (arith, nat_tests, e, mul-one n)
high_part n v s false h e = grind (arith, nat_tests, e, mul-zero n)

-- ---- what each macro adds up

-- add
abbrev pub both : Bool → Bool → ℕ
both x y = bit_number x + bit_number y

pub total-both : (xs ys : List Bool) → length xs ≡ length ys → total both xs ys ≡ value xs + value ys
total-both [] [] h = refl
total-both [] (y ∷ ys) h = absurd (omega (arith, h))
total-both (x ∷ xs) [] h = absurd (omega (arith, h))
total-both (x ∷ xs) (y ∷ ys) h = omega (arith, total-both xs ys (omega (arith, h)))

-- sub
abbrev pub first_but_second : Bool → Bool → ℕ
first_but_second x y = bit_number x + bit_number (not y)

pub total-first_but_second : (xs ys : List Bool) → length xs ≡ length ys
    → total first_but_second xs ys ≡ value xs + value (map not ys)
total-first_but_second [] [] h = refl
total-first_but_second [] (y ∷ ys) h = absurd (omega (arith, h))
total-first_but_second (x ∷ xs) [] h = absurd (omega (arith, h))
total-first_but_second (x ∷ xs) (y ∷ ys) h = omega (arith, total-first_but_second xs ys (omega (arith, h)))

-- shift: twice the first operand, whatever the second
abbrev pub first_twice : Bool → Bool → ℕ
first_twice x y = 2 * bit_number x

pub total-first_twice : (xs ys : List Bool) → length xs ≡ length ys → total first_twice xs ys ≡ 2 * value xs
total-first_twice [] [] h = refl
total-first_twice [] (y ∷ ys) h = absurd (omega (arith, h))
total-first_twice (x ∷ xs) [] h = absurd (omega (arith, h))
total-first_twice (x ∷ xs) (y ∷ ys) h = omega (arith, total-first_twice xs ys (omega (arith, h)))

pub adds_sum : Adds 0x96 0xe8 both
adds_sum true true true = refl
adds_sum true true false = refl
adds_sum true false true = refl
adds_sum true false false = refl
adds_sum false true true = refl
adds_sum false true false = refl
adds_sum false false true = refl
adds_sum false false false = refl

pub adds_difference : Adds 0x69 0xb2 first_but_second
adds_difference true true true = refl
adds_difference true true false = refl
adds_difference true false true = refl
adds_difference true false false = refl
adds_difference false true true = refl
adds_difference false true false = refl
adds_difference false false true = refl
adds_difference false false false = refl

pub adds_twice : Adds 0xaa 0xf0 first_twice
adds_twice true true true = refl
adds_twice true true false = refl
adds_twice true false true = refl
adds_twice true false false = refl
adds_twice false true true = refl
adds_twice false true false = refl
adds_twice false false true = refl
adds_twice false false false = refl

-- ---- comparisons

-- a borrow, and the difference's bit beside it
borrows : (x y z : Bool)
    → bit_number (entry 0x96 x y z) + bit_number y + bit_number z ≡ bit_number x + 2 * bit_number (entry 0x8e x y z)
borrows true true true = refl
borrows true true false = refl
borrows true false true = refl
borrows true false false = refl
borrows false true true = refl
borrows false true false = refl
borrows false false true = refl
borrows false false false = refl

sum-borrows : (z : Bool) (xs ys : List Bool) → length xs ≡ length ys
    → value (outs 0x96 0x8e z xs ys) + value ys + bit_number z
    ≡ value xs + 2 ^ length xs * bit_number (carried 0x8e z xs ys)
sum-borrows z [] [] h = omega arith
sum-borrows z [] (y ∷ ys) h = absurd (omega (arith, h))
sum-borrows z (x ∷ xs) [] h = absurd (omega (arith, h))
sum-borrows z (x ∷ xs) (y ∷ ys) h =
    let rest : value (outs 0x96 0x8e (entry 0x8e x y z) xs ys) + value ys + bit_number (entry 0x8e x y z)
    ≡ value xs + 2 ^ length xs * bit_number (carried 0x8e (entry 0x8e x y z) xs ys) =
    sum-borrows (entry 0x8e x y z) xs ys (omega (arith, h)) in
    omega (arith, rest, borrows x y z, twice_power (length xs) (bit_number (carried 0x8e (entry 0x8e x y z) xs ys)))

less_part : (n d x y : ℕ) (c : Bool) → d < n → d + y + 0 ≡ x + n * bit_number c → c ≡ ltb x y
less_part n d x y true h e = grind (arith, nat_tests, e, mul-one n)
less_part n d x y false h e = grind (arith, nat_tests, e, mul-zero n)

pub carried-less : (xs ys : List Bool) → length xs ≡ length ys → carried 0x8e false xs ys ≡ ltb (value xs) (value ys)
carried-less xs ys h =
    let small : value (outs 0x96 0x8e false xs ys) < 2 ^ length xs =
    (let e : length (outs 0x96 0x8e false xs ys) ≡ length xs = length-outs 0x96 0x8e false xs ys h in
    let b : value (outs 0x96 0x8e false xs ys) < 2 ^ length (outs 0x96 0x8e false xs ys) =
    value_below (outs 0x96 0x8e false xs ys) in
    rw e at b) in
    less_part (2 ^ length xs) (value (outs 0x96 0x8e false xs ys)) (value xs) (value ys) (carried 0x8e false xs ys)
    small (sum-borrows false xs ys h)

eqb-bits : (x y : Bool) (m n : ℕ) → eqb (bit_number x + 2 * m) (bit_number y + 2 * n) ≡ (beq x y && eqb m n)
eqb-bits true true m n = grind (arith, nat_tests)
eqb-bits true false m n = grind (arith, nat_tests)
eqb-bits false true m n = grind (arith, nat_tests)
eqb-bits false false m n = grind (arith, nat_tests)

equal_step : (x y z r : Bool) → (entry 0x82 x y z && r) ≡ (z && (beq x y && r))
equal_step true true true r = refl
equal_step true true false r = refl
equal_step true false true r = refl
equal_step true false false r = refl
equal_step false true true r = refl
equal_step false true false r = refl
equal_step false false true r = refl
equal_step false false false r = refl

carried-equal : (z : Bool) (xs ys : List Bool) → length xs ≡ length ys
    → carried 0x82 z xs ys ≡ (z && eqb (value xs) (value ys))
carried-equal true [] [] h = refl
carried-equal false [] [] h = refl
carried-equal z [] (y ∷ ys) h = absurd (omega (arith, h))
carried-equal z (x ∷ xs) [] h = absurd (omega (arith, h))
carried-equal z (x ∷ xs) (y ∷ ys) h =
    carried-equal (entry 0x82 x y z) xs ys (omega (arith, h)) ∙ equal_step x y z (eqb (value xs) (value ys))
    ∙ ap (λ (r : Bool). z && r) (sym (eqb-bits x y (value xs) (value ys)))

pub carried-equal_all : (xs ys : List Bool) → length xs ≡ length ys
    → carried 0x82 true xs ys ≡ eqb (value xs) (value ys)
carried-equal_all xs ys h = carried-equal true xs ys h

-- ---- tables of one bit

pub table_a : (x y z : Bool) → entry 0xf0 x y z ≡ x
table_a true true true = refl
table_a true true false = refl
table_a true false true = refl
table_a true false false = refl
table_a false true true = refl
table_a false true false = refl
table_a false false true = refl
table_a false false false = refl

pub table_b : (x y z : Bool) → entry 0xcc x y z ≡ y
table_b true true true = refl
table_b true true false = refl
table_b true false true = refl
table_b true false false = refl
table_b false true true = refl
table_b false true false = refl
table_b false false true = refl
table_b false false false = refl

pub table_0 : (x y z : Bool) → entry 0x00 x y z ≡ false
table_0 true true true = refl
table_0 true true false = refl
table_0 true false true = refl
table_0 true false false = refl
table_0 false true true = refl
table_0 false true false = refl
table_0 false false true = refl
table_0 false false false = refl

pub table_1 : (x y z : Bool) → entry 0xff x y z ≡ true
table_1 true true true = refl
table_1 true true false = refl
table_1 true false true = refl
table_1 true false false = refl
table_1 false true true = refl
table_1 false true false = refl
table_1 false false true = refl
table_1 false false false = refl

pub table_choice_0 : (x y : Bool) → entry 0xd8 x y false ≡ x
table_choice_0 true true = refl
table_choice_0 true false = refl
table_choice_0 false true = refl
table_choice_0 false false = refl

pub table_choice_1 : (x y : Bool) → entry 0xd8 x y true ≡ y
table_choice_1 true true = refl
table_choice_1 true false = refl
table_choice_1 false true = refl
table_choice_1 false false = refl

-- memory stays where the first bit is written again
pub outs-first : (tf : ℕ) (z : Bool) (xs ys : List Bool) → length xs ≡ length ys → outs 0xf0 tf z xs ys ≡ xs
outs-first tf z [] ys h = refl
outs-first tf z (x ∷ xs) [] h = absurd (omega (arith, h))
outs-first tf z (x ∷ xs) (y ∷ ys) h = λ i. table_a x y z i ∷ outs-first tf (entry tf x y z) xs ys (omega (arith, h)) i
