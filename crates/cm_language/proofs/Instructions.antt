-- Lists of instructions under a context have numbers in their ranges.
use Rattle.std.proofs.Common.{◌≡◌, ℕ, zero, suc, ◌+◌, ◌-◌, ◌<◌, ◌≤◌, Bool, true, false, ◌&&◌, if◌then◌else◌, List, []}
use Rattle.std.proofs.Common.{◌∷◌, ◌++◌, map, refl, arith}
use Rattle.std.specs.Prelude.{nat_lt}
use Rattle.std.specs.List.{flat_map, range_with_len}
use Rattle.std.proofs.lemmas.Bool.Decides.{nat_tests}
use Rattle.cm_bits.specs.Bit.{bit}
use Rattle.cm_bits.specs.Span.{Span, IsField}
use Rattle.cm_model.specs.declared.act.Nano.{Nano}
use Rattle.cm_model.specs.declared.act.Act.TheVariants as act
use Rattle.cm_model.specs.Each.{tabulate}
use Rattle.cm_language.specs.declared.macros.Context.{Context}
use Rattle.cm_language.specs.declared.macros.Context.TheVariants.{Always, On, Off}
use Rattle.cm_language.specs.Acts.{nano, cond_of, set_flag, clear_flag, each_bit, number_bits, product_round, above}
use Rattle.cm_language.specs.Acts.{lowest}
use Rattle.cm_language.specs.Whole.{IsInstruction, AreProgramActs}
use Rattle.cm_language.proofs.ProgramParts.{HasFlag}

-- ---- lists of instructions

abbrev pub AreInstructions : List Nano → Type 0
AreInstructions [] = Unit {0}
AreInstructions (i ∷ is) = IsInstruction i × AreInstructions is

-- as acts they are acts of programs
pub as_acts : (is : List Nano) → AreInstructions is → AreProgramActs (map act.Nano is)
as_acts [] are = tt
as_acts (i ∷ is) are = (are.0, as_acts is are.1)

-- one list after another
pub are-append : (is js : List Nano) → AreInstructions is → AreInstructions js → AreInstructions (is ++ js)
are-append [] js h k = k
are-append (i ∷ is) js h k = (h.0, are-append is js h.1 k)

-- one for each number of a range
are-each : (f : ℕ → Nano) (first count : ℕ) → ((i : ℕ) → first ≤ i → i < first + count → IsInstruction (f i))
    → AreInstructions (map f (range_with_len first count))
are-each f first zero h = tt
are-each f first (suc count) h =
    let later = are-each f (first + 1) count (λ i low high. h i (omega arith) (omega arith)) in
    (h first (omega arith) (omega arith), later)

-- some for each number of a range
pub are-flat_map : (f : ℕ → List Nano) (first count : ℕ)
    → ((i : ℕ) → first ≤ i → i < first + count → AreInstructions (f i))
    → AreInstructions (flat_map f (range_with_len first count))
are-flat_map f first zero h = tt
are-flat_map f first (suc count) h =
    are-append (f first) (flat_map f (range_with_len (first + 1) count)) (h first (omega arith) (omega arith))
    (are-flat_map f (first + 1) count (λ i low high. h i (omega arith) (omega arith)))

-- ---- instructions under a context

-- a context's flag is one
cond_small : (c : Context) → HasFlag c → cond_of c < 16
cond_small Always h = omega arith
cond_small (On f) h = h
cond_small (Off f) h = h

-- the flags and tables of an instruction are in their ranges
pub record AreSmall (read write mem flag : ℕ) : Type 0 where
  pub read_flag : read < 16
  pub write_flag : write < 16
  pub memory_table : mem < 256
  pub flag_table : flag < 256

-- the same as a test, for numbers that are known
abbrev pub are_small : ℕ → ℕ → ℕ → ℕ → Bool
are_small read write mem flag = (nat_lt read 16 && nat_lt write 16) && (nat_lt mem 256 && nat_lt flag 256)

-- where the test passes they are
pub small_by_test : (read write mem flag : ℕ) → are_small read write mem flag ≡ true → AreSmall read write mem flag
small_by_test read write mem flag h = record {
  read_flag = grind (arith, nat_tests, h);
  write_flag = grind (arith, nat_tests, h);
  memory_table = grind (arith, nat_tests, h);
  flag_table = grind (arith, nat_tests, h);
}

-- an instruction under a context is one
is_nano : (c : Context) (a b read write mem flag : ℕ) → HasFlag c → a < 4096 → b < 4096
    → AreSmall read write mem flag → IsInstruction (nano c a b read write mem flag)
is_nano c a b read write mem flag h low other small = record {
  a = low;
  b = other;
  read = small.read_flag;
  write = small.write_flag;
  cond = cond_small c h;
  mem_table = small.memory_table;
  flag_table = small.flag_table;
}

-- what sets or clears a flag has such numbers
writes_flag : (f table : ℕ) → f < 16 → table < 256 → AreSmall 8 f 0xf0 table
writes_flag f table h k = record {
  read_flag = omega arith;
  write_flag = h;
  memory_table = omega arith;
  flag_table = k;
}

-- what sets a flag is one
pub is_set : (c : Context) (f : ℕ) → HasFlag c → f < 16 → IsInstruction (set_flag c f)
is_set c f h l = is_nano c 0 0 8 f 0xf0 0xff h (omega arith) (omega arith) (writes_flag f 0xff l (omega arith))

-- what clears a flag is one
pub is_clear : (c : Context) (f : ℕ) → HasFlag c → f < 16 → IsInstruction (clear_flag c f)
is_clear c f h l = is_nano c 0 0 8 f 0xf0 0x00 h (omega arith) (omega arith) (writes_flag f 0x00 l (omega arith))

-- one for each bit of two fields
pub are_bits : (c : Context) (x y : Span) (read write mem flag : ℕ) → HasFlag c → x.at + x.len ≤ 4096
    → y.at + x.len ≤ 4096 → AreSmall read write mem flag → AreInstructions (each_bit c x y read write mem flag)
unfolding tabulate
are_bits c x y read write mem flag h whole other small =
    are-each (λ i. nano c (x.at + i) (y.at + i) read write mem flag) 0 x.len
    (λ i low high. is_nano c (x.at + i) (y.at + i) read write mem flag h (omega arith) (omega arith) small)

-- a constant's tables are
constant_small : (b : Bool) → AreSmall 8 8 (if b then 0xff else 0x00) 0x00
constant_small true = small_by_test 8 8 0xff 0x00 refl
constant_small false = small_by_test 8 8 0x00 0x00 refl

-- those that store a number
pub are_number_bits : (c : Context) (d : Span) (v : ℕ) → HasFlag c → IsField d → AreInstructions (number_bits c d v)
unfolding tabulate
are_number_bits c d v h is =
    are-each (λ i. nano c (d.at + i) (d.at + i) 8 8 (if bit v i then 0xff else 0x00) 0x00) 0 d.len
    (λ i low high.
    let inside : d.at + i < 4096 = omega (arith, is.within) in
    is_nano c (d.at + i) (d.at + i) 8 8 (if bit v i then 0xff else 0x00) 0x00 h inside inside
    (constant_small (bit v i)))

-- those of a round of a product
pub are_round : (d x y : Span) (j : ℕ) → IsField d → IsField x → IsField y → d.len ≡ x.len → d.len ≡ y.len → j < d.len
    → AreInstructions (product_round d x y j)
unfolding product_round
are_round d x y j fd fx fy ex ey below =
    let inside : x.at + j < 4096 = omega (arith, fx.within) in
    let sum = small_by_test 7 7 0x96 0xe8 refl in
    let first = is_nano Always (x.at + j) (x.at + j) 8 6 0xf0 0xf0 tt inside inside
    (small_by_test 8 6 0xf0 0xf0 refl) in
    let six : HasFlag (On 6) = omega arith in
    let rest = are_bits (On 6) (above d j) (lowest y (d.len - j)) 7 7 0x96 0xe8 six (omega (arith, fd.within))
    (omega (arith, fy.within)) sum in
    (first, (is_clear (On 6) 7 six (omega arith), rest))
