-- Each macro but the product, in a processor that the context means.
use Rattle.std.proofs.Common.{◌≡◌, ℕ, zero, suc, ◌+◌, ◌-◌, ◌*◌, ◌%◌, ◌^◌, ◌<◌, ◌≤◌, Bool, true, false, not, eqb, ltb}
use Rattle.std.proofs.Common.{leb, List, ◌∷◌, length, get_or, set, map, refl, sym, ap, ◌∙◌, arith, inl}
use Rattle.std.specs.Prelude.{if◌then◌else◌}
use Rattle.std.proofs.lemmas.Bool.Decides.{nat_tests}
use Rattle.std.proofs.lemmas.List.{set-set, set-get_or, get_or-set_same}
use Rattle.cm_bits.specs.Bit.{bit, bit_number}
use Rattle.cm_bits.specs.Span.{Span, IsField}
use Rattle.cm_model.specs.declared.act.Nano.{Nano}
use Rattle.cm_model.specs.Processor.{Processor, value, entry}
use Rattle.cm_model.specs.Each.{tabulate}
use Rattle.cm_model.specs.Instruction.{processor_after}
use Rattle.cm_model.specs.Letters.{with_field, bits_of}
use Rattle.cm_language.specs.declared.macros.Context.{Context}
use Rattle.cm_language.specs.declared.macros.Macro.TheVariants.{Add, Sub, Less, Equal, Move, Select, Const, Shift}
use Rattle.cm_language.specs.Effect.{assigned, value_of}
use Rattle.cm_language.specs.Acts.{nano, nanos, set_flag, clear_flag, each_bit, number_bits}
use Rattle.cm_language.proofs.Bits.{reads, writes, length-reads, writes-reads}
use Rattle.cm_language.proofs.Sums.{outs, carried, total, Adds, value_below, value-not, both, total-both}
use Rattle.cm_language.proofs.Sums.{first_but_second, total-first_but_second, first_twice, total-first_twice, adds_sum}
use Rattle.cm_language.proofs.Sums.{adds_difference, adds_twice, carried-less, carried-equal_all, table_a, table_b}
use Rattle.cm_language.proofs.Sums.{table_0, table_1, table_choice_0, table_choice_1, outs-first}
use Rattle.cm_language.proofs.Steps.{run, Ready, Free, ready-flag, one_flag}
use Rattle.cm_language.proofs.Loops.{IsBehind, rippled, ripple_carry, choices, ripple_still}
use Rattle.cm_language.proofs.Numbers.{stored, read_value, writes-bits_of, IsSum, is_sum, choices-number, choices-first}
use Rattle.cm_language.proofs.Numbers.{choices-second}

-- a processor that the context means, with all its bits
pub record Whole (c : Context) (p : Processor) : Type 0 where
  pub ready : Ready c p
  pub memory : length p.memory ≡ 4096

-- two fields of a macro
pub record Pair (d s : Span) : Type 0 where
  pub first : d.at + d.len ≤ 4096
  pub second : s.at + s.len ≤ 4096
  pub same : d.len ≡ s.len
  pub behind : IsBehind d.at s.at d.len

-- ---- a flag

-- one act into a flag: memory bit 0 is written as it was
flag_step : (c : Context) (f tf : ℕ) (b : Bool) (p : Processor) → Ready c p → ((x y z : Bool) → entry tf x y z ≡ b)
    → eqb f 8 ≡ false → eqb f 10 ≡ false → eqb f 11 ≡ false
    → processor_after (nano c 0 0 8 f 0xf0 tf) false p ≡ record { memory = p.memory; flags = set p.flags f b }
flag_step c f tf b p h is e8 e10 e11 =
    let x : Bool = get_or p.memory 0 false in
    let z : Bool = get_or p.flags 8 false in
    one_flag c 0 0 8 f 0xf0 tf p h e8 e10 e11
    ∙ (λ i. record {
      memory = (ap (set p.memory 0) (table_a x x z) ∙ set-get_or p.memory 0 false) i;
      flags = set p.flags f (is x x z i);
    })

pub clear_step : (c : Context) (f : ℕ) (p : Processor) → Ready c p → eqb f 8 ≡ false → eqb f 10 ≡ false
    → eqb f 11 ≡ false
    → processor_after (clear_flag c f) false p ≡ record { memory = p.memory; flags = set p.flags f false }
clear_step c f p h e8 e10 e11 = flag_step c f 0x00 false p h table_0 e8 e10 e11

pub set_step : (c : Context) (f : ℕ) (p : Processor) → Ready c p → eqb f 8 ≡ false → eqb f 10 ≡ false → eqb f 11 ≡ false
    → processor_after (set_flag c f) false p ≡ record { memory = p.memory; flags = set p.flags f true }
set_step c f p h e8 e10 e11 = flag_step c f 0xff true p h table_1 e8 e10 e11

-- ---- a ripple

-- the bits of a field
abbrev pub bits : Processor → ℕ → ℕ → List Bool
bits p at len = reads p.memory at len

-- flag 7 is written, and then the bits are
pub begun_ripple : (c : Context) (tm tf : ℕ) (z : Bool) (first : Nano) (d s : Span) (p : Processor) → Ready c p
    → IsBehind d.at s.at d.len → Free c 7
    → processor_after first false p ≡ record { memory = p.memory; flags = set p.flags 7 z }
    → run (first ∷ each_bit c d s 7 7 tm tf) p
    ≡ rippled tm tf p.memory p.flags d.at z (bits p d.at d.len) (bits p s.at d.len)
unfolding tabulate
begun_ripple c tm tf z first d s p h behind free is =
    let fs : List Bool = set p.flags 7 z in
    let q : Processor = record { memory = p.memory; flags = fs } in
    let here : get_or fs 7 false ≡ z =
    get_or-set_same p.flags 7 z false (let long : length p.flags ≡ 16 = h.long in omega (arith, long)) in
    let a : d.at + 0 ≡ d.at = omega arith in
    let b : s.at + 0 ≡ s.at = omega arith in
    ap (run (each_bit c d s 7 7 tm tf)) is
    ∙ ripple_carry c tm tf d.at s.at d.len behind free d.len 0 q (omega arith) (ready-flag c p.memory 7 z p free refl h)
    ∙ (λ i. record {
      memory = writes p.memory (a i) (outs tm tf (here i) (bits p (a i) d.len) (bits p (b i) d.len));
      flags = set-set p.flags 7 z (carried tf (here i) (bits p (a i) d.len) (bits p (b i) d.len)) i;
    })

-- a ripple that adds up
summed : (c : Context) (tm tf : ℕ) (g : Bool → Bool → ℕ) (z : Bool) (first : Nano) (d s : Span) (p : Processor)
    (sum : ℕ) → Adds tm tf g → Whole c p → Pair d s → Free c 7
    → processor_after first false p ≡ record { memory = p.memory; flags = set p.flags 7 z }
    → total g (bits p d.at d.len) (bits p s.at d.len) + bit_number z ≡ sum
    → run (first ∷ each_bit c d s 7 7 tm tf) p
    ≡ record { memory = with_field p.memory d.at d.len (sum % 2 ^ d.len); flags = set p.flags 7 (leb (2 ^ d.len) sum) }
summed c tm tf g z first d s p sum adds h fields free is total_is =
    let result : IsSum d.len
    sum (outs tm tf z (bits p d.at d.len) (bits p s.at d.len)) (carried tf z (bits p d.at d.len) (bits p s.at d.len)) =
    is_sum tm tf g adds z (bits p d.at d.len) (bits p s.at d.len) d.len
    sum (length-reads p.memory d.at d.len) (length-reads p.memory s.at d.len) total_is in
    let fits : d.at + d.len ≤ length p.memory =
    (let m : length p.memory ≡ 4096 = h.memory in let f : d.at + d.len ≤ 4096 = fields.first in omega (arith, m, f)) in
    begun_ripple c tm tf z first d s p h.ready fields.behind free is
    ∙ (λ i. record {
      memory = stored p.memory d.at d.len (outs tm tf z (bits p d.at d.len) (bits p s.at d.len)) (sum % 2 ^ d.len)
          fits result.long result.low i;
      flags = set p.flags 7 (result.high i);
    })

first_value : (c : Context) (d s : Span) (p : Processor) → Whole c p → Pair d s
    → value (bits p d.at d.len) ≡ value_of p d
first_value c d s p h fields =
    sym (read_value p d (let m : length p.memory ≡ 4096 = h.memory in let f : d.at + d.len ≤ 4096 = fields.first in
    omega (arith, m, f)))

second_value : (c : Context) (d s : Span) (p : Processor) → Whole c p → Pair d s
    → value (bits p s.at d.len) ≡ value_of p s
second_value c d s p h fields =
    ap (λ (n : ℕ). value (bits p s.at n)) fields.same
    ∙ sym (read_value p s (let m : length p.memory ≡ 4096 = h.memory in let f : s.at + s.len ≤ 4096 = fields.second in
    omega (arith, m, f)))

same_length : (d s : Span) (p : Processor) → length (bits p d.at d.len) ≡ length (bits p s.at d.len)
same_length d s p = length-reads p.memory d.at d.len ∙ sym (length-reads p.memory s.at d.len)

pub add_is : (c : Context) (d s : Span) (p : Processor) → Whole c p → Pair d s → Free c 7
    → run (nanos (Add d s) c) p ≡ assigned (Add d s) p
add_is c d s p h fields free =
    summed c 0x96 0xe8 both false (clear_flag c 7) d s p (value_of p d + value_of p s) adds_sum h fields
    free (clear_step c 7 p h.ready refl refl refl)
    (omega (
      arith,
      total-both (bits p d.at d.len) (bits p s.at d.len) (same_length d s p),
      first_value c d s p h fields,
      second_value c d s p h fields,
    ))

no_borrow : (n x y : ℕ) → y < n → leb n (x + (n - y)) ≡ leb y x
no_borrow n x y h = grind (arith, nat_tests)

pub sub_is : (c : Context) (d s : Span) (p : Processor) → Whole c p → Pair d s → Free c 7
    → run (nanos (Sub d s) c) p ≡ assigned (Sub d s) p
sub_is c d s p h fields free =
    let ys : List Bool = bits p s.at d.len in
    let long : length ys ≡ d.len = length-reads p.memory s.at d.len in
    let small : value ys < 2 ^ d.len = rw long at (value_below ys) in
    let turned : value (map not ys) + value ys + 1 ≡ 2 ^ d.len = rw long at (value-not ys) in
    let x : value (bits p d.at d.len) ≡ value_of p d = first_value c d s p h fields in
    let y : value ys ≡ value_of p s = second_value c d s p h fields in
    let below : value_of p s < 2 ^ d.len = rw y at small in
    summed c 0x69 0xb2 first_but_second true (set_flag c 7) d s p (value_of p d + (2 ^ d.len - value_of p s))
    adds_difference h fields free (set_step c 7 p h.ready refl refl refl)
    (omega (arith, total-first_but_second (bits p d.at d.len) ys (same_length d s p), turned, x, y, below))
    ∙ ap (λ (b : Bool). let q : Processor =
    record {
      memory = with_field p.memory d.at d.len ((value_of p d + (2 ^ d.len - value_of p s)) % 2 ^ d.len);
      flags = set p.flags 7 b;
    } in q)
    (no_borrow (2 ^ d.len) (value_of p d) (value_of p s) below)

-- a ripple that leaves memory as it is
compared : (c : Context) (tf : ℕ) (z b : Bool) (first : Nano) (x y : Span) (p : Processor) → Whole c p → Pair x y
    → Free c 7
    → processor_after first false p ≡ record { memory = p.memory; flags = set p.flags 7 z }
    → carried tf z (bits p x.at x.len) (bits p y.at x.len) ≡ b
    → run (first ∷ each_bit c x y 7 7 0xf0 tf) p ≡ record { memory = p.memory; flags = set p.flags 7 b }
compared c tf z b first x y p h fields free is told =
    begun_ripple c 0xf0 tf z first x y p h.ready fields.behind free is
    ∙ (λ i. record {
      memory = (ap (writes p.memory x.at)
          (outs-first tf z (bits p x.at x.len) (bits p y.at x.len) (same_length x y p))
          ∙ writes-reads p.memory x.at x.len) i;
      flags = set p.flags 7 (told i);
    })

pub less_is : (c : Context) (x y : Span) (p : Processor) → Whole c p → Pair x y → Free c 7
    → run (nanos (Less x y) c) p ≡ assigned (Less x y) p
less_is c x y p h fields free =
    compared c 0x8e false (ltb (value_of p x) (value_of p y)) (clear_flag c 7) x y p h fields
    free (clear_step c 7 p h.ready refl refl refl)
    (carried-less (bits p x.at x.len) (bits p y.at x.len) (same_length x y p)
    ∙ (λ i. ltb (first_value c x y p h fields i) (second_value c x y p h fields i)))

pub equal_is : (c : Context) (x y : Span) (p : Processor) → Whole c p → Pair x y → Free c 7
    → run (nanos (Equal x y) c) p ≡ assigned (Equal x y) p
equal_is c x y p h fields free =
    compared c 0x82 true (eqb (value_of p x) (value_of p y)) (set_flag c 7) x y p h fields
    free (set_step c 7 p h.ready refl refl refl)
    (carried-equal_all (bits p x.at x.len) (bits p y.at x.len) (same_length x y p)
    ∙ (λ i. eqb (first_value c x y p h fields i) (second_value c x y p h fields i)))

-- ---- a shift

top_bit : (m : List Bool) (n a : ℕ) (z : Bool)
    → carried 0xf0 z (reads m a (suc n)) (reads m a (suc n)) ≡ get_or m (a + n) false
top_bit m zero a z =
    let e : a ≡ a + 0 = omega arith in
    table_a (get_or m a false) (get_or m a false) z ∙ ap (λ (k : ℕ). get_or m k false) e
top_bit m (suc n) a z =
    let e : a + 1 + n ≡ a + suc n = omega arith in
    top_bit m n (a + 1) (entry 0xf0 (get_or m a false) (get_or m a false) z) ∙ ap (λ (k : ℕ). get_or m k false) e

pub shift_is : (c : Context) (d : Span) (p : Processor) → Whole c p → IsField d → Free c 7
    → run (nanos (Shift d) c) p ≡ assigned (Shift d) p
shift_is c d p h field free =
    let some : 1 ≤ d.len = field.some in
    let within : d.at + d.len ≤ 4096 = field.within in
    let fields : Pair d d = record { first = within; second = within; same = refl; behind = inl (omega arith) } in
    let xs : List Bool = bits p d.at d.len in
    let long : length xs ≡ d.len = length-reads p.memory d.at d.len in
    let result : IsSum d.len (2 * value_of p d) (outs 0xaa 0xf0 false xs xs) (carried 0xf0 false xs xs) =
    is_sum 0xaa 0xf0 first_twice adds_twice false xs xs d.len (2 * value_of p d) long
    long (omega (arith, total-first_twice xs xs refl, first_value c d d p h fields)) in
    let fits : d.at + d.len ≤ length p.memory =
    (let m : length p.memory ≡ 4096 = h.memory in omega (arith, m, within)) in
    let count : d.len ≡ suc (d.len - 1) = omega (arith, some) in
    let last : d.at + (d.len - 1) ≡ d.at + d.len - 1 = omega (arith, some) in
    let top : carried 0xf0 false xs xs ≡ get_or p.memory (d.at + d.len - 1) false =
    ap (λ (n : ℕ). carried 0xf0 false (bits p d.at n) (bits p d.at n)) count ∙ top_bit p.memory (d.len - 1) d.at false
    ∙ ap (λ (k : ℕ). get_or p.memory k false) last in
    begun_ripple c 0xaa 0xf0 false (clear_flag c 7) d d p h.ready fields.behind
    free (clear_step c 7 p h.ready refl refl refl)
    ∙ (λ i. record {
      memory = stored p.memory d.at d.len (outs 0xaa 0xf0 false xs xs) (2 * value_of p d % 2 ^ d.len) fits result.long
          result.low i;
      flags = set p.flags 7 (top i);
    })

-- ---- without a carry

-- the same table for each bit
pub still : (c : Context) (t r : ℕ) (d s : Span) (p : Processor) → Ready c p → IsBehind d.at s.at d.len
    → run (each_bit c d s r 8 t 0x00) p
    ≡ record {
      memory = writes p.memory
          d.at (choices (λ i. t) (get_or p.flags r false) 0 (bits p d.at d.len) (bits p s.at d.len));
      flags = p.flags;
    }
unfolding tabulate
still c t r d s p h behind =
    let a : d.at + 0 ≡ d.at = omega arith in
    let b : s.at + 0 ≡ s.at = omega arith in
    ripple_still c (λ i. t) r d.at s.at d.len behind d.len 0 p (omega arith) h
    ∙ (λ i. record {
      memory =
          writes p.memory (a i) (choices (λ i. t) (get_or p.flags r false) 0 (bits p (a i) d.len) (bits p (b i) d.len));
      flags = p.flags;
    })

-- the second field's bits go into the first
copied : (c : Context) (d s : Span) (p : Processor) (os : List Bool) → Whole c p → Pair d s → os ≡ bits p s.at d.len
    → writes p.memory d.at os ≡ with_field p.memory d.at d.len (value_of p s)
copied c d s p os h fields is =
    let fits : d.at + d.len ≤ length p.memory =
    (let m : length p.memory ≡ 4096 = h.memory in let f : d.at + d.len ≤ 4096 = fields.first in omega (arith, m, f)) in
    stored p.memory d.at d.len os (value_of p s)
    fits (ap length is ∙ length-reads p.memory s.at d.len) (ap value is ∙ second_value c d s p h fields)

pub move_is : (c : Context) (d s : Span) (p : Processor) → Whole c p → Pair d s
    → run (nanos (Move d s) c) p ≡ assigned (Move d s) p
move_is c d s p h fields =
    let z : Bool = get_or p.flags 8 false in
    still c 0xcc 8 d s p h.ready fields.behind
    ∙ (λ i. record {
      memory = copied c d s p (choices (λ k. 0xcc) z 0 (bits p d.at d.len) (bits p s.at d.len)) h fields
          (choices-second 0xcc z (λ x y. table_b x y z)
          0 (bits p d.at d.len) (bits p s.at d.len) (same_length d s p)) i;
      flags = p.flags;
    })

chosen : (c : Context) (d s : Span) (p : Processor) (z : Bool) → Whole c p → Pair d s
    → writes p.memory d.at (choices (λ i. 0xd8) z 0 (bits p d.at d.len) (bits p s.at d.len))
    ≡ (if z then with_field p.memory d.at d.len (value_of p s) else p.memory)
chosen c d s p true h fields =
    copied c d s p (choices (λ i. 0xd8) true 0 (bits p d.at d.len) (bits p s.at d.len)) h fields
    (choices-second 0xd8 true table_choice_1 0 (bits p d.at d.len) (bits p s.at d.len) (same_length d s p))
chosen c d s p false h fields =
    ap (writes p.memory d.at)
    (choices-first 0xd8 false table_choice_0 0 (bits p d.at d.len) (bits p s.at d.len) (same_length d s p))
    ∙ writes-reads p.memory d.at d.len

with_choice : (z : Bool) (m n fs : List Bool) → let q : Processor =
    record { memory = if z then m else n; flags = fs } in
    q ≡ (if z then record { memory = m; flags = fs } else record { memory = n; flags = fs })
with_choice true m n fs = refl
with_choice false m n fs = refl

pub select_is : (c : Context) (d s : Span) (f : ℕ) (p : Processor) → Whole c p → Pair d s
    → run (nanos (Select d s f) c) p ≡ assigned (Select d s f) p
select_is c d s f p h fields =
    still c 0xd8 f d s p h.ready fields.behind
    ∙ (λ i. record { memory = chosen c d s p (get_or p.flags f false) h fields i; flags = p.flags })
    ∙ with_choice (get_or p.flags f false) (with_field p.memory d.at d.len (value_of p s)) p.memory p.flags

-- a number, bit by bit
pub numbered : (c : Context) (d : Span) (v : ℕ) (p : Processor) → Ready c p
    → run (number_bits c d v) p ≡ record { memory = writes p.memory d.at (bits_of d.len v); flags = p.flags }
unfolding tabulate
numbered c d v p h =
    let a : d.at + 0 ≡ d.at = omega arith in
    let z : Bool = get_or p.flags 8 false in
    ripple_still c (λ i. if bit v i then 0xff else 0x00) 8 d.at d.at d.len (inl (omega arith)) d.len 0 p (omega arith) h
    ∙ (λ i. record {
      memory =
          writes p.memory (a i) (choices (λ k. if bit v k then 0xff else 0x00) z
          0 (bits p (a i) d.len) (bits p (a i) d.len));
      flags = p.flags;
    })
    ∙ (λ i. record {
      memory = writes p.memory
          d.at (choices-number v z 0
          d.len (bits p d.at d.len) (bits p d.at d.len) (length-reads p.memory d.at d.len)
          (length-reads p.memory d.at d.len) i);
      flags = p.flags;
    })

pub const_is : (c : Context) (d : Span) (v : ℕ) (p : Processor) → Whole c p → d.at + d.len ≤ 4096
    → run (nanos (Const d v) c) p ≡ assigned (Const d v) p
const_is c d v p h within =
    let fits : d.at + d.len ≤ length p.memory =
    (let m : length p.memory ≡ 4096 = h.memory in omega (arith, m, within)) in
    numbered c d v p h.ready ∙ (λ i. record { memory = writes-bits_of p.memory d.at d.len v fits i; flags = p.flags })
