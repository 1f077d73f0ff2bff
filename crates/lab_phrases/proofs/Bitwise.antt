-- Fields taken bit by bit, in a processor that the context means.
use Rattle.std.proofs.Common.{◌≡◌, ℕ, zero, suc, ◌+◌, ◌≤◌, ◌&&◌, ◌||◌, Bool, true, false, not, List, ◌∷◌, ◌++◌, length}
use Rattle.std.proofs.Common.{get_or, map, take, drop, refl, ap, ◌∙◌, arith}
use Rattle.std.specs.List.{range_with_len}
use Rattle.std.proofs.lemmas.List.FromFn.{length-map-range_with_len}
use Rattle.cm_bits.specs.Span.{Span}
use Rattle.cm_model.specs.Processor.{Processor, entry}
use Rattle.cm_model.specs.Each.{tabulate}
use Rattle.cm_language.specs.declared.macros.Context.{Context}
use Rattle.cm_language.specs.Acts.{each_bit}
use Rattle.cm_language.proofs.Bits.{reads, writes, writes-is}
use Rattle.cm_language.proofs.Steps.{run}
use Rattle.cm_language.proofs.Loops.{choices}
use Rattle.cm_language.proofs.Selected.{Whole, Pair, still}
use Rattle.cm_bits.specs.Bit.{differ}
use Rattle.lab_phrases.specs.Effect.{bit_of, with_bits}

-- ---- one bit

pub table_and : (x y : Bool) → entry 0xc0 x y false ≡ (x && y)
table_and true true = refl
table_and true false = refl
table_and false true = refl
table_and false false = refl

pub table_or : (x y : Bool) → entry 0xfc x y false ≡ (x || y)
table_or true true = refl
table_or true false = refl
table_or false true = refl
table_or false false = refl

pub table_xor : (x y : Bool) → entry 0x3c x y false ≡ differ x y
table_xor true true = refl
table_xor true false = refl
table_xor false true = refl
table_xor false false = refl

pub table_not : (x y : Bool) → entry 0x0f x y false ≡ not x
table_not true true = refl
table_not true false = refl
table_not false true = refl
table_not false false = refl

-- ---- all bits

-- what a table makes of the bits of two runs of memory
choices-bits : (t : ℕ) (op : Bool → Bool → Bool) → ((x y : Bool) → entry t x y false ≡ op x y) → (m : List Bool)
    (a b k n j : ℕ) → choices (λ i. t) false j (reads m (a + k) n) (reads m (b + k) n)
    ≡ map (λ i. op (get_or m (a + i) false) (get_or m (b + i) false)) (range_with_len k n)
choices-bits t op is m a b k zero j = refl
choices-bits t op is m a b k (suc n) j =
    let x : a + k + 1 ≡ a + (k + 1) = omega arith in
    let y : b + k + 1 ≡ b + (k + 1) = omega arith in
    let rest : choices (λ i. t) false (j + 1) (reads m (a + k + 1) n) (reads m (b + k + 1) n)
    ≡ map (λ i. op (get_or m (a + i) false) (get_or m (b + i) false)) (range_with_len (k + 1) n) =
    (λ h. choices (λ i. t) false (j + 1) (reads m (x h) n) (reads m (y h) n))
    ∙ choices-bits t op is m a b (k + 1) n (j + 1) in
    λ h. is (get_or m (a + k) false) (get_or m (b + k) false) h ∷ rest h

-- a field with the bits that a table makes of it and another
pub bitwise : (c : Context) (t : ℕ) (op : Bool → Bool → Bool) → ((x y : Bool) → entry t x y false ≡ op x y)
    → (d s : Span) (p : Processor) → Whole c p → Pair d s
    → run (each_bit c d s 8 8 t 0x00) p ≡ with_bits d (λ i. op (bit_of p d i) (bit_of p s i)) p
unfolding tabulate
bitwise c t op is d s p h fields =
    let m : List Bool = p.memory in
    let bits : List Bool = map (λ i. op (get_or m (d.at + i) false) (get_or m (s.at + i) false))
    (range_with_len 0 d.len) in
    let long : length bits ≡ d.len = length-map-range_with_len _ 0 d.len in
    let a : d.at ≡ d.at + 0 = omega arith in
    let b : s.at ≡ s.at + 0 = omega arith in
    let room : d.at + length bits ≤ length m =
    (let all : length p.memory ≡ 4096 = h.memory in let f : d.at + d.len ≤ 4096 = fields.first in
    omega (arith, all, f, long)) in
    still c t 8 d s p h.ready fields.behind
    ∙ (λ i. record {
      memory = writes m d.at
          (choices (λ k. t) (h.ready.zero_flag i) 0 (reads m (a i) d.len) (reads m (b i) d.len));
      flags = p.flags;
    })
    ∙ (λ i. record { memory = writes m d.at (choices-bits t op is m d.at s.at 0 d.len 0 i); flags = p.flags })
    ∙ (λ i. record {
      memory = (writes-is m d.at bits room
          ∙ ap (λ (k : ℕ). take d.at m ++ (bits ++ drop (d.at + k) m)) long) i;
      flags = p.flags;
    })
