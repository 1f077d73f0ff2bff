-- A number added to a field, in a processor that the context means.
use Rattle.std.proofs.Common.{◌≡◌, ℕ, zero, suc, ◌+◌, ◌%◌, ◌^◌, ◌<◌, ◌≤◌, Bool, true, false, List, length}
use Rattle.std.proofs.Common.{get_or, set, map, refl, sym, ap, ◌∙◌, arith, inl}
use Rattle.std.specs.Prelude.{if◌then◌else◌}
use Rattle.std.specs.List.{range_with_len}
use Rattle.std.proofs.Math.Nat.{mod-eq_of_lt}
use Rattle.std.proofs.lemmas.List.{set-set, set-get_or, get_or-set_same}
use Rattle.std.proofs.lemmas.List.FromFn.{length-map-range_with_len}
use Rattle.cm_bits.specs.Bit.{bit}
use Rattle.cm_bits.specs.Span.{Span}
use Rattle.cm_model.specs.declared.act.Nano.{Nano}
use Rattle.cm_model.specs.Processor.{Processor, entry, value}
use Rattle.cm_model.specs.Each.{tabulate}
use Rattle.cm_model.specs.Instruction.{processor_after}
use Rattle.cm_language.specs.declared.macros.Context.{Context}
use Rattle.cm_language.specs.Effect.{value_of}
use Rattle.cm_language.proofs.Bits.{reads, writes, length-reads, reads-set}
use Rattle.cm_language.proofs.Sums.{outs, carried, both, total-both, adds_sum}
use Rattle.cm_language.proofs.Steps.{run, Ready, Free, ready-flag, one_flag}
use Rattle.cm_language.proofs.Loops.{rippled}
use Rattle.cm_language.proofs.Numbers.{stored, read_value, IsSum, is_sum, value-bits_of}
use Rattle.cm_language.proofs.Selected.{Whole, clear_step}
use Rattle.lab_phrases.specs.declared.phrase.Phrase.TheVariants.{AddNumber}
use Rattle.lab_phrases.specs.Effect.{phrase_assigned}
use Rattle.lab_phrases.specs.Acts.{add_bit, phrase_nanos}

-- ---- one bit

-- the sum with a bit of the number is that with the bit itself
table_of_sum : (b x z : Bool) → entry (if b then 0xa5 else 0x5a) x x z ≡ entry 0x96 x b z
table_of_sum true true true = refl
table_of_sum true true false = refl
table_of_sum true false true = refl
table_of_sum true false false = refl
table_of_sum false true true = refl
table_of_sum false true false = refl
table_of_sum false false true = refl
table_of_sum false false false = refl

table_of_carry : (b x z : Bool) → entry (if b then 0xfa else 0xa0) x x z ≡ entry 0xe8 x b z
table_of_carry true true true = refl
table_of_carry true true false = refl
table_of_carry true false true = refl
table_of_carry true false false = refl
table_of_carry false true true = refl
table_of_carry false true false = refl
table_of_carry false false true = refl
table_of_carry false false false = refl

-- ---- all bits

-- flag 7 carries from bit to bit
ripple_number : (c : Context) (d : Span) (v : ℕ) → Free c 7 → (n j : ℕ) (p : Processor) → Ready c p
    → run (map (add_bit c d v) (range_with_len j n)) p
    ≡ rippled 0x96 0xe8 p.memory
    p.flags (d.at + j) (get_or p.flags 7 false) (reads p.memory (d.at + j) n) (map (bit v) (range_with_len j n))
ripple_number c d v free zero j p h =
    λ i. record { memory = p.memory; flags = sym (set-get_or p.flags 7 false) i }
ripple_number c d v free (suc n) j p h =
    let a : ℕ = d.at + j in
    let x : Bool = get_or p.memory a false in
    let z : Bool = get_or p.flags 7 false in
    let y : Bool = bit v j in
    let o : Bool = entry 0x96 x y z in
    let k : Bool = entry 0xe8 x y z in
    let m : List Bool = set p.memory a o in
    let fs : List Bool = set p.flags 7 k in
    let q : Processor = record { memory = m; flags = fs } in
    let rest : List Nano = map (add_bit c d v) (range_with_len (j + 1) n) in
    let first : processor_after (add_bit c d v j) false p ≡ q =
    one_flag c a a 7 7 (if y then 0xa5 else 0x5a) (if y then 0xfa else 0xa0) p h refl refl refl
    ∙ (λ i. record { memory = set p.memory a (table_of_sum y x z i); flags = set p.flags 7 (table_of_carry y x z i) })
    in
    let others : run rest q ≡ rippled 0x96 0xe8 m
    fs (d.at + (j + 1)) (get_or fs 7 false) (reads m (d.at + (j + 1)) n) (map (bit v) (range_with_len (j + 1) n)) =
    ripple_number c d v free n (j + 1) q (ready-flag c m 7 k p free refl h) in
    let next : d.at + (j + 1) ≡ a + 1 = omega arith in
    let here : get_or fs 7 false ≡ k =
    get_or-set_same p.flags 7 k false (let long : length p.flags ≡ 16 = h.long in omega (arith, long)) in
    let xs : reads m (d.at + (j + 1)) n ≡ reads p.memory (a + 1) n =
    reads-set p.memory a o (d.at + (j + 1)) n (inl (omega arith)) ∙ ap (λ (s : ℕ). reads p.memory s n) next in
    ap (run rest) first ∙ (others ∙ (λ i. record {
      memory = writes m (next i) (outs 0x96 0xe8 (here i) (xs i) (map (bit v) (range_with_len (j + 1) n)));
      flags = set-set p.flags 7 k (carried 0xe8 (here i) (xs i) (map (bit v) (range_with_len (j + 1) n))) i;
    }))

pub add_number_is : (c : Context) (d : Span) (v : ℕ) (p : Processor) → Whole c p → d.at + d.len ≤ 4096
    → v < 2 ^ d.len → Free c 7 → run (phrase_nanos (AddNumber d v) c) p ≡ phrase_assigned (AddNumber d v) p p
unfolding tabulate
add_number_is c d v p h within small free =
    let m : List Bool = p.memory in
    let xs : List Bool = reads m d.at d.len in
    let ys : List Bool = map (bit v) (range_with_len 0 d.len) in
    let fits : d.at + d.len ≤ length m = (let all : length p.memory ≡ 4096 = h.memory in omega (arith, all, within)) in
    let long_x : length xs ≡ d.len = length-reads m d.at d.len in
    let long_y : length ys ≡ d.len = length-map-range_with_len (bit v) 0 d.len in
    let x : value xs ≡ value_of p d = sym (read_value p d fits) in
    let y : value ys ≡ v = value-bits_of d.len v ∙ mod-eq_of_lt small in
    let sum : ℕ = value_of p d + v in
    let result : IsSum d.len sum (outs 0x96 0xe8 false xs ys) (carried 0xe8 false xs ys) =
    is_sum 0x96 0xe8 both adds_sum false xs ys d.len sum long_x long_y
    (omega (arith, total-both xs ys (long_x ∙ sym long_y), x, y)) in
    let fs : List Bool = set p.flags 7 false in
    let q : Processor = record { memory = m; flags = fs } in
    let here : get_or fs 7 false ≡ false =
    get_or-set_same p.flags 7 false false (let long : length p.flags ≡ 16 = h.ready.long in omega (arith, long)) in
    let a : d.at + 0 ≡ d.at = omega arith in
    ap (run (map (add_bit c d v) (range_with_len 0 d.len))) (clear_step c 7 p h.ready refl refl refl)
    ∙ ripple_number c d v free d.len 0 q (ready-flag c m 7 false p free refl h.ready)
    ∙ (λ i. record {
      memory = writes m (a i) (outs 0x96 0xe8 (here i) (reads m (a i) d.len) ys);
      flags = set-set p.flags 7 false (carried 0xe8 (here i) (reads m (a i) d.len) ys) i;
    })
    ∙ (λ i. record {
      memory = stored m d.at d.len (outs 0x96 0xe8 false xs ys) (sum % 2 ^ d.len) fits result.long result.low i;
      flags = set p.flags 7 (result.high i);
    })
