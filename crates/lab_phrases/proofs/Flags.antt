-- A field into a flag and a flag into a field, in a processor that the context means.
use Rattle.std.proofs.Common.{◌≡◌, ℕ, zero, suc, ◌+◌, ◌*◌, ◌<◌, ◌≤◌, ◌||◌, Bool, true, false, not, eqb, List, [], ◌∷◌}
use Rattle.std.proofs.Common.{length, get_or, set, map, refl, sym, ap, subst, ◌∙◌, arith, inl}
use Rattle.std.specs.Prelude.{if◌then◌else◌}
use Rattle.std.specs.List.{range_with_len}
use Rattle.std.proofs.lemmas.Bool.Decides.{nat_tests}
use Rattle.std.proofs.lemmas.List.{set-set, set-get_or, get_or-set_same}
use Rattle.cm_bits.specs.Bit.{bit_number}
use Rattle.cm_bits.specs.Span.{Span, IsField}
use Rattle.cm_model.specs.declared.act.Nano.{Nano}
use Rattle.cm_model.specs.Processor.{Processor, entry, value}
use Rattle.cm_model.specs.Each.{tabulate}
use Rattle.cm_model.specs.Instruction.{processor_after}
use Rattle.cm_language.specs.declared.macros.Context.{Context}
use Rattle.cm_language.specs.Effect.{value_of}
use Rattle.cm_language.specs.Acts.{nano}
use Rattle.cm_language.proofs.Bits.{reads, writes, length-reads}
use Rattle.cm_language.proofs.Sums.{table_a, table_0}
use Rattle.cm_language.proofs.Steps.{run, Ready, Free, ready-flag, one_flag}
use Rattle.cm_language.proofs.Loops.{choices, ripple_still}
use Rattle.cm_language.proofs.Numbers.{stored, read_value}
use Rattle.cm_language.proofs.Selected.{Whole, clear_step}
use Rattle.lab_phrases.specs.declared.phrase.Phrase.TheVariants.{Test, Keep}
use Rattle.lab_phrases.specs.Effect.{phrase_assigned}
use Rattle.lab_phrases.specs.Acts.{phrase_nanos}

-- a flag that can be set
pub record IsSettable (f : ℕ) : Type 0 where
  pub zero_flag : eqb f 8 ≡ false
  pub news : eqb f 10 ≡ false
  pub daisy : eqb f 11 ≡ false

-- ---- a field into a flag

-- one of the bits is 1, or what was before them
abbrev any : Bool → List Bool → Bool
any z [] = z
any z (x ∷ xs) = any (x || z) xs

-- the table
table_or_flag : (x z : Bool) → entry 0xfa x x z ≡ (x || z)
table_or_flag true true = refl
table_or_flag true false = refl
table_or_flag false true = refl
table_or_flag false false = refl

or_true : (b : Bool) → (b || true) ≡ true
or_true true = refl
or_true false = refl

-- once a bit is 1 it stays so
any_true : (xs : List Bool) → any true xs ≡ true
any_true [] = refl
any_true (x ∷ xs) = ap (λ (b : Bool). any b xs) (or_true x) ∙ any_true xs

-- one of the bits is 1 where they are not worth 0
any_false : (xs : List Bool) → any false xs ≡ not (eqb (value xs) 0)
any_false [] = refl
any_false (true ∷ xs) =
    let some : eqb (bit_number true + 2 * value xs) 0 ≡ false = grind (arith, nat_tests) in
    any_true xs ∙ ap not (sym some)
any_false (false ∷ xs) =
    let same : eqb (bit_number false + 2 * value xs) 0 ≡ eqb (value xs) 0 = doubled (value xs) in
    any_false xs ∙ ap not (sym same) where
      doubled : (v : ℕ) → eqb (bit_number false + 2 * v) 0 ≡ eqb v 0
      doubled zero = refl
      doubled (suc v) = grind (arith, nat_tests)

-- bit after bit the flag tells whether one was 1; memory stays
tested : (c : Context) (f a : ℕ) → Free c f → IsSettable f → f < 16 → (n j : ℕ) (p : Processor) → Ready c p
    → run (map (λ i. nano c (a + i) (a + i) f f 0xf0 0xfa) (range_with_len j n)) p
    ≡ record {
      memory = p.memory;
      flags = set p.flags f (any (get_or p.flags f false) (reads p.memory (a + j) n));
    }
tested c f a free settable small zero j p h =
    λ i. record { memory = p.memory; flags = sym (set-get_or p.flags f false) i }
tested c f a free settable small (suc n) j p h =
    let x : Bool = get_or p.memory (a + j) false in
    let z : Bool = get_or p.flags f false in
    let k : Bool = x || z in
    let q : Processor = record { memory = p.memory; flags = set p.flags f k } in
    let rest : List Nano = map (λ i. nano c (a + i) (a + i) f f 0xf0 0xfa) (range_with_len (j + 1) n) in
    let first : processor_after (nano c (a + j) (a + j) f f 0xf0 0xfa) false p ≡ q =
    one_flag c (a + j) (a + j) f f 0xf0 0xfa p h settable.zero_flag settable.news settable.daisy
    ∙ (λ i. record {
      memory = (ap (set p.memory (a + j)) (table_a x x z) ∙ set-get_or p.memory (a + j) false) i;
      flags = set p.flags f (table_or_flag x z i);
    }) in
    let other : eqb 8 f ≡ false = grind (arith, nat_tests, settable.zero_flag) in
    let others : run rest q ≡ record {
      memory = p.memory;
      flags = set (set p.flags f k) f (any (get_or (set p.flags f k) f false) (reads p.memory (a + (j + 1)) n));
    } =
    tested c f a free settable small n (j + 1) q (ready-flag c p.memory f k p free other h) in
    let next : a + (j + 1) ≡ a + j + 1 = omega arith in
    let here : get_or (set p.flags f k) f false ≡ k =
    get_or-set_same p.flags f k false (let long : length p.flags ≡ 16 = h.long in omega (arith, long)) in
    ap (run rest) first ∙ (others ∙ (λ i. record {
      memory = p.memory;
      flags = set-set p.flags f k (any (here i) (reads p.memory (next i) n)) i;
    }))

-- a field that is not 0
pub test_is : (c : Context) (f : ℕ) (s : Span) (p : Processor) → Whole c p → s.at + s.len ≤ 4096 → f < 16
    → IsSettable f → Free c f → run (phrase_nanos (Test f s) c) p ≡ phrase_assigned (Test f s) p p
unfolding tabulate
test_is c f s p h within small settable free =
    let m : List Bool = p.memory in
    let fits : s.at + s.len ≤ length m = (let all : length p.memory ≡ 4096 = h.memory in omega (arith, all, within)) in
    let fs : List Bool = set p.flags f false in
    let q : Processor = record { memory = m; flags = fs } in
    let here : get_or fs f false ≡ false =
    get_or-set_same p.flags f false false (let long : length p.flags ≡ 16 = h.ready.long in omega (arith, long)) in
    let other : eqb 8 f ≡ false = grind (arith, nat_tests, settable.zero_flag) in
    let start : s.at + 0 ≡ s.at = omega arith in
    let is : any false (reads m s.at s.len) ≡ not (eqb (value_of p s) 0) =
    any_false (reads m s.at s.len) ∙ ap (λ (v : ℕ). not (eqb v 0)) (sym (read_value p s fits)) in
    ap (run (map (λ i. nano c (s.at + i) (s.at + i) f f 0xf0 0xfa) (range_with_len 0 s.len)))
    (clear_step c f p h.ready settable.zero_flag settable.news settable.daisy)
    ∙ tested c f s.at free settable small s.len 0 q (ready-flag c m f false p free other h.ready)
    ∙ (λ i. record { memory = m; flags = set-set p.flags f false (any (here i) (reads m (start i) s.len)) i })
    ∙ (λ i. record { memory = m; flags = set p.flags f (is i) })

-- ---- a flag into a field

-- a flag into the lowest bit, 0 into the others
abbrev lowest : ℕ → ℕ
lowest i = if eqb i 0 then 0xaa else 0x00

table_flag : (x y z : Bool) → entry 0xaa x y z ≡ z
table_flag true true true = refl
table_flag true true false = refl
table_flag true false true = refl
table_flag true false false = refl
table_flag false true true = refl
table_flag false true false = refl
table_flag false false true = refl
table_flag false false false = refl

-- so many bits that are worth a number
record AreWorth (n v : ℕ) (bs : List Bool) : Type 0 where
  long : length bs ≡ n
  worth : value bs ≡ v

one_before : (b : Bool) (n v : ℕ) (bs : List Bool) → AreWorth n v bs → AreWorth (suc n) (bit_number b + 2 * v) (b ∷ bs)
one_before b n v bs are = record {
  long = (let e : length bs ≡ n = are.long in omega (arith, e));
  worth = ap (λ (k : ℕ). bit_number b + 2 * k) are.worth;
}

-- the bits above the lowest are worth nothing
zeros : (z : Bool) (j n : ℕ) (xs ys : List Bool) → 1 ≤ j → length xs ≡ n → length ys ≡ n
    → AreWorth n 0 (choices lowest z j xs ys)
zeros z j zero [] ys low hx hy = record { long = refl; worth = refl }
zeros z j zero (x ∷ xs) ys low hx hy = absurd (omega (arith, hx))
zeros z j (suc n) [] ys low hx hy = absurd (omega (arith, hx))
zeros z j (suc n) (x ∷ xs) [] low hx hy = absurd (omega (arith, hy))
zeros z j (suc n) (x ∷ xs) (y ∷ ys) low hx hy =
    let later : eqb j 0 ≡ false = grind (arith, nat_tests) in
    let none : entry (lowest j) x y z ≡ false =
    ap (λ (b : Bool). entry (if b then 0xaa else 0x00) x y z) later ∙ table_0 x y z in
    let rest : List Bool = choices lowest z (j + 1) xs ys in
    subst (λ (b : Bool). AreWorth (suc n) 0 (b ∷ rest)) (sym none)
    (one_before false n 0 rest (zeros z (j + 1) n xs ys (omega arith) (omega (arith, hx)) (omega (arith, hy))))

-- with the lowest they are worth the flag
kept : (z : Bool) (n : ℕ) (xs ys : List Bool) → 1 ≤ n → length xs ≡ n → length ys ≡ n
    → AreWorth n (bit_number z) (choices lowest z 0 xs ys)
kept z zero xs ys some hx hy = absurd (omega arith)
kept z (suc n) [] ys some hx hy = absurd (omega (arith, hx))
kept z (suc n) (x ∷ xs) [] some hx hy = absurd (omega (arith, hy))
kept z (suc n) (x ∷ xs) (y ∷ ys) some hx hy =
    let rest : List Bool = choices lowest z 1 xs ys in
    let all : bit_number z + 2 * 0 ≡ bit_number z = omega arith in
    subst (λ (b : Bool). AreWorth (suc n) (bit_number z) (b ∷ rest)) (sym (table_flag x y z))
    (subst (λ (v : ℕ). AreWorth (suc n) v (z ∷ rest)) all
    (one_before z n 0 rest (zeros z 1 n xs ys (omega arith) (omega (arith, hx)) (omega (arith, hy)))))

-- a field that keeps a flag
pub keep_is : (c : Context) (d : Span) (f : ℕ) (p : Processor) → Whole c p → IsField d
    → run (phrase_nanos (Keep d f) c) p ≡ phrase_assigned (Keep d f) p p
unfolding tabulate
keep_is c d f p h field =
    let m : List Bool = p.memory in
    let z : Bool = get_or p.flags f false in
    let fits : d.at + d.len ≤ length m =
    (let all : length p.memory ≡ 4096 = h.memory in let within : d.at + d.len ≤ 4096 = field.within in
    omega (arith, all, within)) in
    let start : d.at + 0 ≡ d.at = omega arith in
    let bits : List Bool = reads m d.at d.len in
    let is : AreWorth d.len (bit_number z) (choices lowest z 0 bits bits) =
    kept z d.len bits bits field.some (length-reads m d.at d.len) (length-reads m d.at d.len) in
    ripple_still c lowest f d.at d.at d.len (inl (omega arith)) d.len 0 p (omega arith) h.ready
    ∙ (λ i. record {
      memory = writes m (start i) (choices lowest z 0 (reads m (start i) d.len) (reads m (start i) d.len));
      flags = p.flags;
    })
    ∙ (λ i. record {
      memory = stored m d.at d.len (choices lowest z 0 bits bits) (bit_number z) fits is.long is.worth i;
      flags = p.flags;
    })
