-- A chip of planes after one bit of one processor was put there.
use Rattle.std.proofs.Common.{◌≡◌, ◌≢◌, ℕ, ◌-◌, ◌*◌, ◌%◌, ◌^◌, ◌<◌, ◌==◌, ◌&&◌, ◌||◌, Bool, true, false, not, List}
use Rattle.std.proofs.Common.{length, map, get_or, set, refl, sym, ap, ◌∙◌, ⊎_elim, arith, eq-eqb, ne_eqb, bit_and}
use Rattle.std.proofs.Common.{bit_or, mod-lt, lit<, if◌then◌else◌, length-set, get_or-set_same, get_or-set_other}
use Rattle.std.proofs.lemmas.Bool.{cases_Bool, eqb-true, eqb-false}
use Rattle.std.proofs.lemmas.Nat.{one_shl}
use Rattle.std.proofs.lemmas.Nat.Bits.{bit_at-pow_same, bit_at-pow_other}
use Rattle.cm_bits.specs.Bit.{bit}
use Rattle.cm_model.specs.Each.{tabulate}
use Rattle.cm_model.specs.Processor.{Processor}
use Rattle.cm_model.specs.Chip.{IsPlane, with_memory_bit, with_flag, no_processor}
use Rattle.cm_model.proofs.Bits.{bit-bit_and, bit-bit_or, bit-bit_not}
use Rattle.cm_model.proofs.Each.{is_each, length-tabulate, get_or-each_below}
use Rattle.cm_element.specs.Planes.{processor_in, chip_of}
use Rattle.cm_element.proofs.Planes.{processor_at-chip_of}
use Rattle.cm_element.proofs.Storing.{row-set}

-- ---- one bit of a plane

pub bit-one_here : (k p : ℕ) → k < 16 → bit ((1 * 2 ^ k) % 65536) p ≡ (p == k)
bit-one_here k p h =
    ap (λ (n : ℕ). bit n p) (one_shl k 16 h) ∙ ⊎_elim
    (λ (e : (p == k) ≡ true). let same : p ≡ k = eqb-true p k e in
    rw (e, same) (ap (λ (n : ℕ). n == 1) (bit_at-pow_same k)))
    (λ (e : (p == k) ≡ false). let other : p ≢ k = eqb-false p k e in
    rw e (ap (λ (n : ℕ). n == 1) (bit_at-pow_other k p other)))
    (cases_Bool (p == k))

or_here : (here b : Bool) → b || here ≡ (if here then true else b)
or_here true true = refl
or_here true false = refl
or_here false true = refl
or_here false false = refl

and_not_here : (here b : Bool) → b && not here ≡ (if here then false else b)
and_not_here true true = refl
and_not_here true false = refl
and_not_here false true = refl
and_not_here false false = refl

-- the plane with a 1 for processor k
pub bit-put : (plane k p : ℕ) → k < 16
    → bit (bit_or plane ((1 * 2 ^ k) % 65536)) p ≡ (if p == k then true else bit plane p)
bit-put plane k p h =
    bit-bit_or plane ((1 * 2 ^ k) % 65536) p ∙ ap (λ (v : Bool). bit plane p || v) (bit-one_here k p h)
    ∙ or_here (p == k) (bit plane p)

-- the plane with a 0 for processor k
pub bit-cleared : (plane k p : ℕ) → k < 16 → p < 16
    → bit (bit_and plane (65535 - (1 * 2 ^ k) % 65536)) p ≡ (if p == k then false else bit plane p)
bit-cleared plane k p h below =
    bit-bit_and plane (65535 - (1 * 2 ^ k) % 65536) p
    ∙ ap (λ (v : Bool). bit plane p && v)
    (bit-bit_not ((1 * 2 ^ k) % 65536) p (mod-lt (1 * 2 ^ k) (lit< tt)) below ∙ ap not (bit-one_here k p h))
    ∙ and_not_here (p == k) (bit plane p)

bit_for_here : (here b c : Bool) → (if here then false else c) || (here && b) ≡ (if here then b else c)
bit_for_here true true c = refl
bit_for_here true false c = refl
bit_for_here false b true = refl
bit_for_here false b false = refl

-- the plane with a bit for processor k that stands in another, where the others have 0
pub bit-replaced : (plane alone k p : ℕ) (b : Bool) → k < 16 → p < 16 → bit alone p ≡ ((p == k) && b)
    → bit (bit_or (bit_and plane (65535 - (1 * 2 ^ k) % 65536)) alone) p ≡ (if p == k then b else bit plane p)
bit-replaced plane alone k p b h below is =
    bit-bit_or (bit_and plane (65535 - (1 * 2 ^ k) % 65536)) alone p
    ∙ (λ j. bit-cleared plane k p h below j || is j)
    ∙ bit_for_here (p == k) b (bit plane p)

-- ---- one processor of a chip

-- another processor in place of one
pub put_there : (old new : ℕ → Processor) (p : ℕ) (processor : Processor) → p < 16 → processor ≡ new p
    → ((q : ℕ) → q < 16 → q ≢ p → old q ≡ new q) → tabulate 0 16 new ≡ set (tabulate 0 16 old) p processor
put_there old new p processor below here others =
    let long : length (tabulate 0 16 old) ≡ 16 = length-tabulate 0 16 old in
    let inside : p < length (tabulate 0 16 old) = omega arith in
    sym (is_each no_processor 16 new (set (tabulate 0 16 old) p processor)
    (length-set (tabulate 0 16 old) p processor ∙ long)
    (λ q h. ⊎_elim
    (λ (e : (q == p) ≡ true). let same : q ≡ p = eqb-true q p e in
    rw same (get_or-set_same (tabulate 0 16 old) p processor no_processor inside ∙ here))
    (λ (e : (q == p) ≡ false). let other : q ≢ p = eqb-false q p e in
    get_or-set_other (tabulate 0 16 old) p q processor no_processor other
    ∙ get_or-each_below 16 old q no_processor h ∙ others q h other)
    (cases_Bool (q == p))))

-- the plane has this bit for processor p, and for the others those of the plane that was there
abbrev pub IsPut : List ℕ → ℕ → ℕ → ℕ → Bool → Type 0
IsPut planes i word p b = IsPlane word (λ q. if q == p then b else bit (get_or planes i 0) q)

-- what processor p has of the row then
row_here : (planes : List ℕ) (i word p : ℕ) (b : Bool) → p < 16 → IsPut planes i word p b
    → set (map (λ plane. bit plane p) planes) i b ≡ map (λ plane. bit plane p) (set planes i word)
row_here planes i word p b below is =
    sym (row-set planes i word p b true
    (is p below ∙ ap (λ (v : Bool). if v then b else bit (get_or planes i 0) p) (eq-eqb p p refl)))

-- what the others have
row_others : (planes : List ℕ) (i word p : ℕ) (b : Bool) → IsPut planes i word p b → (q : ℕ) → q < 16 → q ≢ p
    → map (λ plane. bit plane q) planes ≡ map (λ plane. bit plane q) (set planes i word)
row_others planes i word p b is q h other =
    sym (row-set planes i word q b false
    (is q h ∙ ap (λ (v : Bool). if v then b else bit (get_or planes i 0) q) (ne_eqb q p other)))

pub put_memory : (memory flags : List ℕ) (p i word : ℕ) (b : Bool) → p < 16 → IsPut memory i word p b
    → chip_of (set memory i word) flags ≡ with_memory_bit (chip_of memory flags) p i b
unfolding chip_of with_memory_bit
put_memory memory flags p i word b below is =
    put_there (processor_in memory flags) (processor_in (set memory i word) flags) p
    (record (get_or (chip_of memory flags) p no_processor) {
      memory = set (get_or (chip_of memory flags) p no_processor).memory i b;
    }) below
    (ap (λ (v : Processor). record v { memory = set v.memory i b }) (processor_at-chip_of memory flags p below)
    ∙ (λ j. record { memory = row_here memory i word p b below is j; flags = map (λ plane. bit plane p) flags }))
    (λ q h other. λ j.
    record { memory = row_others memory i word p b is q h other j; flags = map (λ plane. bit plane q) flags })

pub put_flag : (memory flags : List ℕ) (p i word : ℕ) (b : Bool) → p < 16 → IsPut flags i word p b
    → chip_of memory (set flags i word) ≡ with_flag (chip_of memory flags) p i b
unfolding chip_of with_flag
put_flag memory flags p i word b below is =
    put_there (processor_in memory flags) (processor_in memory (set flags i word)) p
    (record (get_or (chip_of memory flags) p no_processor) {
      flags = set (get_or (chip_of memory flags) p no_processor).flags i b;
    }) below
    (ap (λ (v : Processor). record v { flags = set v.flags i b }) (processor_at-chip_of memory flags p below)
    ∙ (λ j. record { memory = map (λ plane. bit plane p) memory; flags = row_here flags i word p b below is j }))
    (λ q h other. λ j.
    record { memory = map (λ plane. bit plane q) memory; flags = row_others flags i word p b is q h other j })
