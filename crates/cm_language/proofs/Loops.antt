-- One instruction for each bit of two fields, from the lowest bit up.
use Rattle.std.proofs.Common.{◌≡◌, ℕ, zero, suc, ◌+◌, ◌<◌, ◌≤◌, ◌⊎◌, Bool, false, List, [], ◌∷◌, length, get_or, set}
use Rattle.std.proofs.Common.{map, refl, sym, ap, ◌∙◌, arith, inl, inr, ⊎_elim}
use Rattle.std.specs.List.{range_with_len}
use Rattle.std.proofs.lemmas.List.{set-set, set-get_or, get_or-set_same}
use Rattle.cm_model.specs.declared.act.Nano.{Nano}
use Rattle.cm_model.specs.Processor.{Processor, entry}
use Rattle.cm_model.specs.Instruction.{processor_after}
use Rattle.cm_language.specs.declared.macros.Context.{Context}
use Rattle.cm_language.specs.Acts.{nano}
use Rattle.cm_language.proofs.Bits.{reads, writes, reads-set}
use Rattle.cm_language.proofs.Sums.{outs, carried}
use Rattle.cm_language.proofs.Steps.{run, Ready, Free, ready-flag, ready-memory, one_still, one_flag}

-- the first field does not run ahead into the second
abbrev pub IsBehind : ℕ → ℕ → ℕ → Type 0
IsBehind a b len = (a ≤ b) ⊎ (b + len ≤ a)

-- what the bit that is written is to the bits that are read later
earlier : (a b len j n : ℕ) → j + suc n ≡ len → IsBehind a b len → (a + j < b + (j + 1)) ⊎ (b + (j + 1) + n ≤ a + j)
earlier a b len j n e h = ⊎_elim (λ (l : a ≤ b). inl (omega (arith, e))) (λ (l : b + len ≤ a). inr (omega (arith, e))) h

-- ---- flag 7 carries from bit to bit

-- what is left of a processor
abbrev pub rippled : ℕ → ℕ → List Bool → List Bool → ℕ → Bool → List Bool → List Bool → Processor
rippled tm tf m fs a z xs ys =
    record { memory = writes m a (outs tm tf z xs ys); flags = set fs 7 (carried tf z xs ys) }

pub ripple_carry : (c : Context) (tm tf a b len : ℕ) → IsBehind a b len → Free c 7 → (n j : ℕ) (p : Processor)
    → j + n ≡ len → Ready c p
    → run (map (λ i. nano c (a + i) (b + i) 7 7 tm tf) (range_with_len j n)) p
    ≡ rippled tm tf p.memory
    p.flags (a + j) (get_or p.flags 7 false) (reads p.memory (a + j) n) (reads p.memory (b + j) n)
ripple_carry c tm tf a b len behind free zero j p e h =
    λ i. record { memory = p.memory; flags = sym (set-get_or p.flags 7 false) i }
ripple_carry c tm tf a b len behind free (suc n) j p e h =
    let x : Bool = get_or p.memory (a + j) false in
    let y : Bool = get_or p.memory (b + j) false in
    let z : Bool = get_or p.flags 7 false in
    let o : Bool = entry tm x y z in
    let k : Bool = entry tf x y z in
    let m : List Bool = set p.memory (a + j) o in
    let fs : List Bool = set p.flags 7 k in
    let q : Processor = record { memory = m; flags = fs } in
    let rest : List Nano = map (λ i. nano c (a + i) (b + i) 7 7 tm tf) (range_with_len (j + 1) n) in
    let first : processor_after (nano c (a + j) (b + j) 7 7 tm tf) false p ≡ q =
    one_flag c (a + j) (b + j) 7 7 tm tf p h refl refl refl in
    let others : run rest q ≡ rippled tm tf m
    fs (a + (j + 1)) (get_or fs 7 false) (reads m (a + (j + 1)) n) (reads m (b + (j + 1)) n) =
    ripple_carry c tm tf a b len behind free n (j + 1) q (omega (arith, e)) (ready-flag c m 7 k p free refl h) in
    let next_a : a + (j + 1) ≡ a + j + 1 = omega arith in
    let next_b : b + (j + 1) ≡ b + j + 1 = omega arith in
    let here : get_or fs 7 false ≡ k =
    get_or-set_same p.flags 7 k false (let long : length p.flags ≡ 16 = h.long in omega (arith, long)) in
    let xs : reads m (a + (j + 1)) n ≡ reads p.memory (a + j + 1) n =
    reads-set p.memory (a + j) o (a + (j + 1)) n (inl (omega arith)) ∙ ap (λ (s : ℕ). reads p.memory s n) next_a in
    let ys : reads m (b + (j + 1)) n ≡ reads p.memory (b + j + 1) n =
    reads-set p.memory (a + j) o (b + (j + 1)) n (earlier a b len j n e behind)
    ∙ ap (λ (s : ℕ). reads p.memory s n) next_b in
    ap (run rest) first ∙ (others ∙ (λ i. record {
      memory = writes m (next_a i) (outs tm tf (here i) (xs i) (ys i));
      flags = set-set p.flags 7 k (carried tf (here i) (xs i) (ys i)) i;
    }))

-- ---- flags stay, and the table may depend on the bit's number

-- what the bits become
abbrev pub choices : (ℕ → ℕ) → Bool → ℕ → List Bool → List Bool → List Bool
choices t z j [] ys = []
choices t z j (x ∷ xs) [] = []
choices t z j (x ∷ xs) (y ∷ ys) = entry (t j) x y z ∷ choices t z (j + 1) xs ys

pub ripple_still : (c : Context) (t : ℕ → ℕ) (r a b len : ℕ) → IsBehind a b len → (n j : ℕ) (p : Processor)
    → j + n ≡ len → Ready c p
    → run (map (λ i. nano c (a + i) (b + i) r 8 (t i) 0x00) (range_with_len j n)) p
    ≡ record {
      memory = writes
          p.memory (a + j) (choices t (get_or p.flags r false) j (reads p.memory (a + j) n) (reads p.memory (b + j) n));
      flags = p.flags;
    }
ripple_still c t r a b len behind zero j p e h = refl
ripple_still c t r a b len behind (suc n) j p e h =
    let x : Bool = get_or p.memory (a + j) false in
    let y : Bool = get_or p.memory (b + j) false in
    let z : Bool = get_or p.flags r false in
    let o : Bool = entry (t j) x y z in
    let m : List Bool = set p.memory (a + j) o in
    let q : Processor = record { memory = m; flags = p.flags } in
    let rest : List Nano = map (λ i. nano c (a + i) (b + i) r 8 (t i) 0x00) (range_with_len (j + 1) n) in
    let first : processor_after (nano c (a + j) (b + j) r 8 (t j) 0x00) false p ≡ q =
    one_still c (a + j) (b + j) r (t j) 0x00 p h in
    let others : run rest q ≡ record {
      memory = writes m (a + (j + 1)) (choices t z (j + 1) (reads m (a + (j + 1)) n) (reads m (b + (j + 1)) n));
      flags = p.flags;
    } =
    ripple_still c t r a b len behind n (j + 1) q (omega (arith, e)) (ready-memory c m p h) in
    let next_a : a + (j + 1) ≡ a + j + 1 = omega arith in
    let next_b : b + (j + 1) ≡ b + j + 1 = omega arith in
    let xs : reads m (a + (j + 1)) n ≡ reads p.memory (a + j + 1) n =
    reads-set p.memory (a + j) o (a + (j + 1)) n (inl (omega arith)) ∙ ap (λ (s : ℕ). reads p.memory s n) next_a in
    let ys : reads m (b + (j + 1)) n ≡ reads p.memory (b + j + 1) n =
    reads-set p.memory (a + j) o (b + (j + 1)) n (earlier a b len j n e behind)
    ∙ ap (λ (s : ℕ). reads p.memory s n) next_b in
    ap (run rest) first ∙ (others
    ∙ (λ i. record { memory = writes m (next_a i) (choices t z (j + 1) (xs i) (ys i)); flags = p.flags }))
