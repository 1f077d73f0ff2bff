-- Runs of memory bits: what is read of them, and what is left when they are written.
use Rattle.std.proofs.Common.{◌≡◌, ℕ, zero, suc, ◌+◌, ◌<◌, ◌≤◌, ◌⊎◌, Bool, false, List, [], ◌∷◌, ◌++◌, length, get_or}
use Rattle.std.proofs.Common.{set, take, drop, refl, sym, ap, ◌∙◌, arith, inl, inr, ⊎_elim, append_assoc}
use Rattle.std.proofs.lemmas.List.{get_or-set_other, get_or-set_same, length-set, drop-set-lt, take_more_set, drop_more}
use Rattle.std.proofs.lemmas.List.{set-set, set_comm, set-get_or, take-append-drop}

-- so many bits from an address on
abbrev pub reads : List Bool → ℕ → ℕ → List Bool
reads m a zero = []
reads m a (suc n) = get_or m a false ∷ reads m (a + 1) n

-- the memory with these bits from an address on
abbrev pub writes : List Bool → ℕ → List Bool → List Bool
writes m a [] = m
writes m a (b ∷ bs) = writes (set m a b) (a + 1) bs

pub length-reads : (m : List Bool) (a n : ℕ) → length (reads m a n) ≡ n
length-reads m a zero = refl
length-reads m a (suc n) = ap suc (length-reads m (a + 1) n)

-- a bit outside is not read
pub reads-set : (m : List Bool) (k : ℕ) (b : Bool) (a n : ℕ) → (k < a) ⊎ (a + n ≤ k)
    → reads (set m k b) a n ≡ reads m a n
reads-set m k b a zero h = refl
reads-set m k b a (suc n) h =
    let other : a ≡ k → ⊥ = λ e. ⊎_elim (λ (l : k < a). omega (arith, e)) (λ (l : a + suc n ≤ k). omega (arith, e)) h in
    let later : (k < a + 1) ⊎ (a + 1 + n ≤ k) =
    ⊎_elim (λ (l : k < a). inl (omega arith)) (λ (l : a + suc n ≤ k). inr (omega arith)) h in
    λ i. get_or-set_other m k a b false other i ∷ reads-set m k b (a + 1) n later i

-- nor is it written over
pub get_or-writes : (m : List Bool) (a : ℕ) (bs : List Bool) (k : ℕ) → (k < a) ⊎ (a + length bs ≤ k)
    → get_or (writes m a bs) k false ≡ get_or m k false
get_or-writes m a [] k h = refl
get_or-writes m a (b ∷ bs) k h =
    let other : k ≡ a → ⊥ = λ e. ⊎_elim (λ (l : k < a). omega (arith, e))
    (λ (l : a + suc (length bs) ≤ k). omega (arith, e)) h in
    let later : (k < a + 1) ⊎ (a + 1 + length bs ≤ k) =
    ⊎_elim (λ (l : k < a). inl (omega arith)) (λ (l : a + suc (length bs) ≤ k). inr (omega arith)) h in
    get_or-writes (set m a b) (a + 1) bs k later ∙ get_or-set_other m a k b false other

-- the bits are a part of the memory
pub reads-is : (m : List Bool) (a n : ℕ) → a + n ≤ length m → reads m a n ≡ take n (drop a m)
reads-is m a zero h = refl
reads-is m a (suc n) h =
    let l : a < length m = omega arith in
    ap (λ bs. get_or m a false ∷ bs) (reads-is m (a + 1) n (omega arith))
    ∙ sym (ap (λ bs. take (suc n) bs) (drop_more m a false l))

-- what is left: the bits before, the bits that were written, and those after
pub writes-is : (m : List Bool) (a : ℕ) (bs : List Bool) → a + length bs ≤ length m
    → writes m a bs ≡ take a m ++ (bs ++ drop (a + length bs) m)
writes-is m a [] h =
    let e : a ≡ a + 0 = omega arith in
    sym (take-append-drop a m) ∙ ap (λ (k : ℕ). take a m ++ drop k m) e
writes-is m a (b ∷ bs) h =
    let l : a < length m = omega arith in
    let fits : a + 1 + length bs ≤ length (set m a b) = omega (arith, length-set m a b) in
    let e : a + 1 + length bs ≡ a + suc (length bs) = omega arith in
    let beyond : a < a + 1 + length bs = omega arith in
    writes-is (set m a b) (a + 1) bs fits
    ∙ (λ i. take_more_set m a b l i ++ (bs ++ drop-set-lt (a + 1 + length bs) m a b beyond i))
    ∙ append_assoc (take a m) (b ∷ []) (bs ++ drop (a + 1 + length bs) m)
    ∙ ap (λ (k : ℕ). take a m ++ (b ∷ bs ++ drop k m)) e

-- a bit before them may be written first or last
set-writes : (m : List Bool) (k : ℕ) (c : Bool) (a : ℕ) (bs : List Bool) → k < a
    → set (writes m a bs) k c ≡ writes (set m k c) a bs
set-writes m k c a [] h = refl
set-writes m k c a (b ∷ bs) h =
    let other : a ≡ k → ⊥ = λ e. omega (arith, e) in
    set-writes (set m a b) k c (a + 1) bs (omega arith) ∙ ap (λ xs. writes xs (a + 1) bs) (set_comm m a k b c other)

-- of two writes to the same place the second stands
pub writes-over : (m : List Bool) (a : ℕ) (bs cs : List Bool) → length bs ≡ length cs
    → writes (writes m a bs) a cs ≡ writes m a cs
writes-over m a [] [] h = refl
writes-over m a [] (c ∷ cs) h = absurd (omega (arith, h))
writes-over m a (b ∷ bs) [] h = absurd (omega (arith, h))
writes-over m a (b ∷ bs) (c ∷ cs) h =
    ap (λ xs. writes xs (a + 1) cs) (set-writes (set m a b) a c (a + 1) bs (omega arith)
    ∙ ap (λ xs. writes xs (a + 1) bs) (set-set m a b c))
    ∙ writes-over (set m a c) (a + 1) bs cs (omega (arith, h))

-- two runs of bits, one behind the other
pub writes-append : (m : List Bool) (a : ℕ) (bs cs : List Bool)
    → writes m a (bs ++ cs) ≡ writes (writes m a bs) (a + length bs) cs
writes-append m a [] cs = let e : a ≡ a + 0 = omega arith in ap (λ (k : ℕ). writes m k cs) e
writes-append m a (b ∷ bs) cs =
    let e : a + 1 + length bs ≡ a + suc (length bs) = omega arith in
    writes-append (set m a b) (a + 1) bs cs ∙ ap (λ (k : ℕ). writes (writes (set m a b) (a + 1) bs) k cs) e

-- the bits that were there
pub writes-reads : (m : List Bool) (a n : ℕ) → writes m a (reads m a n) ≡ m
writes-reads m a zero = refl
writes-reads m a (suc n) =
    ap (λ xs. writes xs (a + 1) (reads m (a + 1) n)) (set-get_or m a false) ∙ writes-reads m (a + 1) n

-- a run of bits is read where none of them was written
pub reads-writes_apart : (m : List Bool) (a : ℕ) (bs : List Bool) (x n : ℕ) → (a + length bs ≤ x) ⊎ (x + n ≤ a)
    → reads (writes m a bs) x n ≡ reads m x n
reads-writes_apart m a bs x zero h = refl
reads-writes_apart m a bs x (suc n) h =
    let here : (x < a) ⊎ (a + length bs ≤ x) =
    ⊎_elim (λ (l : a + length bs ≤ x). inr l) (λ (l : x + suc n ≤ a). inl (omega arith)) h in
    let later : (a + length bs ≤ x + 1) ⊎ (x + 1 + n ≤ a) =
    ⊎_elim (λ (l : a + length bs ≤ x). inl (omega arith)) (λ (l : x + suc n ≤ a). inr (omega arith)) h in
    λ i. get_or-writes m a bs x here i ∷ reads-writes_apart m a bs (x + 1) n later i

-- bits read back as they were written
pub reads-writes : (m : List Bool) (a : ℕ) (bs : List Bool) → a + length bs ≤ length m
    → reads (writes m a bs) a (length bs) ≡ bs
reads-writes m a [] h = refl
reads-writes m a (b ∷ bs) h =
    let l : a < length m = omega arith in
    let before : (a < a + 1) ⊎ (a + 1 + length bs ≤ a) = inl (omega arith) in
    let fits : a + 1 + length bs ≤ length (set m a b) = omega (arith, length-set m a b) in
    λ i. (get_or-writes (set m a b) (a + 1) bs a before ∙ get_or-set_same m a b false l) i ∷
    reads-writes (set m a b) (a + 1) bs fits i

-- the same, from bit j on
pub reads-writes_above : (m : List Bool) (a : ℕ) (bs : List Bool) (j n : ℕ) → a + length bs ≤ length m
    → length bs ≡ j + n → reads (writes m a bs) (a + j) n ≡ drop j bs
reads-writes_above m a bs zero n h e =
    let k : a + 0 ≡ a = omega arith in
    let whole : n ≡ length bs = omega (arith, e) in
    ap (λ (z : ℕ). reads (writes m a bs) z n) k ∙ ap (reads (writes m a bs) a) whole ∙ reads-writes m a bs h
reads-writes_above m a [] (suc j) n h e = absurd (omega (arith, e))
reads-writes_above m a (b ∷ bs) (suc j) n h e =
    let k : a + suc j ≡ a + 1 + j = omega arith in
    let fits : a + 1 + length bs ≤ length (set m a b) = omega (arith, length-set m a b) in
    ap (λ (z : ℕ). reads (writes (set m a b) (a + 1) bs) z n) k
    ∙ reads-writes_above (set m a b) (a + 1) bs j n fits (omega (arith, e))

-- one bit more
pub reads_more : (m : List Bool) (a n : ℕ) → reads m a (n + 1) ≡ reads m a n ++ get_or m (a + n) false ∷ []
reads_more m a zero = let e : a ≡ a + 0 = omega arith in ap (λ (k : ℕ). get_or m k false ∷ []) e
reads_more m a (suc n) =
    let e : a + 1 + n ≡ a + suc n = omega arith in
    let more : suc n + 1 ≡ suc (n + 1) = omega arith in
    ap (reads m a) more ∙ ap (λ bs. get_or m a false ∷ bs) (reads_more m (a + 1) n
    ∙ ap (λ (k : ℕ). reads m (a + 1) n ++ get_or m k false ∷ []) e)

-- the first of them
pub take-reads : (m : List Bool) (a n k : ℕ) → take n (reads m a (n + k)) ≡ reads m a n
take-reads m a zero k = refl
take-reads m a (suc n) k =
    let e : suc n + k ≡ suc (n + k) = omega arith in
    ap (λ (z : ℕ). take (suc n) (reads m a z)) e ∙ ap (λ bs. get_or m a false ∷ bs) (take-reads m (a + 1) n k)
