-- Rows that are kept in slots, and all rows that they stand for.
use Rattle.std.proofs.Common.{◌≡◌, ◌≢◌, ◌⊎◌, inl, inr, ℕ, zero, suc, ◌+◌, ◌-◌, ◌*◌, ◌/◌, ◌%◌, ◌<◌, ◌≤◌, ◌^◌, List, [], ◌∷◌}
use Rattle.std.proofs.Common.{length, get_or, set, replicate, refl, sym, ap, ◌∙◌, ⊎_elim, arith, ext_get_or}
use Rattle.std.proofs.Common.{get_or-set_same, get_or-set_other, length-set}
use Rattle.std.proofs.Math.Nat.{mod-lt}
use Rattle.std.proofs.lemmas.Bool.{cases_lt}
use Rattle.std.proofs.lemmas.Nat.{mul-le, div-mul-add, mod-mul-add, div-add-mod'}
use Rattle.std.proofs.lemmas.List.{get_or_past, set-get_or}
use Rattle.std.proofs.lemmas.Simd.{length-replicate}
use Rattle.cm_model.proofs.Each.{get_or-each_below, length-tabulate, same_each_below}
use Rattle.cm_element.specs.Sparse.{spread, in_use, AreMemorySlots}
use Rattle.cm_element.proofs.Columns.{next_row, row_within, get_or-zeros}

-- ---- all rows

pub length-spread : (words slots : List ℕ) (stride : ℕ) → length (spread words slots stride) ≡ 4096 * stride
unfolding spread
length-spread words slots stride =
    length-tabulate 0 (4096 * stride) (λ k. get_or words (get_or slots (k / stride) 0 * stride + k % stride) 0)

pub get_or-spread : (words slots : List ℕ) (stride i c : ℕ) → i < 4096 → c < stride
    → get_or (spread words slots stride) (i * stride + c) 0 ≡ get_or words (get_or slots i 0 * stride + c) 0
unfolding spread
get_or-spread words slots stride i c below here =
    let within : i * stride + stride ≤ 4096 * stride = row_within i 4096 stride below in
    get_or-each_below (4096 * stride) (λ k. get_or words (get_or slots (k / stride) 0 * stride + k % stride) 0)
    (i * stride + c) 0 (omega arith)
    ∙ (λ j. get_or words (get_or slots (div-mul-add i stride c here j) 0 * stride + mod-mul-add i stride c here j) 0)

-- the row of a word, and its place there
pub record IsAt (stride k i c : ℕ) : Type 0 where
  pub below : i < 4096
  pub here : c < stride
  pub is : k ≡ i * stride + c

pub at : (stride k : ℕ) → k < 4096 * stride → IsAt stride k (k / stride) (k % stride)
at stride k h =
    let some : 0 < stride = ⊎_elim (λ (s : 0 < stride). s)
    (λ (none : stride ≤ 0). let no : stride ≡ 0 = omega arith in
    let nothing : 4096 * stride ≡ 0 = ap (λ (n : ℕ). 4096 * n) no in absurd (omega arith)) (cases_lt 0 stride) in
    let is : k / stride * stride + k % stride ≡ k = div-add-mod' k stride in
    record {
      below = ⊎_elim (λ (b : k / stride < 4096). b)
          (λ (past : 4096 ≤ k / stride).
          let far : 4096 * stride ≤ k / stride * stride = mul-le 4096 stride (k / stride) stride past (omega arith) in
          absurd (omega (arith, far, is))) (cases_lt (k / stride) 4096);
      here = mod-lt k some;
      is = sym is;
    }

-- rows that read alike are the same
pub same_spread : (words slots words_new slots_new : List ℕ) (stride : ℕ)
    → ((i c : ℕ) → i < 4096 → c < stride
    → get_or words_new (get_or slots_new i 0 * stride + c) 0 ≡ get_or words (get_or slots i 0 * stride + c) 0)
    → spread words_new slots_new stride ≡ spread words slots stride
unfolding spread
same_spread words slots words_new slots_new stride same =
    same_each_below 0 (4096 * stride)
    (λ k. get_or words_new (get_or slots_new (k / stride) 0 * stride + k % stride) 0)
    (λ k. get_or words (get_or slots (k / stride) 0 * stride + k % stride) 0)
    (λ k h. let place = at stride k h in same (k / stride) (k % stride) place.below place.here)

-- ---- a write into the own row of an address

-- only words of one row from one to another were changed
pub record IsChangedAt (start low high : ℕ) (old new : List ℕ) : Type 0 where
  pub below : (i : ℕ) → i < start + low → get_or new i 0 ≡ get_or old i 0
  pub above : (i : ℕ) → start + high ≤ i → get_or new i 0 ≡ get_or old i 0

-- two rows of which one is in use have no word in common
other_row : (words slots : List ℕ) (capacity used stride i a low high c : ℕ) (new : List ℕ)
    → AreMemorySlots words capacity slots used stride → high ≤ stride → a < 4096 → 0 < get_or slots a 0 → i < 4096 → i ≢ a
    → c < stride → IsChangedAt (get_or slots a 0 * stride) low high words new
    → get_or new (get_or slots i 0 * stride + c) 0 ≡ get_or words (get_or slots i 0 * stride + c) 0
other_row words slots capacity used stride i a low high c new are few a_below own i_below other here changed =
    let s : ℕ = get_or slots i 0 in
    let t : ℕ = get_or slots a 0 in
    let apart : t ≢ s = are.apart a i a_below i_below (λ e. other (sym e)) own in
    ⊎_elim
    (λ (h : s < t). let far : s * stride + stride ≤ t * stride = next_row s t stride h in
    changed.below (s * stride + c) (omega arith))
    (λ (h : t ≤ s). ⊎_elim
    (λ (more : t < s). let far : t * stride + stride ≤ s * stride = next_row t s stride more in
    changed.above (s * stride + c) (omega arith))
    (λ (no_more : s ≤ t). absurd (apart (omega arith)))
    (cases_lt t s))
    (cases_lt s t)

-- then only those words of the address were changed
pub spread_changed : (words slots : List ℕ) (capacity used stride a low high : ℕ) (new : List ℕ)
    → AreMemorySlots words capacity slots used stride → high ≤ stride → a < 4096 → 0 < get_or slots a 0
    → IsChangedAt (get_or slots a 0 * stride) low high words new
    → (k : ℕ) → (k < a * stride + low) ⊎ (a * stride + high ≤ k)
    → get_or (spread new slots stride) k 0 ≡ get_or (spread words slots stride) k 0
spread_changed words slots capacity used stride a low high new are few a_below own changed k beside = ⊎_elim
    (λ (h : k < 4096 * stride).
    let i : ℕ = k / stride in
    let c : ℕ = k % stride in
    let place : IsAt stride k i c = at stride k h in
    ap (λ (n : ℕ). get_or (spread new slots stride) n 0) place.is
    ∙ get_or-spread new slots stride i c place.below place.here
    ∙ word i c place
    ∙ sym (get_or-spread words slots stride i c place.below place.here)
    ∙ sym (ap (λ (n : ℕ). get_or (spread words slots stride) n 0) place.is))
    (λ (h : 4096 * stride ≤ k).
    get_or_past (spread new slots stride) k 0 (omega (arith, h, length-spread new slots stride))
    ∙ sym (get_or_past (spread words slots stride) k 0 (omega (arith, h, length-spread words slots stride))))
    (cases_lt k (4096 * stride)) where
      mine : (c : ℕ) → IsAt stride k a c
          → get_or new (get_or slots a 0 * stride + c) 0 ≡ get_or words (get_or slots a 0 * stride + c) 0
      mine c place = let is = place.is in ⊎_elim
          (λ (h : k < a * stride + low). changed.below (get_or slots a 0 * stride + c) (omega arith))
          (λ (h : a * stride + high ≤ k). changed.above (get_or slots a 0 * stride + c) (omega arith))
          beside

      word : (i c : ℕ) → IsAt stride k i c
          → get_or new (get_or slots i 0 * stride + c) 0 ≡ get_or words (get_or slots i 0 * stride + c) 0
      word i c place = ⊎_elim
          (λ (h : i < a). other_row words slots capacity used stride i a low high c new are few a_below own place.below
          (omega arith) place.here changed)
          (λ (h : a ≤ i). ⊎_elim
          (λ (more : a < i). other_row words slots capacity used stride i a low high c new are few a_below own
          place.below (omega arith) place.here changed)
          (λ (no_more : i ≤ a). let same : i ≡ a = omega arith in
          let now : IsAt stride k a c = record {
            below = a_below;
            here = place.here;
            is = place.is ∙ ap (λ (n : ℕ). n * stride + c) same;
          } in rw same (mine c now))
          (cases_lt a i))
          (cases_lt i a)

-- and the slots are as they were
pub slots_kept : (words slots : List ℕ) (capacity used stride a low high : ℕ) (new : List ℕ) (capacity_new : ℕ)
    → AreMemorySlots words capacity slots used stride → high ≤ stride → a < 4096 → 0 < get_or slots a 0
    → IsChangedAt (get_or slots a 0 * stride) low high words new → length new ≡ length words → capacity ≤ capacity_new
    → AreMemorySlots new capacity_new slots used stride
slots_kept words slots capacity used stride a low high new capacity_new are few a_below own changed long more =
    let room : 4097 * stride ≤ capacity = are.room in
    let first : 1 * stride ≤ get_or slots a 0 * stride = mul-le 1 stride (get_or slots a 0) stride own (omega arith) in
    record {
      count = are.count;
      counted = are.counted;
      filled = long ∙ are.filled;
      room = omega arith;
      few = are.few;
      within = are.within;
      zeros = λ c h. changed.below c (omega (arith, first)) ∙ are.zeros c h;
      apart = are.apart;
    }

-- ---- one more row

pub in_use-set : (slots : List ℕ) (i n : ℕ) → i < length slots → get_or slots i 0 ≡ 0
    → in_use (set slots i (suc n)) ≡ suc (in_use slots)
unfolding in_use
in_use-set [] i n h is = absurd (omega arith)
in_use-set (zero ∷ slots) zero n h is = refl
in_use-set (suc s ∷ slots) zero n h is = absurd (omega (arith, is))
in_use-set (zero ∷ slots) (suc i) n h is = in_use-set slots i n (omega arith) is
in_use-set (suc s ∷ slots) (suc i) n h is = ap suc (in_use-set slots i n (omega arith) is)

pub in_use_le : (slots : List ℕ) → in_use slots ≤ length slots
unfolding in_use
in_use_le [] = omega arith
in_use_le (zero ∷ slots) = let rest : in_use slots ≤ length slots = in_use_le slots in omega arith
in_use_le (suc s ∷ slots) = let rest : in_use slots ≤ length slots = in_use_le slots in omega arith

-- where no slot is taken, an address has none
pub none_in_use : (slots : List ℕ) (i : ℕ) → in_use slots ≡ 0 → get_or slots i 0 ≡ 0
unfolding in_use
none_in_use [] i is = refl
none_in_use (zero ∷ slots) zero is = refl
none_in_use (suc s ∷ slots) i is = absurd (omega (arith, is))
none_in_use (zero ∷ slots) (suc i) is = none_in_use slots i is

-- where an address has no row, one is left
pub one_left : (words slots : List ℕ) (capacity used stride a : ℕ) → AreMemorySlots words capacity slots used stride
    → a < 4096 → get_or slots a 0 ≡ 0 → used ≤ 4096
one_left words slots capacity used stride a are below none =
    omega (
      arith,
      are.counted,
      are.count,
      in_use-set slots a 0 (omega (arith, are.count)) none,
      in_use_le (set slots a 1),
      length-set slots a 1,
    )

-- a row of zeros was added
pub record IsRowAdded (used stride : ℕ) (old new : List ℕ) : Type 0 where
  pub long : length new ≡ (used + 1) * stride
  pub before : (k : ℕ) → k < used * stride → get_or new k 0 ≡ get_or old k 0
  pub zeros : (k : ℕ) → used * stride ≤ k → k < (used + 1) * stride → get_or new k 0 ≡ 0

-- the address reads zeros, as before, and the others what they read
pub spread-added : (words slots : List ℕ) (capacity used stride a : ℕ) (new : List ℕ)
    → AreMemorySlots words capacity slots used stride → a < 4096 → get_or slots a 0 ≡ 0 → IsRowAdded used stride words new
    → spread new (set slots a used) stride ≡ spread words slots stride
spread-added words slots capacity used stride a new are below none added =
    same_spread words slots new (set slots a used) stride (λ i c i_below here. word i c i_below here) where
      in_slots : a < length slots
      in_slots = omega (arith, are.count)

      others : (i c : ℕ) → i < 4096 → c < stride → i ≢ a
          → get_or new (get_or (set slots a used) i 0 * stride + c) 0 ≡ get_or words (get_or slots i 0 * stride + c) 0
      others i c i_below here other =
          let slot : get_or (set slots a used) i 0 ≡ get_or slots i 0 = get_or-set_other slots a i used 0 other in
          let far : get_or slots i 0 * stride + stride ≤ used * stride =
          next_row (get_or slots i 0) used stride (are.within i i_below) in
          ap (λ (s : ℕ). get_or new (s * stride + c) 0) slot
          ∙ added.before (get_or slots i 0 * stride + c) (omega arith)

      mine : (c : ℕ) → c < stride
          → get_or new (get_or (set slots a used) a 0 * stride + c) 0 ≡ get_or words (get_or slots a 0 * stride + c) 0
      mine c here =
          let slot : get_or (set slots a used) a 0 ≡ used = get_or-set_same slots a used 0 in_slots in
          let more : (used + 1) * stride ≡ used * stride + stride = omega arith in
          let nothing : 0 * stride + c ≡ c = omega arith in
          let first : get_or words (get_or slots a 0 * stride + c) 0 ≡ get_or words c 0 =
          ap (λ (s : ℕ). get_or words (s * stride + c) 0) none ∙ ap (λ (k : ℕ). get_or words k 0) nothing in
          ap (λ (s : ℕ). get_or new (s * stride + c) 0) slot
          ∙ added.zeros (used * stride + c) (omega arith) (omega (arith, more))
          ∙ sym (first ∙ are.zeros c here)

      word : (i c : ℕ) → i < 4096 → c < stride
          → get_or new (get_or (set slots a used) i 0 * stride + c) 0 ≡ get_or words (get_or slots i 0 * stride + c) 0
      word i c i_below here = ⊎_elim
          (λ (h : i < a). others i c i_below here (omega arith))
          (λ (h : a ≤ i). ⊎_elim
          (λ (m : a < i). others i c i_below here (omega arith))
          (λ (m : i ≤ a). let same : i ≡ a = omega arith in rw same (mine c here))
          (cases_lt a i))
          (cases_lt i a)

same_or_not : (i j : ℕ) → (i ≡ j) ⊎ (i ≢ j)
same_or_not i j = ⊎_elim
    (λ (l : i < j). inr (omega arith))
    (λ (l : j ≤ i). ⊎_elim (λ (m : j < i). inr (omega arith)) (λ (m : i ≤ j). inl (omega arith)) (cases_lt j i))
    (cases_lt i j)

pub slots_added : (words slots : List ℕ) (capacity used stride a : ℕ) (new : List ℕ) (capacity_new : ℕ)
    → AreMemorySlots words capacity slots used stride → a < 4096 → get_or slots a 0 ≡ 0 → IsRowAdded used stride words new
    → capacity ≤ capacity_new → AreMemorySlots new capacity_new (set slots a used) (used + 1) stride
slots_added words slots capacity used stride a new capacity_new are below none added more =
    let room : 4097 * stride ≤ capacity = are.room in
    record {
      count = length-set slots a used ∙ are.count;
      counted = counts used are.counted;
      filled = added.long;
      room = omega arith;
      few = are.few;
      within = λ i h. slot_within i h;
      zeros = λ c h. added.before c (omega (arith, first)) ∙ are.zeros c h;
      apart = λ i j h k other own e. apart i j h k other own e;
    } where
      in_slots : a < length slots
      in_slots = omega (arith, are.count)

      some : 1 ≤ used
      some = omega (arith, are.counted)

      first : 1 * stride ≤ used * stride
      first = mul-le 1 stride used stride some (omega arith)

      counts : (n : ℕ) → n ≡ suc (in_use slots) → n + 1 ≡ suc (in_use (set slots a n))
      counts n is = rw is (omega (arith, in_use-set slots a (in_use slots) in_slots none))

      there : get_or (set slots a used) a 0 ≡ used
      there = get_or-set_same slots a used 0 in_slots

      slot_within : (i : ℕ) → i < 4096 → get_or (set slots a used) i 0 < used + 1
      slot_within i h = ⊎_elim
          (λ (l : i < a). let other : i ≢ a = omega arith in
          omega (arith, get_or-set_other slots a i used 0 other, are.within i h))
          (λ (l : a ≤ i). ⊎_elim
          (λ (m : a < i). let other : i ≢ a = omega arith in
          omega (arith, get_or-set_other slots a i used 0 other, are.within i h))
          (λ (m : i ≤ a). let same : i ≡ a = omega arith in rw same (omega (arith, there)))
          (cases_lt a i))
          (cases_lt i a)

      apart : (i j : ℕ) → i < 4096 → j < 4096 → i ≢ j → 0 < get_or (set slots a used) i 0
          → get_or (set slots a used) i 0 ≢ get_or (set slots a used) j 0
      apart i j h k other own = ⊎_elim
          (λ (e : i ≡ a). let here : get_or (set slots a used) i 0 ≡ used =
          ap (λ (n : ℕ). get_or (set slots a used) n 0) e ∙ there in
          let beside : j ≢ a = λ (f : j ≡ a). other (e ∙ sym f) in
          omega (arith, here, get_or-set_other slots a j used 0 beside, are.within j k))
          (λ (n : i ≢ a). let here : get_or (set slots a used) i 0 ≡ get_or slots i 0 =
          get_or-set_other slots a i used 0 n in
          ⊎_elim
          (λ (f : j ≡ a). let at_j : get_or (set slots a used) j 0 ≡ used =
          ap (λ (m : ℕ). get_or (set slots a used) m 0) f ∙ there in
          omega (arith, here, at_j, are.within i h))
          (λ (m : j ≢ a). let at_j : get_or (set slots a used) j 0 ≡ get_or slots j 0 =
          get_or-set_other slots a j used 0 m in
          let before : get_or slots i 0 ≢ get_or slots j 0 =
          are.apart i j h k other (omega (arith, here, own)) in
          λ e. before (sym here ∙ e ∙ at_j))
          (same_or_not j a))
          (same_or_not i a)

-- ---- blank rows

in_use-zeros : (n : ℕ) → let none : ℕ = 0 in in_use (replicate n none) ≡ none
unfolding in_use
in_use-zeros zero = refl
in_use-zeros (suc n) = in_use-zeros n

-- so many zeros, and nothing else
pub record AreZeros (count : ℕ) (words : List ℕ) : Type 0 where
  pub long : length words ≡ count
  pub each : (k : ℕ) → k < count → get_or words k 0 ≡ 0

get_or-blank : (count : ℕ) (words : List ℕ) (k : ℕ) → AreZeros count words → get_or words k 0 ≡ 0
get_or-blank count words k are = ⊎_elim
    (λ (h : k < count). are.each k h)
    (λ (h : count ≤ k). get_or_past words k 0 (omega (arith, h, are.long)))
    (cases_lt k count)

pub blank_slots : (words slots : List ℕ) (capacity stride : ℕ) → AreZeros stride words → slots ≡ replicate 4096 0
    → 4097 * stride ≤ capacity → stride < 2 ^ 20 → AreMemorySlots words capacity slots 1 stride
blank_slots words slots capacity stride are is room few = record {
  count = ap length is ∙ length-replicate {A = ℕ} 4096 0;
  counted = sym (ap suc (ap in_use is ∙ in_use-zeros 4096));
  filled = omega (arith, are.long);
  room = room;
  few = few;
  within = λ i h. omega (arith, nothing i);
  zeros = are.each;
  apart = λ i j h k other own e. absurd (omega (arith, own, nothing i));
} where
  nothing : (i : ℕ) → get_or slots i 0 ≡ 0
  nothing i = ap (λ ss. get_or ss i 0) is ∙ get_or-zeros 4096 i

pub spread-blank : (words slots : List ℕ) (stride : ℕ) → AreZeros stride words
    → spread words slots stride ≡ replicate (4096 * stride) 0
unfolding spread
spread-blank words slots stride are =
    ext_get_or 0 (spread words slots stride) (replicate (4096 * stride) 0)
    (length-spread words slots stride ∙ sym (length-replicate {A = ℕ} (4096 * stride) 0))
    (λ k h. let below : k < 4096 * stride = omega (arith, h, length-spread words slots stride) in
    get_or-each_below (4096 * stride) (λ n. get_or words (get_or slots (n / stride) 0 * stride + n % stride) 0) k 0
    below
    ∙ get_or-blank stride words (get_or slots (k / stride) 0 * stride + k % stride) are
    ∙ sym (get_or-zeros (4096 * stride) k))

-- ---- what is read and written

-- so many words of the row of an address
pub word_spread : (words slots : List ℕ) (stride i c place word : ℕ) → i < 4096 → c < stride
    → place ≡ get_or slots i 0 * stride → word ≡ get_or words (place + c) 0
    → word ≡ get_or (spread words slots stride) (i * stride + c) 0
word_spread words slots stride i c place word below here start is =
    is ∙ ap (λ (n : ℕ). get_or words (n + c) 0) start ∙ sym (get_or-spread words slots stride i c below here)

-- the row of an address lies within the words
pub row_inside : (words slots : List ℕ) (capacity used stride i : ℕ) → AreMemorySlots words capacity slots used stride
    → i < 4096 → get_or slots i 0 * stride + stride ≤ length words
row_inside words slots capacity used stride i are below =
    omega (arith, are.filled, next_row (get_or slots i 0) used stride (are.within i below))

-- all rows after a word of one's own row was set
pub spread-set : (words slots : List ℕ) (capacity used stride i c word : ℕ)
    → AreMemorySlots words capacity slots used stride → i < 4096 → 0 < get_or slots i 0 → c < stride
    → spread (set words (get_or slots i 0 * stride + c) word) slots stride
    ≡ set (spread words slots stride) (i * stride + c) word
spread-set words slots capacity used stride i c word are below own here =
    let place : ℕ = get_or slots i 0 * stride + c in
    let new : List ℕ = set words place word in
    ext_get_or 0 (spread new slots stride) (set (spread words slots stride) (i * stride + c) word)
    (length-spread new slots stride
    ∙ sym (length-set (spread words slots stride) (i * stride + c) word ∙ length-spread words slots stride))
    (λ k h. ⊎_elim
    (λ (e : k ≡ i * stride + c). rw e mine)
    (λ (n : k ≢ i * stride + c).
    others k (beside k (i * stride) n)
    ∙ sym (get_or-set_other (spread words slots stride) (i * stride + c) k word 0 n))
    (same_or_not k (i * stride + c))) where
      changed : IsChangedAt (get_or slots i 0 * stride) c (c + 1) words
          (set words (get_or slots i 0 * stride + c) word)
      changed = record {
        below = λ n h. let other : n ≢ get_or slots i 0 * stride + c = omega arith in
            get_or-set_other words (get_or slots i 0 * stride + c) n word 0 other;
        above = λ n h. let other : n ≢ get_or slots i 0 * stride + c = omega arith in
            get_or-set_other words (get_or slots i 0 * stride + c) n word 0 other;
      }

      others : (k : ℕ) → (k < i * stride + c) ⊎ (i * stride + (c + 1) ≤ k)
          → get_or (spread (set words (get_or slots i 0 * stride + c) word) slots stride) k 0
          ≡ get_or (spread words slots stride) k 0
      others = spread_changed words slots capacity used stride i c (c + 1)
          (set words (get_or slots i 0 * stride + c) word) are (omega arith) below own changed

      beside : (k start : ℕ) → k ≢ start + c → (k < start + c) ⊎ (start + (c + 1) ≤ k)
      beside k start n = ⊎_elim (λ (l : k < start + c). inl l) (λ (l : start + c ≤ k). inr (omega arith))
          (cases_lt k (start + c))

      mine : get_or (spread (set words (get_or slots i 0 * stride + c) word) slots stride) (i * stride + c) 0
          ≡ get_or (set (spread words slots stride) (i * stride + c) word) (i * stride + c) 0
      mine =
          let inside : get_or slots i 0 * stride + stride ≤ length words =
          row_inside words slots capacity used stride i are below in
          let within : i * stride + stride ≤ 4096 * stride = row_within i 4096 stride below in
          get_or-spread (set words (get_or slots i 0 * stride + c) word) slots stride i c below here
          ∙ get_or-set_same words (get_or slots i 0 * stride + c) word 0 (omega (arith, inside))
          ∙ sym (get_or-set_same (spread words slots stride) (i * stride + c) word 0
          (omega (arith, within, length-spread words slots stride)))

-- a zero put where there is no row changes nothing
pub spread-zero : (words slots : List ℕ) (capacity used stride i c : ℕ)
    → AreMemorySlots words capacity slots used stride → i < 4096 → get_or slots i 0 ≡ 0 → c < stride
    → spread words slots stride ≡ set (spread words slots stride) (i * stride + c) 0
spread-zero words slots capacity used stride i c are below none here =
    let nothing : 0 * stride + c ≡ c = omega arith in
    let is : get_or (spread words slots stride) (i * stride + c) 0 ≡ 0 =
    get_or-spread words slots stride i c below here
    ∙ ap (λ (s : ℕ). get_or words (s * stride + c) 0) none ∙ ap (λ (k : ℕ). get_or words k 0) nothing
    ∙ are.zeros c here in
    sym (ap (set (spread words slots stride) (i * stride + c)) (sym is)
    ∙ set-get_or (spread words slots stride) (i * stride + c) 0)

-- the stride is told by how many words there are
pub same_stride : (words slots : List ℕ) (s t : ℕ) → length (spread words slots s) ≡ 4096 * t → s ≡ t
same_stride words slots s t is = omega (arith, is, length-spread words slots s)

-- a word of all rows, where its row begins among those that are kept
pub get_or-row : (words slots : List ℕ) (s t i c place : ℕ) → i < 4096 → c < s → place ≡ get_or slots i 0 * s → s ≡ t
    → get_or (spread words slots s) (i * t + c) 0 ≡ get_or words (place + c) 0
get_or-row words slots s t i c place below here start same =
    sym (word_spread words slots s i c place (get_or words (place + c) 0) below here start refl
    ∙ ap (λ (n : ℕ). get_or (spread words slots s) (i * n + c) 0) same)

-- an address with no row of its own reads 0
pub zero_read : (words slots : List ℕ) (capacity used s t i c : ℕ) → AreMemorySlots words capacity slots used s → i < 4096
    → get_or slots i 0 ≡ 0 → c < s → s ≡ t → get_or (spread words slots s) (i * t + c) 0 ≡ 0
zero_read words slots capacity used s t i c are below none here same =
    let nothing : 0 * s + c ≡ c = omega arith in
    ap (λ (n : ℕ). get_or (spread words slots s) (i * n + c) 0) (sym same)
    ∙ get_or-spread words slots s i c below here
    ∙ ap (λ (n : ℕ). get_or words (n * s + c) 0) none ∙ ap (λ (k : ℕ). get_or words k 0) nothing
    ∙ are.zeros c here

-- so many slots more are 0, behind those that are
pub more_zeros : (slots : List ℕ) (from at more : ℕ) → ((i : ℕ) → from ≤ i → i < at → get_or slots i 0 ≡ 0)
    → ((i : ℕ) → i < more → get_or slots (at + i) 0 ≡ 0) → (i : ℕ) → from ≤ i → i < at + more → get_or slots i 0 ≡ 0
more_zeros slots from at more before behind i begun below = ⊎_elim
    (λ (l : i < at). before i begun l)
    (λ (l : at ≤ i). let place : i ≡ at + (i - at) = omega arith in
    ap (λ (k : ℕ). get_or slots k 0) place ∙ behind (i - at) (omega arith))
    (cases_lt i at)

-- rows without slots of their own read 0
pub blank_rows : (words slots rows : List ℕ) (capacity used s t from end : ℕ) → spread words slots s ≡ rows
    → AreMemorySlots words capacity slots used s → length rows ≡ 4096 * t → end ≤ 4096
    → ((i : ℕ) → from ≤ i → i < end → get_or slots i 0 ≡ 0)
    → (i c : ℕ) → from ≤ i → i < end → c < t → get_or rows (i * t + c) 0 ≡ 0
blank_rows words slots rows capacity used s t from end seen are long most none i c begun below here =
    let same : s ≡ t = same_stride words slots s t (ap length seen ∙ long) in
    ap (λ (xs : List ℕ). get_or xs (i * t + c) 0) (sym seen)
    ∙ zero_read words slots capacity used s t i c are (omega arith) (none i begun below) (omega (arith, same)) same
