-- What an instruction, a store or a copy leaves of all rows, where it wrote into the row in the slot of an address.
use Rattle.std.proofs.Common.{◌≡◌, ◌⊎◌, inl, inr, ℕ, ◌+◌, ◌*◌, ◌<◌, ◌≤◌, Bool, cond, List, length, get_or}
use Rattle.std.proofs.Common.{sym, ap, ◌∙◌, subst, arith}
use Rattle.cm_bits.specs.Bit.{bit}
use Rattle.cm_model.specs.declared.act.Nano.{Nano}
use Rattle.cm_rows.specs.declared.places.Places.{Places}
use Rattle.cm_rows.specs.Rows.{stores, plane_output, IsComputed}
use Rattle.cm_element.specs.Laid.{IsRowPut, IsRowLaid}
use Rattle.cm_element.specs.Sparse.{spread, AreMemorySlots}
use Rattle.cm_element.specs.Steps.{ArePlaces, IsStored}
use Rattle.cm_element.proofs.Spreading.{IsChangedAt, get_or-spread, spread_changed}

-- a word of the row of an address, as it is kept and as all rows have it
word_of : (words slots : List ℕ) (stride address k at here : ℕ) → address < 4096 → k < stride
    → at ≡ address * stride → here ≡ get_or slots address 0 * stride
    → get_or (spread words slots stride) (at + k) 0 ≡ get_or words (here + k) 0
word_of words slots stride address k at here below inside at_is here_is =
    ap (λ (n : ℕ). get_or (spread words slots stride) (n + k) 0) at_is
    ∙ get_or-spread words slots stride address k below inside
    ∙ sym (ap (λ (n : ℕ). get_or words (n + k) 0) here_is)

-- an instruction over the rows in the slots of its addresses
pub record IsInSlots (nano : Nano) (words slots : List ℕ) (capacity used stride count : ℕ) (at here : Places) : Type 0
  where
    pub are : AreMemorySlots words capacity slots used stride
    pub places : ArePlaces nano stride at
    pub few : count ≤ stride
    pub own : 0 < get_or slots nano.a 0
    pub a : here.a ≡ get_or slots nano.a 0 * stride
    pub b : here.b ≡ get_or slots nano.b 0 * stride
    pub read : here.read ≡ at.read
    pub cond : here.cond ≡ at.cond

pub memory_changed : (nano : Nano) (words slots new flags : List ℕ) (capacity used stride count : ℕ) (at here : Places)
    (table : ℕ) (chained always sense : Bool)
    → IsInSlots nano words slots capacity used stride count at here
    → IsComputed table chained always sense here here.a 0 count words flags words new
    → IsChangedAt (get_or slots nano.a 0 * stride) 0 count words new
memory_changed nano words slots new flags capacity used stride count at here table chained always sense is computed =
    record {
      below = λ i h. computed.below i (omega (arith, h, is.a));
      above = λ i h. computed.above i (omega (arith, h, is.a));
    }

-- memory after it
pub memory_computed : (nano : Nano) (words slots new flags : List ℕ) (capacity used stride count : ℕ) (at here : Places)
    (table : ℕ) (chained always sense : Bool)
    → IsInSlots nano words slots capacity used stride count at here
    → IsComputed table chained always sense here here.a 0 count words flags words new
    → IsComputed table chained always sense at at.a 0 count (spread words slots stride) flags (spread words slots stride)
    (spread new slots stride)
memory_computed nano words slots new flags capacity used stride count at here table chained always sense is computed =
    record {
      each = λ k from h p below. word k h p (computed.each k from h p below);
      below = λ i h. others i (inl (omega (arith, h, is.places.a)));
      above = λ i h. others i (inr (omega (arith, h, is.places.a)));
    } where
      others : (k : ℕ) → (k < nano.a * stride + 0) ⊎ (nano.a * stride + count ≤ k)
          → get_or (spread new slots stride) k 0 ≡ get_or (spread words slots stride) k 0
      others = spread_changed words slots capacity used stride nano.a 0 count new is.are is.few is.places.a_below
          is.own (memory_changed nano words slots new flags capacity used stride count at here table chained always sense
          is computed)

      word : (k : ℕ) → k < count → (p : ℕ)
          → bit (get_or new (here.a + k) 0) p
          ≡ cond (stores always sense (bit (get_or flags (here.cond + k) 0) p))
          (plane_output table chained (get_or words (here.a + k) 0) (get_or words (here.b + k) 0)
          (get_or flags (here.read + k) 0) p) (bit (get_or words (here.a + k) 0) p)
          → bit (get_or (spread new slots stride) (at.a + k) 0) p
          ≡ cond (stores always sense (bit (get_or flags (at.cond + k) 0) p))
          (plane_output table chained (get_or (spread words slots stride) (at.a + k) 0)
          (get_or (spread words slots stride) (at.b + k) 0)
          (get_or flags (at.read + k) 0) p) (bit (get_or (spread words slots stride) (at.a + k) 0) p)
      word k h p e =
          let inside : k < stride = omega (arith, is.few) in
          let a : get_or words (here.a + k) 0 ≡ get_or (spread words slots stride) (at.a + k) 0 =
          sym (word_of words slots stride nano.a k at.a here.a is.places.a_below inside is.places.a is.a) in
          let b : get_or words (here.b + k) 0 ≡ get_or (spread words slots stride) (at.b + k) 0 =
          sym (word_of words slots stride nano.b k at.b here.b is.places.b_below inside is.places.b is.b) in
          ap (λ (w : ℕ). bit w p)
          (word_of new slots stride nano.a k at.a here.a is.places.a_below inside is.places.a is.a)
          ∙ e
          ∙ (λ j. cond (stores always sense (bit (get_or flags (is.cond j + k) 0) p))
          (plane_output table chained (a j) (b j) (get_or flags (is.read j + k) 0) p) (bit (a j) p))

-- and the flags
pub flags_computed : (nano : Nano) (words slots flags flags_new : List ℕ) (capacity used stride count : ℕ)
    (at here : Places) (table : ℕ) (chained always sense : Bool)
    → IsInSlots nano words slots capacity used stride count at here → here.write ≡ at.write
    → IsComputed table chained always sense here here.write 0 count words flags flags flags_new
    → IsComputed table chained always sense at at.write 0 count (spread words slots stride) flags flags flags_new
flags_computed nano words slots flags flags_new capacity used stride count at here table chained always sense is write
    computed = record {
      each = λ k from h p below. word k h p (computed.each k from h p below);
      below = λ i h. computed.below i (omega (arith, h, write));
      above = λ i h. computed.above i (omega (arith, h, write));
    } where
      word : (k : ℕ) → k < count → (p : ℕ)
          → bit (get_or flags_new (here.write + k) 0) p
          ≡ cond (stores always sense (bit (get_or flags (here.cond + k) 0) p))
          (plane_output table chained (get_or words (here.a + k) 0) (get_or words (here.b + k) 0)
          (get_or flags (here.read + k) 0) p) (bit (get_or flags (here.write + k) 0) p)
          → bit (get_or flags_new (at.write + k) 0) p
          ≡ cond (stores always sense (bit (get_or flags (at.cond + k) 0) p))
          (plane_output table chained (get_or (spread words slots stride) (at.a + k) 0)
          (get_or (spread words slots stride) (at.b + k) 0)
          (get_or flags (at.read + k) 0) p) (bit (get_or flags (at.write + k) 0) p)
      word k h p e =
          let inside : k < stride = omega (arith, is.few) in
          let a : get_or words (here.a + k) 0 ≡ get_or (spread words slots stride) (at.a + k) 0 =
          sym (word_of words slots stride nano.a k at.a here.a is.places.a_below inside is.places.a is.a) in
          let b : get_or words (here.b + k) 0 ≡ get_or (spread words slots stride) (at.b + k) 0 =
          sym (word_of words slots stride nano.b k at.b here.b is.places.b_below inside is.places.b is.b) in
          ap (λ (n : ℕ). bit (get_or flags_new (n + k) 0) p) (sym write)
          ∙ e
          ∙ (λ j. cond (stores always sense (bit (get_or flags (is.cond j + k) 0) p))
          (plane_output table chained (a j) (b j) (get_or flags (is.read j + k) 0) p)
          (bit (get_or flags (write j + k) 0) p))

-- words of one row alone were stored
pub stored_changed : (start : ℕ) (holds planes words new : List ℕ) → IsStored start holds planes words new
    → IsChangedAt start 0 (length planes) words new
stored_changed start holds planes words new stored = record {
  below = λ i h. stored.below i (omega arith);
  above = stored.above;
}

-- planes that were stored in the row of an address
pub row_stored : (words slots new holds planes : List ℕ) (capacity used stride address : ℕ)
    → AreMemorySlots words capacity slots used stride → address < 4096 → 0 < get_or slots address 0
    → length planes ≤ stride → IsStored (get_or slots address 0 * stride) holds planes words new
    → IsStored (address * stride) holds planes (spread words slots stride) (spread new slots stride)
row_stored words slots new holds planes capacity used stride address are below own few stored = record {
  each = λ k h p. let inside : k < stride = omega (arith, few) in
      ap (λ (w : ℕ). bit w p) (get_or-spread new slots stride address k below inside)
      ∙ stored.each k h p
      ∙ ap (λ (w : ℕ). cond (bit (get_or holds k 0) p) (bit (get_or planes k 0) p) (bit w p))
      (sym (get_or-spread words slots stride address k below inside));
  below = λ i h. others i (inl (omega arith));
  above = λ i h. others i (inr h);
} where
  others : (k : ℕ) → (k < address * stride + 0) ⊎ (address * stride + length planes ≤ k)
      → get_or (spread new slots stride) k 0 ≡ get_or (spread words slots stride) k 0
  others = spread_changed words slots capacity used stride address 0 (length planes) new are few below own
      (stored_changed (get_or slots address 0 * stride) holds planes words new stored)

-- words that were put into the row of an address
row_put : (words slots new : List ℕ) (word : ℕ → ℕ) (capacity used stride address first count place : ℕ)
    → AreMemorySlots words capacity slots used stride → address < 4096 → 0 < get_or slots address 0
    → first + count ≤ stride → place ≡ get_or slots address 0 * stride + first
    → ((c : ℕ) → c < count → get_or new (place + c) 0 ≡ word c)
    → IsChangedAt (get_or slots address 0 * stride) first (first + count) words new
    → IsRowPut (address * stride + first) count word (spread words slots stride) (spread new slots stride)
row_put words slots new word capacity used stride address first count place are below own here start laid changed =
    record {
      laid = λ k h.
          let there : address * stride + first + k ≡ address * stride + (first + k) = omega arith in
          let slot : get_or slots address 0 * stride + (first + k) ≡ place + k = omega (arith, start) in
          ap (λ (n : ℕ). get_or (spread new slots stride) n 0) there
          ∙ get_or-spread new slots stride address (first + k) below (omega arith)
          ∙ ap (λ (n : ℕ). get_or new n 0) slot
          ∙ laid k h;
      below = λ i h. others i (inl h);
      above = λ i h. others i (inr (omega arith));
    } where
      others : (k : ℕ) → (k < address * stride + first) ⊎ (address * stride + (first + count) ≤ k)
          → get_or (spread new slots stride) k 0 ≡ get_or (spread words slots stride) k 0
      others = spread_changed words slots capacity used stride address first (first + count) new are here below own
          changed

-- those of a list
pub row_filled : (words slots new part : List ℕ) (capacity used stride address first count place : ℕ)
    → AreMemorySlots words capacity slots used stride → address < 4096 → 0 < get_or slots address 0
    → first + count ≤ stride → place ≡ get_or slots address 0 * stride + first
    → ((c : ℕ) → c < count → get_or new (place + c) 0 ≡ get_or part c 0)
    → IsChangedAt (get_or slots address 0 * stride) first (first + count) words new
    → IsRowLaid (address * stride + first) 0 count part (spread words slots stride) (spread new slots stride)
row_filled words slots new part capacity used stride address first count place are below own here start laid =
    row_put words slots new (λ c. get_or part (0 + c) 0) capacity used stride address first count place are below own
    here start
    (λ k h. let from : k ≡ 0 + k = omega arith in laid k h ∙ ap (λ (n : ℕ). get_or part n 0) from)

-- all rows before and after, as their list is told
pub retold : (P : List ℕ → List ℕ → Type 0) (words slots items new old : List ℕ) (stride : ℕ)
    → spread words slots stride ≡ old → items ≡ new → P (spread words slots stride) (spread new slots stride)
    → P old (spread items slots stride)
retold P words slots items new old stride old_is new_is is =
    subst (λ m. P m (spread items slots stride)) old_is
    (subst (λ ms. P (spread words slots stride) (spread ms slots stride)) (sym new_is) is)
