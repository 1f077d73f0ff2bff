-- Rows by address of which only those in use are kept: ours.
use Rattle.std.specs.Prelude.{◌≡◌, ◌≢◌, ℕ, ◌+◌, ◌*◌, ◌/◌, ◌%◌, ◌<◌, ◌≤◌, ◌^◌, List, [], ◌∷◌, zero, suc, length, slice_index}
use Rattle.cm_model.specs.Each.{tabulate}

-- all rows one after another: that of an address is the one in its slot, in each so many words
unfoldable pub spread : List ℕ → List ℕ → ℕ → List ℕ
spread words slots stride = tabulate 0 (4096 * stride)
    (λ k. slice_index words (slice_index slots (k / stride) * stride + k % stride))

-- how many slots are other than 0
unfoldable pub in_use : List ℕ → ℕ
in_use [] = 0
in_use (zero ∷ slots) = in_use slots
in_use (suc _ ∷ slots) = suc (in_use slots)

-- slot 0 is a row of zeros; addresses have other slots of their own, or that one
pub record AreMemorySlots (words : List ℕ) (capacity : ℕ) (slots : List ℕ) (used stride : ℕ) : Type 0 where
  pub count : length slots ≡ 4096
  pub counted : used ≡ suc (in_use slots)
  pub filled : length words ≡ used * stride
  pub room : 4097 * stride ≤ capacity
  pub few : stride < 2 ^ 20
  pub within : (i : ℕ) → i < 4096 → slice_index slots i < used
  pub zeros : (c : ℕ) → c < stride → slice_index words c ≡ 0
  pub apart : (i j : ℕ) → i < 4096 → j < 4096 → i ≢ j → 0 < slice_index slots i
      → slice_index slots i ≢ slice_index slots j
