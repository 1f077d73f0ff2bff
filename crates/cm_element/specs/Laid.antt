-- Chips of one run copied into another: ours.
use Rattle.std.specs.Prelude.{◌≡◌, ◌⊎◌, ℕ, ◌+◌, ◌*◌, ◌<◌, ◌≤◌, List, length, slice_index}
use Rattle.cm_model.specs.Array.{Chips, chip_at}
use Rattle.cm_element.specs.declared.run.lay.Band.{Band}

-- so many chips of another run, from the first on, lie from a place on; the others are as they were
pub record AreLaid (at first count : ℕ) (from old new : Chips) : Type 0 where
  pub chips : length new ≡ length old
  pub laid : (c : ℕ) → c < count → chip_at new (at + c) ≡ chip_at from (first + c)
  pub below : (c : ℕ) → c < at → chip_at new c ≡ chip_at old c
  pub above : (c : ℕ) → at + count ≤ c → chip_at new c ≡ chip_at old c

-- in each of so many rows these words stand from a place on; the others are as they were
pub record ArePutRows (here : Band) (rows count : ℕ) (word : ℕ → ℕ → ℕ) (old new : List ℕ) : Type 0 where
  pub laid : (i c : ℕ) → i < rows → c < count → slice_index new (i * here.stride + (here.first + c)) ≡ word i c
  pub others : (i k : ℕ) → i < rows → k < here.stride → (k < here.first) ⊎ (here.first + count ≤ k)
      → slice_index new (i * here.stride + k) ≡ slice_index old (i * here.stride + k)

-- those of so many chips in the rows of others
abbrev pub AreLaidRows : Band → Band → ℕ → ℕ → List ℕ → List ℕ → List ℕ → Type 0
AreLaidRows here there rows count from old new =
    ArePutRows here rows count (λ i c. slice_index from (i * there.stride + (there.first + c))) old new

-- those of so many chips whose words lie chip by chip, each a pitch after the one before
abbrev pub AreTurnedRows : Band → ℕ → ℕ → ℕ → List ℕ → List ℕ → List ℕ → Type 0
AreTurnedRows here rows pitch count from old new =
    ArePutRows here rows count (λ i c. slice_index from (c * pitch + i)) old new

-- so many words stand in a list from a place on; the others are as they were
pub record IsRowPut (at count : ℕ) (word : ℕ → ℕ) (old new : List ℕ) : Type 0 where
  pub laid : (c : ℕ) → c < count → slice_index new (at + c) ≡ word c
  pub below : (i : ℕ) → i < at → slice_index new i ≡ slice_index old i
  pub above : (i : ℕ) → at + count ≤ i → slice_index new i ≡ slice_index old i

-- so many words of a list, from a place on
abbrev pub IsRowLaid : ℕ → ℕ → ℕ → List ℕ → List ℕ → List ℕ → Type 0
IsRowLaid at source count from old new = IsRowPut at count (λ c. slice_index from (source + c)) old new

-- so many words of a list, each a pitch after the one before
abbrev pub IsRowTurned : ℕ → ℕ → ℕ → ℕ → List ℕ → List ℕ → List ℕ → Type 0
IsRowTurned at source pitch count from old new =
    IsRowPut at count (λ c. slice_index from (c * pitch + source)) old new
