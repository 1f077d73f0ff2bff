-- A chip's tickets in slots, the first that came in slot 0: who is carried on and who stays. Ours.
use Rattle.std.specs.Prelude.{ℕ, zero, suc, ◌+◌, ◌^◌, ◌<◌, ◌≤◌, ◌≡◌, ◌≢◌, ◌==◌, ◌%◌, true, false, Bool, not, ◌&&◌, nat_lt}
use Rattle.std.specs.Prelude.{List, [], ◌∷◌, length, bit_xor, Option, Some, None}
use Rattle.std.specs.Prelude.{slice_index, slice_index_or, if◌then◌else◌}
use Rattle.std.specs.List.{All}
use Rattle.cm_bits.specs.Bit.{bit}
use Rattle.cm_model.specs.Each.{tabulate}

-- ---- one slot

-- a ticket stands there: then the lower sixteen bits are not all 0
abbrev pub is_taken : ℕ → Bool
is_taken slot = if slot % 65536 == 0 then false else true

-- a ticket stands there whose message has arrived
abbrev pub is_arrival : ℕ → Bool
is_arrival slot = not (slot == 0) && nat_lt slot 65536

-- a ticket stands there whose message has to cross dimension d
abbrev pub crosses : ℕ → ℕ → Bool
crosses d slot = bit slot (16 + d)

-- what arrives across dimension d, 0 where nothing does
abbrev pub slot_across : ℕ → ℕ → ℕ
slot_across d slot = if slot == 0 then 0 else bit_xor slot (2 ^ (16 + d))

-- who comes with a slot, if anyone does
abbrev pub comers : ℕ → List ℕ
comers slot = if slot == 0 then [] else slot ∷ []

-- of who leaves a tile, each as it arrives across, who leaves the chip at place i; 0 where nobody does
abbrev pub leaver_at : Option (List ℕ) → ℕ → ℕ
leaver_at None i = 0
leaver_at (Some row) i = slice_index row i

-- ---- the slots of a chip

-- slot j of the chip at place i of a tile, of its first row and the rest
abbrev pub slot_in : List ℕ → List (List ℕ) → ℕ → ℕ → ℕ
slot_in first rest i zero = slice_index first i
slot_in first rest i (suc j) = slice_index (slice_index_or rest j []) i

-- the same without the first row
abbrev pub slot_behind : List (List ℕ) → ℕ → ℕ → ℕ
slot_behind rest i j = slice_index (slice_index_or rest j []) i

-- the first number of which it is true, or the last where it is true of none before
unfoldable pub first_of : (ℕ → Bool) → ℕ → ℕ
first_of test zero = 0
first_of test (suc n) = if test (first_of test n) then first_of test n else suc n

-- who leaves of so many slots and one: the first who has to cross dimension d, else the last
abbrev pub leaver_in : ℕ → ℕ → (ℕ → ℕ) → ℕ
leaver_in d count slots = first_of (λ j. crosses d (slots j)) count

-- what stood in one slot is carried, and new slots hold what stood in the others
pub record IsCarried (place : ℕ) (old : ℕ → ℕ) (carried : ℕ) (new : ℕ → ℕ) : Type 0 where
  pub here : carried ≡ old place
  pub earlier : (j : ℕ) → j < place → new j ≡ old j
  pub later : (j : ℕ) → place ≤ j → new j ≡ old (suc j)

-- slots of which the first hold these numbers, each of a ticket, and the others 0
pub record AreSlots (slots : ℕ → ℕ) (numbers : List ℕ) : Type 0 where
  pub fits : length numbers ≤ 15
  pub each : (j : ℕ) → slots j ≡ slice_index numbers j
  pub taken : (j : ℕ) → j < length numbers → is_taken (slice_index numbers j) ≡ true

-- what stands in slots: all before the first that is 0
abbrev pub standing_in : (ℕ → ℕ) → List ℕ
standing_in slots = tabulate 0 (first_of (λ j. slots j == 0) 15) slots

-- a row and fourteen behind it, each of 64 lanes
pub record AreSlotRows (first : List ℕ) (rest : List (List ℕ)) : Type 0 where
  pub long : length first ≡ 64
  pub tall : length rest ≡ 14
  pub wide : All (λ row. length row ≡ 64) rest

-- all lanes of a row are 0
abbrev pub IsBlank : List ℕ → Type 0
IsBlank row = (i : ℕ) → i < 64 → slice_index row i ≡ 0

-- each lane of a row is 0, or a ticket stands there
abbrev pub AreTaken : List ℕ → Type 0
AreTaken row = (i : ℕ) → i < 64 → slice_index row i ≢ 0 → is_taken (slice_index row i) ≡ true
