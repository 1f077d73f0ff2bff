-- At which chips a ticket stands whose message has arrived: in slots, in a list of numbers, and of tickets.
use Rattle.std.proofs.Common.{◌≡◌, ◌≢◌, ℕ, ◌<◌, ◌≤◌, ◌==◌, ◌/◌, ◌%◌, not, true, false, List, [], ◌∷◌, length, map, refl}
use Rattle.std.proofs.Common.{Bool, ◌||◌, bit_or, zero, suc, ◌-◌, slice_index, slice_index_or, sym, ◌∙◌, ⊎_elim, arith}
use Rattle.std.specs.List.{All, list_any}
use Rattle.std.proofs.lemmas.Bool.{cases_lt, ne_eqb, lt-ltb, le-ltb}
use Rattle.std.proofs.lemmas.List.Folds.{list_any_at, list_any_none}
use Rattle.std.proofs.lemmas.List.Elements.{All-from_get_or, All-tail}
use Rattle.cm_bits.specs.Bit.{bit}
use Rattle.cm_model.proofs.Bits.{bit-bit_or}
use Rattle.cm_slots.specs.declared.tile.Tile.{Tile}
use Rattle.cm_slots.specs.Slots.{is_taken, is_arrival, AreSlots}
use Rattle.cm_slots.specs.Tickets.{ticket_of, has_come}
use Rattle.cm_slots.specs.Tiles.{slots_of, IsTile}
use Rattle.cm_slots.specs.Runs.{no_tile, tile_at, numbers_at, tickets_of, AreWithin}
use Rattle.cm_slots.proofs.Standing.{ends_at}

by_cases : {P : Type 0} (a b : Bool) → (a || b) ≡ true → (a ≡ true → P) → (b ≡ true → P) → P
by_cases true b is first second = first refl
by_cases false b is first second = second is

none_of_two : (a b : Bool) → (a || b) ≡ false → (a ≡ false) × (b ≡ false)
none_of_two true b is = absurd (grind (arith, is))
none_of_two false b is = (refl, is)

pub high : (slot : ℕ) → 65536 ≤ slot → is_arrival slot ≡ false
high slot l = grind (arith, le-ltb slot 65536 l)

pub none_arrived : (slots : ℕ → ℕ) (xs : List ℕ) → AreSlots slots xs
    → ((j : ℕ) → j < length xs → is_arrival (slots j) ≡ false) → list_any is_arrival xs ≡ false
none_arrived slots xs are none =
    list_any_none is_arrival xs (All-from_get_or (λ x. is_arrival x ≡ false) xs 0 (λ j l. rw (← are.each j) (none j l)))

pub one_arrived : (slots : ℕ → ℕ) (xs : List ℕ) → AreSlots slots xs → (j : ℕ) → is_arrival (slots j) ≡ true
    → list_any is_arrival xs ≡ true
one_arrived slots xs are j here = ⊎_elim
    (λ (there : j < length xs). list_any_at is_arrival xs j 0 there (rw (← are.each j) here))
    (λ (past : length xs ≤ j). absurd (grind (arith, here, (ends_at j slots xs are).1 past)))
    (cases_lt j (length xs))

-- a bit of one number or the other
pub either_bit : {P : Type 0} (x y i : ℕ) → bit (bit_or x y) i ≡ true → (bit x i ≡ true → P) → (bit y i ≡ true → P) → P
either_bit x y i is in_x in_y = by_cases (bit x i) (bit y i) (sym (bit-bit_or x y i) ∙ is) in_x in_y

pub neither_bit : (x y i : ℕ) → bit (bit_or x y) i ≡ false → (bit x i ≡ false) × (bit y i ≡ false)
neither_bit x y i is = none_of_two (bit x i) (bit y i) (sym (bit-bit_or x y i) ∙ is)

-- what holds if a bit is 1, and only then, is what the bit tells
pub as_told : (b test : Bool) → (b ≡ true → test ≡ true) → (b ≡ false → test ≡ false) → b ≡ test
as_told true test some none = sym (some refl)
as_told false test some none = sym (none refl)

-- a slot behind the first stands in the rest of the rows
pub slot_behind_first : (tile : Tile) (i k : ℕ) → 0 < k
    → slots_of tile i k ≡ slice_index (slice_index_or tile.rest (k - 1) []) i
slot_behind_first tile i zero some = absurd (omega arith)
slot_behind_first tile i (suc k) some = let e : suc k - 1 ≡ k = omega arith in rw e refl

pub same_test : (slot : ℕ) → is_taken slot ≡ true → has_come (ticket_of slot) ≡ is_arrival slot
same_test slot taken = ⊎_elim
    (λ (low : slot < 65536).
    let some : slot ≢ 0 = grind arith in
    let none : slot / 65536 ≡ 0 = omega arith in
    rw (none, ne_eqb slot 0 some, lt-ltb slot 65536 low) refl)
    (λ (l : 65536 ≤ slot).
    let some : slot / 65536 ≢ 0 = omega arith in
    rw (ne_eqb (slot / 65536) 0 some, high slot l) refl)
    (cases_lt slot 65536)

same_tests : (xs : List ℕ) → All (λ x. is_taken x ≡ true) xs
    → list_any has_come (map ticket_of xs) ≡ list_any is_arrival xs
same_tests [] all = refl
same_tests (x ∷ xs) all =
    rw (same_tests xs (All-tail (λ y. is_taken y ≡ true) x xs all), same_test x (all 0 0 (omega arith))) refl

module _ (tiles : List Tile) (c : ℕ) (inside : c / 64 < length tiles) (whole : All IsTile tiles) where
  are : AreSlots (slots_of (tile_at tiles (c / 64)) (c % 64)) (numbers_at tiles c)
  are = (whole (c / 64) no_tile inside).queues (c % 64) (omega arith)

  pub tests_at : list_any has_come (tickets_of tiles c) ≡ list_any is_arrival (numbers_at tiles c)
  tests_at = same_tests (numbers_at tiles c)
      (All-from_get_or (λ x. is_taken x ≡ true) (numbers_at tiles c) 0 are.taken)

  -- in a tile none of whose slots has one, none stands at the chip
  pub none_at : (room : ℕ) → AreWithin room tiles
      → ((i j : ℕ) → i < 64 → j < room → is_arrival (slots_of (tile_at tiles (c / 64)) i j) ≡ false)
      → list_any has_come (tickets_of tiles c) ≡ false
  none_at room within none = tests_at ∙ none_arrived _ (numbers_at tiles c) are
      (λ j l. none (c % 64) j (omega arith) (omega (arith, l, within (c / 64) (c % 64) inside (omega arith))))
