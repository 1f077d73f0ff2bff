-- Chips of which some processors, or of whose number some, have their numbers already.
use Rattle.std.proofs.Common.{◌≡◌, ℕ, ◌+◌, ◌<◌, ◌^◌, List, [], length, set, refl, ap}
use Rattle.cm_model.specs.Processor.{Processor}
use Rattle.cm_model.specs.Chip.{processor_at, no_processor}
use Rattle.cm_model.specs.Whole.{IsChip}
use Rattle.cm_model.specs.Each.{tabulate}
use Rattle.cm_model.specs.Array.{Chips, chip_at}
use Rattle.cm_element.specs.Wide.{with_memory_field}
use Rattle.cm_array.specs.Parts.{MachineView}
use Rattle.lab_data.specs.declared.order.Order.{Order}
use Rattle.lab_data.specs.Data.{processor_with, number_for, chip_with_numbers, chips_with_numbers}
use Rattle.lab_data.proofs.Filling.{filled, each_filled-none, each_filled-all, get_or-each_filled, each_filled-more}

-- the machine with other chips
abbrev pub with_chips : MachineView → Chips → MachineView
with_chips kept chips = record kept { machine = record kept.machine { chips = chips } }

-- ---- a chip

-- the processors of a chip, of which so many have their numbers
abbrev pub chip_filled : ℕ → Order → ℕ → ℕ → List ℕ → ℕ → List Processor → ℕ → List Processor
chip_filled n order at len numbers c chip done =
    tabulate 0 16
    (filled (λ p. processor_with at len (number_for n order numbers c p) (processor_at chip p)) (processor_at chip) done)

pub chip_filled-none : (n : ℕ) (order : Order) (at len : ℕ) (numbers : List ℕ) (c : ℕ) (chip : List Processor)
    → IsChip chip → chip ≡ chip_filled n order at len numbers c chip 0
chip_filled-none n order at len numbers c chip whole =
    each_filled-none no_processor
    (λ p. processor_with at len (number_for n order numbers c p) (processor_at chip p)) (processor_at chip) 16 chip
    whole.count (λ k h. refl)

pub chip_filled-all : (n : ℕ) (order : Order) (at len : ℕ) (numbers : List ℕ) (c : ℕ) (chip : List Processor)
    → chip_filled n order at len numbers c chip 16 ≡ chip_with_numbers n order at len numbers c chip
unfolding chip_with_numbers
chip_filled-all n order at len numbers c chip =
    each_filled-all no_processor
    (λ p. processor_with at len (number_for n order numbers c p) (processor_at chip p)) (processor_at chip) 16

-- one more processor
pub chip_filled-more : (n : ℕ) (order : Order) (at len : ℕ) (numbers : List ℕ) (c : ℕ) (chip : List Processor)
    (p number : ℕ) → p < 16 → number ≡ number_for n order numbers c p
    → with_memory_field (chip_filled n order at len numbers c chip p) p at len number
    ≡ chip_filled n order at len numbers c chip (p + 1)
unfolding with_memory_field
chip_filled-more n order at len numbers c chip p number below is =
    each_filled-more no_processor
    (λ q. processor_with at len (number_for n order numbers c q) (processor_at chip q)) (processor_at chip) 16 p
    (processor_with at len number (processor_at (chip_filled n order at len numbers c chip p) p)) below
    (λ j. processor_with at len (is j) (get_or-each_filled no_processor
    (λ q. processor_with at len (number_for n order numbers c q) (processor_at chip q)) (processor_at chip) 16 p below j))

-- ---- all chips

-- the chips of which so many have their numbers
abbrev pub chips_filled : ℕ → Order → ℕ → ℕ → List ℕ → Chips → ℕ → Chips
chips_filled n order at len numbers chips done =
    tabulate 0 (2 ^ n)
    (filled (λ c. chip_with_numbers n order at len numbers c (chip_at chips c)) (chip_at chips) done)

pub chips_filled-none : (n : ℕ) (order : Order) (at len : ℕ) (numbers : List ℕ) (chips : Chips)
    → length chips ≡ 2 ^ n → chips ≡ chips_filled n order at len numbers chips 0
chips_filled-none n order at len numbers chips long =
    each_filled-none [] (λ c. chip_with_numbers n order at len numbers c (chip_at chips c)) (chip_at chips) (2 ^ n) chips
    long (λ k h. refl)

pub chips_filled-all : (n : ℕ) (order : Order) (at len : ℕ) (numbers : List ℕ) (chips : Chips)
    → chips_filled n order at len numbers chips (2 ^ n) ≡ chips_with_numbers n order at len numbers chips
unfolding chips_with_numbers
chips_filled-all n order at len numbers chips =
    each_filled-all [] (λ c. chip_with_numbers n order at len numbers c (chip_at chips c)) (chip_at chips) (2 ^ n)

-- one more chip
pub chips_filled-more : (n : ℕ) (order : Order) (at len : ℕ) (numbers : List ℕ) (chips : Chips) (c : ℕ) → c < 2 ^ n
    → set (chips_filled n order at len numbers chips c) c
    (chip_with_numbers n order at len numbers c (chip_at (chips_filled n order at len numbers chips c) c))
    ≡ chips_filled n order at len numbers chips (c + 1)
chips_filled-more n order at len numbers chips c below =
    each_filled-more [] (λ d. chip_with_numbers n order at len numbers d (chip_at chips d)) (chip_at chips) (2 ^ n) c
    (chip_with_numbers n order at len numbers c (chip_at (chips_filled n order at len numbers chips c) c)) below
    (ap (chip_with_numbers n order at len numbers c)
    (get_or-each_filled [] (λ d. chip_with_numbers n order at len numbers d (chip_at chips d)) (chip_at chips) (2 ^ n) c
    below))
