-- Numbers that were put into a field of every processor read back.
use Rattle.std.proofs.Common.{◌≡◌, ℕ, ◌+◌, ◌^◌, ◌<◌, ◌≤◌, List, [], length, get_or, sym, ap, ◌∙◌, arith}
use Rattle.std.proofs.Math.Nat.{mod-eq_of_lt}
use Rattle.std.proofs.lemmas.List.Elements.{All-get_or}
use Rattle.std.specs.List.{All}
use Rattle.cm_bits.specs.declared.place.Place.{Place}
use Rattle.cm_model.specs.Processor.{Processor, field_value}
use Rattle.cm_model.specs.Chip.{processor_at, no_processor}
use Rattle.cm_model.specs.Array.{Chips, chip_at, processor_of}
use Rattle.cm_model.specs.Laws.{IsPlace}
use Rattle.cm_model.specs.Machine.{Machine}
use Rattle.cm_model.specs.Keeping.{IsMachine}
use Rattle.cm_model.proofs.Each.{is_each, get_or-each_below}
use Rattle.cm_model.proofs.Receiving.{value-with_field}
use Rattle.lab_data.specs.declared.order.Order.{Order}
use Rattle.lab_data.specs.Data.{processors, place_in, index_in, numbers_of, processor_with, number_for}
use Rattle.lab_data.specs.Data.{chip_with_numbers, chips_with_numbers, machine_with_numbers}
use Rattle.lab_data.specs.DataLaws.{AreOrdered}
use Rattle.lab_data.proofs.Orders.{each_processor_comes_once}

-- the processor of a place, with its number
pub processor_of-chips_with_numbers : (n : ℕ) (order : Order) (at len : ℕ) (numbers : List ℕ) (chips : Chips)
    (place : Place) → IsPlace n place
    → processor_of (chips_with_numbers n order at len numbers chips) place
    ≡ processor_with at len (get_or numbers (index_in n order place) 0) (processor_of chips place)
unfolding chips_with_numbers chip_with_numbers
processor_of-chips_with_numbers n order at len numbers chips place there =
    ap (λ chip. processor_at chip place.proc)
    (get_or-each_below (2 ^ n) (λ c. chip_with_numbers n order at len numbers c (chip_at chips c)) place.chip []
    there.chip)
    ∙ get_or-each_below 16
    (λ p. processor_with at len (number_for n order numbers place.chip p) (processor_at (chip_at chips place.chip) p))
    place.proc no_processor there.proc

-- a field that was written reads as the number, if it has no more bits
field_value-processor_with : (at len number : ℕ) (processor : Processor) → at + len ≤ length processor.memory
    → number < 2 ^ len → field_value (processor_with at len number processor) at len ≡ number
unfolding field_value
field_value-processor_with at len number processor within small =
    value-with_field processor.memory at len number within ∙ mod-eq_of_lt small

pub numbers_read_back : (n cap : ℕ) (order : Order) (at len : ℕ) (numbers : List ℕ) (machine : Machine)
    → IsMachine n cap machine → at + len ≤ 4096 → length numbers ≡ processors n → All (λ x. x < 2 ^ len) numbers
    → numbers_of n order at len (machine_with_numbers n order at len numbers machine).chips ≡ numbers
unfolding numbers_of
numbers_read_back n cap order at len numbers machine whole within long small =
    sym (is_each 0 (processors n)
    (λ i. field_value
    (processor_of (chips_with_numbers n order at len numbers machine.chips) (place_in n order i)) at len)
    numbers long (λ i h. sym (each i h)))
  where
    each : (i : ℕ) → i < processors n
        → field_value (processor_of (chips_with_numbers n order at len numbers machine.chips) (place_in n order i)) at len
        ≡ get_or numbers i 0
    each i h =
        let ordered : AreOrdered n order = each_processor_comes_once n order in
        let place : Place = place_in n order i in
        let there : IsPlace n place = ordered.places i h in
        let here : index_in n order place ≡ i = ordered.indices i h in
        let memory : length (processor_of machine.chips place).memory ≡ 4096 =
        ((whole.whole place.chip there.chip).each place.proc there.proc).memory in
        let below : get_or numbers i 0 < 2 ^ len =
        All-get_or (λ (x : ℕ). x < 2 ^ len) numbers i 0 (omega (arith, h, long)) small in
        ap (λ (processor : Processor). field_value processor at len)
        (processor_of-chips_with_numbers n order at len numbers machine.chips place there
        ∙ ap (λ (k : ℕ). processor_with at len (get_or numbers k 0) (processor_of machine.chips place)) here)
        ∙ field_value-processor_with at len (get_or numbers i 0) (processor_of machine.chips place)
        (omega (arith, within, memory)) below
