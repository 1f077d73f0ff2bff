-- Messages that are delivered, and put down at their processors later. Ours.
use Rattle.std.specs.Prelude.{ℕ, ◌<◌, Bool, List, [], ◌∷◌, slice_set, if◌then◌else◌}
use Rattle.std.specs.List.{All}
use Rattle.cm_model.specs.declared.message.Message.{Message}
use Rattle.cm_model.specs.Processor.{Processor}
use Rattle.cm_model.specs.Array.{Chips, chip_at}
use Rattle.cm_model.specs.Letters.{chip_after_delivery}
use Rattle.cm_router.specs.declared.delivery.Delivery.{Delivery}

-- a chip to which this message was delivered, if it was
abbrev pub chip_handed : Bool → Message → List Processor → List Processor
chip_handed was_delivered m chip = if was_delivered then chip_after_delivery (m ∷ []) chip else chip

-- a run of chips after these were put down, one after another
abbrev pub run_after : List Delivery → Chips → Chips
run_after [] run = run
run_after (d ∷ ds) run = run_after ds (slice_set run d.place (chip_after_delivery (d.message ∷ []) (chip_at run d.place)))

-- all of them are for chips before this place
abbrev pub AreBefore : ℕ → List Delivery → Type 0
AreBefore place ds = All (λ d. d.place < place) ds
