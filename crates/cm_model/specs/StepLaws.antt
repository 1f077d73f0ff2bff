-- Laws of one step, each the contract of a function of its name. Ours.
use Rattle.std.specs.Prelude.{◌≡◌, ℕ, ◌^◌, ◌<◌, ◌≤◌, Bool, true, Option, Some, None, List, [], length, map, bit_xor}
use Rattle.cm_model.specs.declared.act.Nano.{Nano}
use Rattle.cm_model.specs.declared.act.Act.TheVariants as act
use Rattle.cm_model.specs.Wiring.{Routing, is_cut, Way}
use Rattle.cm_model.specs.Array.{nth_or_nil}
use Rattle.cm_model.specs.Router.{Standing, standing_at, target, leaver, after_dimension}
use Rattle.cm_model.specs.Order.{queue, buffer}
use Rattle.cm_model.specs.Leaver.{IsLeaver, SincesDiffer}
use Rattle.std.specs.List.{All, find}
use Rattle.cm_model.specs.declared.message.Message.{Message}
use Rattle.cm_model.specs.Processor.{Processor}
use Rattle.cm_model.specs.Chip.{processor_at}
use Rattle.cm_model.specs.Whole.{IsChip}
use Rattle.cm_model.specs.Letters.{is_among, chip_after_injection, is_for, chip_after_delivery}
use Rattle.cm_model.specs.Letters.{IsAcknowledged, AreDeliveries, IsHeldBack, HasReceived}
use Rattle.cm_model.specs.Steps.{Step, IsStep}
use Rattle.cm_model.specs.Machine.{Machine}
use Rattle.cm_model.specs.Buffers.{leaving_place, element_at, sent_across, buffers_after_dimension, after_step, after_act}
use Rattle.cm_model.specs.OneChip.{delivered, kept}
use Rattle.cm_model.specs.Account.{account}
use Rattle.cm_model.specs.Keeping.{HasRoom}

-- injection tells each processor whether its message was taken
abbrev pub SendersAreAcknowledged : Type 0
SendersAreAcknowledged = (taken : List ℕ) (chip : List Processor) (p : ℕ) → IsChip chip → p < 16 →
    IsAcknowledged (is_among p taken) (processor_at chip p) (processor_at (chip_after_injection taken chip) p)

-- who leaves goes before all others that have to cross, or is referred and goes behind all, or is nobody; over a wire
-- that is cut it is nobody
abbrev pub LeaversHaveTheirSince : Type 0
LeaversHaveTheirSince = (way : Way) (cap d c : ℕ) (set : List Standing)
    → IsLeaver way cap d c set (leaver way cap d c set)

-- and nobody else is, where no two records at the chip have one since
abbrev pub LeaversAreUnique : Type 0
LeaversAreUnique = (way : Way) (cap d c : ℕ) (set : List Standing) (leaving : Option Standing)
    → SincesDiffer (standing_at c set) → IsLeaver way cap d c set leaving → leaving ≡ leaver way cap d c set

-- who leaves stands in the buffer at the place that the buffer alone tells
abbrev pub LeaversStandAtTheirPlace : Type 0
LeaversStandAtTheirPlace = (way : Way) (cap d c : ℕ) (set : List Standing)
    → leaver way cap d c set ≡ element_at (queue c set) (leaving_place way cap d (buffer c set))

-- a dimension step keeps the target of each record
abbrev pub TargetsAreKept : Type 0
TargetsAreKept = (routing : Routing) (cap d cycle : ℕ) (set : List Standing)
    → map target (after_dimension routing cap d cycle set) ≡ map target set

-- of the buffers of all chips: over a wire that is cut nobody goes from chip c, nobody comes, and its buffer stays
pub record StaysAsItIs (routing : Routing) (n cap d : ℕ) (buffers : List (List Message)) (c : ℕ) : Type 0 where
  pub nobody_goes : sent_across routing cap d buffers c ≡ None
  pub nobody_comes : sent_across routing cap d buffers (bit_xor c (2 ^ d)) ≡ None
  pub same : nth_or_nil (buffers_after_dimension routing n cap d buffers) c ≡ nth_or_nil buffers c

-- so it is at every cut wire
abbrev pub NobodyCrossesACutWire : Type 0
NobodyCrossesACutWire = (routing : Routing) (n cap d : ℕ) (buffers : List (List Message)) (c : ℕ) → c < 2 ^ n
    → is_cut routing c d ≡ true →
    StaysAsItIs routing n cap d buffers c

-- whichever wires are cut and by either rule, no buffer has more than cap messages after a dimension step where none
-- had more before
abbrev pub CrossingsKeepRoom : Type 0
CrossingsKeepRoom = (routing : Routing) (n cap d : ℕ) (buffers : List (List Message)) → d < n
    → ((c : ℕ) → c < 2 ^ n → length (nth_or_nil buffers c) ≤ cap) → (c : ℕ) → c < 2 ^ n →
    length (nth_or_nil (buffers_after_dimension routing n cap d buffers) c) ≤ cap

-- a delivery takes messages that have arrived and whose processors can receive, one for each processor at most
abbrev pub DeliveriesAreApart : Type 0
DeliveriesAreApart = (receives : ℕ → Bool) (here : List Message) → AreDeliveries receives (delivered receives [] here)

-- and passes nobody over: a message is kept only where it has not arrived, or its processor cannot receive, or
-- another is delivered to that one
abbrev pub NobodyIsPassedOver : Type 0
NobodyIsPassedOver = (receives : ℕ → Bool) (here : List Message)
    → All (IsHeldBack receives (delivered receives [] here)) (kept receives [] here)

-- each message that is delivered is received, unaltered, by the processor that it is for
abbrev pub PayloadsAreReceived : Type 0
PayloadsAreReceived = (chip : List Processor) (delivered : List Message) (p : ℕ) (m : Message) → IsChip chip → p < 16
    → m.payload < 2 ^ 32 →
    find (is_for p) delivered ≡ Some m → HasReceived m (processor_at (chip_after_delivery delivered chip) p)

-- where no buffer has more than cap messages, none has more after injection, after a dimension step or after delivery
abbrev pub RoomIsKept : Type 0
RoomIsKept = (n cap : ℕ) (machine : Machine) (step : Step) → IsStep n step → HasRoom n cap machine
    → HasRoom n cap (after_step n cap machine step)

-- an instruction leaves the account as it is
abbrev pub InstructionsKeepTheAccount : Type 0
InstructionsKeepTheAccount = (n cap : ℕ) (machine : Machine) (nano : Nano)
    → account n (after_act n cap machine (act.Nano nano)) ≡ account n machine
