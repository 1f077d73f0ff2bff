-- What a petit cycle does to the messages of a machine, in numbers: sums over all chips. Ours.
use Rattle.std.specs.Prelude.{ℕ, ◌^◌, Bool, true, false, List, drop, length, cond, nat_le, slice_index_or, sum, sum_by}
use Rattle.std.specs.List.{count_by}
use Rattle.cm_bits.specs.Bit.{bit_number}
use Rattle.cm_model.specs.declared.message.Event.{Event}
use Rattle.cm_model.specs.declared.message.Event.TheVariants.{Injected, Delivered}
use Rattle.cm_model.specs.Each.{tabulate}
use Rattle.cm_model.specs.Processor.{SEND, flag}
use Rattle.cm_model.specs.Chip.{processor_at}
use Rattle.cm_model.specs.Array.{each_chip, chip_at, nth_or_nil}
use Rattle.cm_model.specs.Machine.{Machine}
use Rattle.lab_study.specs.declared.counts.Counts.{Counts}
use Rattle.lab_study.specs.Traces.{Traces, trace_of, referrals}

-- by chip, how many events its log has
abbrev pub log_lengths : ℕ → Machine → List ℕ
log_lengths n machine = each_chip n (λ c. length (nth_or_nil machine.logs c))

-- the events of a chip behind those that were there before: by chip so many
abbrev pub events_behind : List ℕ → Machine → ℕ → List Event
events_behind before machine c = drop (slice_index_or before c 0) (nth_or_nil machine.logs c)

-- an event tells that a message was taken in
abbrev pub is_injection_event : Event → Bool
is_injection_event (Injected m) = true
is_injection_event (Delivered c m) = false

-- an event tells that a message was delivered
abbrev pub is_delivery_event : Event → Bool
is_delivery_event (Injected m) = false
is_delivery_event (Delivered c m) = true

-- ---- of one chip

-- messages that it took in
abbrev pub taken_count_at : List ℕ → Machine → ℕ → ℕ
taken_count_at before machine c = count_by is_injection_event (events_behind before machine c)

-- messages that it delivered
abbrev pub delivered_count_at : List ℕ → Machine → ℕ → ℕ
delivered_count_at before machine c = count_by is_delivery_event (events_behind before machine c)

-- how often messages that stand there were referred since
abbrev pub referred_at : Traces → Machine → ℕ → ℕ
referred_at traces machine c = sum_by (λ m. referrals (trace_of traces c m) m) (nth_or_nil machine.buffers c)

-- messages that stand there
abbrev pub standing_count_at : Machine → ℕ → ℕ
standing_count_at machine c = length (nth_or_nil machine.buffers c)

-- 1 if it has no room for another, with room for cap
abbrev pub full_at : ℕ → Machine → ℕ → ℕ
full_at cap machine c = cond (nat_le cap (length (nth_or_nil machine.buffers c))) 1 0

-- its processors that ask to send
abbrev pub asking_at : Machine → ℕ → ℕ
asking_at machine c =
    sum (tabulate 0 16 (λ p. bit_number (flag (processor_at (chip_at machine.chips c) p) SEND)))

-- all of them
abbrev pub counts_at : ℕ → List ℕ → Traces → Machine → ℕ → Counts
counts_at cap before traces machine c = record {
  taken = taken_count_at before machine c;
  delivered = delivered_count_at before machine c;
  referred = referred_at traces machine c;
  standing = standing_count_at machine c;
  full = full_at cap machine c;
  asking = asking_at machine c;
}

-- ---- of many

-- of so many chips, from chip 0 on, after a petit cycle, where this was before
unfoldable pub counts_to : ℕ → ℕ → List ℕ → Traces → Machine → Counts
counts_to count cap before traces machine = record {
  taken = sum (tabulate 0 count (taken_count_at before machine));
  delivered = sum (tabulate 0 count (delivered_count_at before machine));
  referred = sum (tabulate 0 count (referred_at traces machine));
  standing = sum (tabulate 0 count (standing_count_at machine));
  full = sum (tabulate 0 count (full_at cap machine));
  asking = sum (tabulate 0 count (asking_at machine));
}

-- of all chips of a cube of n dimensions whose routers have room for cap messages each
abbrev pub counts_of : ℕ → ℕ → List ℕ → Traces → Machine → Counts
counts_of n cap before traces machine = counts_to (2 ^ n) cap before traces machine
