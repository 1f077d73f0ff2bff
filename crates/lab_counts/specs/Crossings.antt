-- What a petit cycle does in each dimension: messages cross it, of these some that have not to, and others have to and
-- stay. Ours.
use Rattle.std.specs.Prelude.{ℕ, suc, zero, ◌+◌, ◌-◌, ◌^◌, Bool, false, List, Option, Some, None, is_some, min}
use Rattle.std.specs.Prelude.{fold, slice_index_or, slice_set}
use Rattle.std.specs.List.{count_by}
use Rattle.cm_bits.specs.Bit.{bit_number}
use Rattle.cm_model.specs.declared.message.Message.{Message}
use Rattle.cm_model.specs.Array.{nth_or_nil}
use Rattle.cm_model.specs.Router.{has_to_cross}
use Rattle.cm_model.specs.Wiring.{Routing, Way, way_of}
use Rattle.cm_model.specs.Machine.{Machine}
use Rattle.cm_model.specs.Buffers.{leaving_place, outgoing, without, machine_after_injection, machine_after_dimension}
use Rattle.lab_counts.specs.declared.crossings.Crossings.{Crossings}

-- none
abbrev pub no_crossings : Crossings
no_crossings = record { crossed = 0; referred = 0; refused = 0 }

-- so many and more: a count ends at the greatest number of 64 bits
abbrev pub capped_sum : ℕ → ℕ → ℕ
capped_sum these more = min (these + more) (2 ^ 64 - 1)

-- those of both
abbrev pub crossings_added : Crossings → Crossings → Crossings
crossings_added these more = record {
  crossed = capped_sum these.crossed more.crossed;
  referred = capped_sum these.referred more.referred;
  refused = capped_sum these.refused more.refused;
}

-- those of all dimensions, or of all chips
abbrev pub in_all : List Crossings → Crossings
in_all known = fold crossings_added no_crossings known

-- ---- one chip

-- a message that crossed dimension d had not to: it has to now
abbrev pub was_referred : ℕ → Option Message → Bool
was_referred d None = false
was_referred d (Some m) = has_to_cross d m

-- those of a chip with this way and room for cap, where these stand, in dimension d: one that goes across, if one does,
-- and those that have to and stay
abbrev pub crossings_at : Way → ℕ → ℕ → List Message → Crossings
crossings_at way cap d here = record {
  crossed = bit_number (is_some (outgoing way cap d here));
  referred = bit_number (was_referred d (outgoing way cap d here));
  refused = count_by (has_to_cross d) (without here (leaving_place way cap d here));
}

-- ---- all chips

-- those of the first so many chips in dimension d, where these stand at them
unfoldable pub crossings_to : Routing → ℕ → ℕ → List (List Message) → ℕ → Crossings
crossings_to routing cap d buffers zero = no_crossings
crossings_to routing cap d buffers (suc c) =
    crossings_added (crossings_to routing cap d buffers c) (crossings_at (way_of routing c d) cap d (nth_or_nil buffers c))

-- ---- a petit cycle

-- a machine in a petit cycle, before dimension d: it has taken messages in, and these crossed the dimensions before
unfoldable pub machine_before : ℕ → ℕ → Machine → ℕ → Machine
machine_before n cap machine zero = machine_after_injection n cap machine
machine_before n cap machine (suc d) = machine_after_dimension n cap d (machine_before n cap machine d)

-- those of a petit cycle in dimension d
abbrev pub crossings_in : ℕ → ℕ → Machine → ℕ → Crossings
crossings_in n cap machine d =
    crossings_to machine.routing cap d (machine_before n cap machine d).buffers (2 ^ n)

-- those known by number, as by dimension or by chip, and more of number k
abbrev pub with_crossings : List Crossings → ℕ → Crossings → List Crossings
with_crossings known k more = slice_set known k (crossings_added (slice_index_or known k no_crossings) more)

-- those known by dimension, and those of the first so many dimensions of a petit cycle
unfoldable pub crossings_through : ℕ → ℕ → Machine → List Crossings → ℕ → List Crossings
crossings_through n cap machine dims zero = dims
crossings_through n cap machine dims (suc d) =
    with_crossings (crossings_through n cap machine dims d) d (crossings_in n cap machine d)
