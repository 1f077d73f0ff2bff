-- What is known of the ways of messages: how many dimensions each crossed, and how often it was referred. Ours.
use Rattle.std.specs.Prelude.{ℕ, ◌+◌, ◌-◌, ◌^◌, ◌==◌, Bool, Option, Some, None, List, map, min, bit_and, bit_xor, count_ones}
use Rattle.std.specs.List.{filter, find, flat_map, range_with_len}
use Rattle.cm_model.specs.declared.message.Message.{Message}
use Rattle.cm_model.specs.Array.{each_chip, nth_or_nil}
use Rattle.cm_model.specs.Machine.{Machine}
use Rattle.cm_model.specs.Found.{same_tag}
use Rattle.lab_study.specs.declared.trace.Trace.{Trace}

-- what is known of messages that stand in routers, by the chip that sent them
abbrev pub Traces : Type 0
Traces = List (List Trace)

-- so many and more: a count ends at the greatest number of 64 bits
abbrev pub count_grown : ℕ → ℕ → ℕ
count_grown before more = min (before + more) (2 ^ 64 - 1)

-- ---- one message

-- of a message that stands at chip c and was not seen before: it set out from the chip that its tag names
abbrev pub set_out : ℕ → Message → Trace
set_out c m = record {
  tag = m.tag;
  rel = bit_xor (bit_xor m.tag.chip c) m.rel;
  crossed = 0;
  referred = 0;
}

-- what is known of a message, or that it set out, if nothing is known
abbrev pub or_set_out : ℕ → Message → Option Trace → Trace
or_set_out c m None = set_out c m
or_set_out c m (Some trace) = trace

-- what was known of a message that stands at chip c
unfoldable pub trace_of : Traces → ℕ → Message → Trace
trace_of traces c m = or_set_out c m (find (λ trace. same_tag trace.tag m.tag) (nth_or_nil traces m.tag.chip))

-- in a petit cycle each dimension is crossed at most once, and its bit flips: so many were crossed since
abbrev pub crossings : Trace → Message → ℕ
crossings trace m = count_ones (bit_xor trace.rel m.rel)

-- who crosses a dimension that was not to be crossed, and so has its bit then, was referred
abbrev pub referrals : Trace → Message → ℕ
referrals trace m = count_ones (bit_and (bit_xor trace.rel m.rel) m.rel)

-- what is known of the message one petit cycle on
abbrev pub trace_after : Trace → Message → Trace
trace_after trace m = record {
  tag = m.tag;
  rel = m.rel;
  crossed = count_grown trace.crossed (crossings trace m);
  referred = count_grown trace.referred (referrals trace m);
}

-- ---- all messages

-- what is known of those that stand at chip c now
abbrev pub traces_at : Traces → Machine → ℕ → List Trace
traces_at traces machine c = map (λ m. trace_after (trace_of traces c m) m) (nth_or_nil machine.buffers c)

-- what is known of all that stand in the routers now
unfoldable pub all_traces : ℕ → Traces → Machine → List Trace
all_traces n traces machine = flat_map (traces_at traces machine) (range_with_len 0 (2 ^ n))

-- chip b sent the message
abbrev pub is_from : ℕ → Trace → Bool
is_from b trace = trace.tag.chip == b

-- by the chip that sent them, on a cube of n dimensions
unfoldable pub by_sender : ℕ → List Trace → Traces
by_sender n traces = each_chip n (λ b. filter (is_from b) traces)

-- what is known after a petit cycle
abbrev pub traces_after : ℕ → Traces → Machine → Traces
traces_after n traces machine = by_sender n (all_traces n traces machine)
