-- What the routers of a machine hold, and how many events its logs have. Ours.
use Rattle.std.specs.Prelude.{ℕ, ◌^◌, ◌==◌, ◌&&◌, Bool, List, map, sum}
use Rattle.std.specs.Cmp.Lexicographic.{pointwise}
use Rattle.std.specs.List.{flat_map, range_with_len}
use Rattle.cm_model.specs.declared.message.Message.{Message}
use Rattle.cm_model.specs.Array.{nth_or_nil}
use Rattle.cm_model.specs.Found.{same_tag}
use Rattle.cm_model.specs.Machine.{Machine}
use Rattle.lab_study.specs.declared.holdings.Held.{Held}
use Rattle.lab_study.specs.Counts.{log_lengths}

-- a message that stands at chip c
abbrev pub held : ℕ → Message → Held
held c m = record { chip = c; message = m }

-- what the router of chip c holds, in order of arrival
abbrev pub held_at : Machine → ℕ → List Held
held_at machine c = map (held c) (nth_or_nil machine.buffers c)

-- what all routers hold, chip after chip
unfoldable pub holdings : ℕ → Machine → List Held
holdings n machine = flat_map (held_at machine) (range_with_len 0 (2 ^ n))

-- two messages are one
abbrev pub same_message : Message → Message → Bool
same_message m q = m.rel == q.rel && (m.proc == q.proc && (m.payload == q.payload && same_tag m.tag q.tag))

-- one message at one chip
abbrev pub same_held : Held → Held → Bool
same_held h k = h.chip == k.chip && same_message h.message k.message

-- routers that hold the one hold the other
abbrev pub same_holdings : List Held → List Held → Bool
same_holdings now time = pointwise same_held now time

-- how many events all logs have
unfoldable pub event_count : ℕ → Machine → ℕ
event_count n machine = sum (log_lengths n machine)
