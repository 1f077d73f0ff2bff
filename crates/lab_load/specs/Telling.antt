-- What the logs of a petit cycle tell: messages that were taken in, and how long those took that were delivered. Ours.
use Rattle.std.specs.Prelude.{ℕ, ◌+◌, ◌-◌, Bool, true, false, List, [], ◌∷◌, sum_by}
use Rattle.std.specs.List.{count_by, flat_map}
use Rattle.cm_model.specs.declared.message.Message.{Message}
use Rattle.cm_model.specs.declared.message.Event.{Event}
use Rattle.cm_model.specs.declared.message.Event.TheVariants.{Injected, Delivered}

-- an event tells that a message was taken in
abbrev pub is_injection_event : Event → Bool
is_injection_event (Injected m) = true
is_injection_event (Delivered c m) = false

-- how many messages were taken in
abbrev pub injected_count : List (List Event) → ℕ
injected_count logs = sum_by (count_by is_injection_event) logs

-- how many petit cycles a message took that was delivered in petit cycle t, from that of its offer on, both counted
abbrev pub latency_of : ℕ → Message → ℕ
latency_of t m = t + 1 - m.payload

-- what an event of petit cycle t tells of it
abbrev pub latency_logged : ℕ → Event → List ℕ
latency_logged t (Injected m) = []
latency_logged t (Delivered c m) = latency_of t m ∷ []

-- those of all messages that were delivered in petit cycle t
abbrev pub latencies_in : ℕ → List (List Event) → List ℕ
latencies_in t logs = flat_map (flat_map (latency_logged t)) logs
