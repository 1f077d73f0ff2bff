-- Machines without logs: the messages that stand there, and a tag that stands twice among them. Ours.
use Rattle.std.specs.Prelude.{◌≡◌, ℕ, ◌||◌, Bool, false, List, [], ◌∷◌}
use Rattle.std.specs.List.{list_any, flat_map}
use Rattle.cm_model.specs.declared.message.Message.{Message}
use Rattle.cm_model.specs.Array.{each_chip}
use Rattle.cm_model.specs.Machine.{Machine}
use Rattle.cm_model.specs.Found.{same_tag}

-- no log has an event
abbrev pub IsUnlogged : ℕ → Machine → Type 0
IsUnlogged n machine = machine.logs ≡ each_chip n (λ c. [])

-- all messages that stand at its chips, chip after chip
abbrev pub standing_messages : Machine → List Message
standing_messages machine = flat_map (λ buffer. buffer) machine.buffers

-- two of these messages have one tag
abbrev pub has_tag_twice : List Message → Bool
has_tag_twice [] = false
has_tag_twice (m ∷ ms) = list_any (λ q. same_tag q.tag m.tag) ms || has_tag_twice ms
