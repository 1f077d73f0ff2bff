-- The account of a machine: where each message is bound or was delivered, with its tag and payload. Ours.
use Rattle.std.specs.Prelude.{◌≡◌, ℕ, ◌≤◌, ◌^◌, Bool, List, ◌++◌, Option, Some, None, length, drop, map}
use Rattle.std.specs.List.{flat_map, filter_map, count_by, range_with_len}
use Rattle.cm_bits.specs.declared.place.Place.{Place}
use Rattle.cm_model.specs.declared.message.Message.{Message}
use Rattle.cm_model.specs.declared.message.Tag.{Tag}
use Rattle.cm_model.specs.declared.message.Event.{Event}
use Rattle.cm_model.specs.declared.message.Event.TheVariants.{Injected, Delivered}
use Rattle.cm_model.specs.Router.{target_from}
use Rattle.cm_model.specs.Array.{nth_or_nil}
use Rattle.cm_model.specs.Machine.{Machine}

-- one line of the account
pub record Triple : Type 0 where
  pub tag : Tag
  pub target : Place
  pub payload : ℕ

-- of a message that stands at a chip
abbrev pub standing_triple : ℕ → Message → Triple
standing_triple c m = record { tag = m.tag; target = target_from c m; payload = m.payload }

-- of an event, if it tells of a delivery
abbrev pub delivered_triple : Event → Option Triple
delivered_triple (Injected m) = None
delivered_triple (Delivered c m) =
    Some (record { tag = m.tag; target = record { chip = c; proc = m.proc }; payload = m.payload })

-- of an event, if it tells of an injection, which was at the chip that the tag names
abbrev pub injected_triple : Event → Option Triple
injected_triple (Injected m) = Some (standing_triple m.tag.chip m)
injected_triple (Delivered d m) = None

-- the lines of one chip: of all that stands there, and of all that was delivered there
abbrev pub account_at : Machine → ℕ → List Triple
account_at machine c =
    map (standing_triple c) (nth_or_nil machine.buffers c) ++ filter_map delivered_triple (nth_or_nil machine.logs c)

-- the account, as a list of which only the elements count, and not their order
unfoldable pub account : ℕ → Machine → List Triple
account n machine = flat_map (account_at machine) (range_with_len 0 (2 ^ n))

-- the events of a chip that a machine has more than an earlier one
abbrev pub new_events : Machine → Machine → ℕ → List Event
new_events before after c = drop (length (nth_or_nil before.logs c)) (nth_or_nil after.logs c)

-- the lines of the messages injected since an earlier machine
unfoldable pub newly_injected : ℕ → Machine → Machine → List Triple
newly_injected n before after =
    flat_map (λ c. filter_map injected_triple (new_events before after c)) (range_with_len 0 (2 ^ n))

-- the lines of all messages that the logs tell were injected
unfoldable pub all_injected : ℕ → Machine → List Triple
all_injected n machine =
    flat_map (λ c. filter_map injected_triple (nth_or_nil machine.logs c)) (range_with_len 0 (2 ^ n))

-- the two lists have as many lines of every kind, in whatever order
abbrev pub SameLines : List Triple → List Triple → Type 0
SameLines xs ys = (kind : Triple → Bool) → count_by kind xs ≡ count_by kind ys

-- the second list has at least as many lines of every kind
abbrev pub HasLines : List Triple → List Triple → Type 0
HasLines xs ys = (kind : Triple → Bool) → count_by kind xs ≤ count_by kind ys
