-- What every machine keeps: counts, bounds, room, births and tags. Ours.
use Rattle.std.specs.Prelude.{◌≡◌, ℕ, ◌<◌, ◌≤◌, ◌^◌, length}
use Rattle.std.specs.List.{All, count_by}
use Rattle.cm_model.specs.declared.message.Message.{Message}
use Rattle.cm_model.specs.declared.message.Tag.{Tag}
use Rattle.cm_model.specs.declared.message.Event.{Event}
use Rattle.cm_model.specs.declared.message.Event.TheVariants.{Injected, Delivered}
use Rattle.cm_model.specs.Whole.{IsChip}
use Rattle.cm_model.specs.Wiring.{IsRouting}
use Rattle.cm_model.specs.Array.{chip_at, nth_or_nil}
use Rattle.cm_model.specs.Machine.{Machine}
use Rattle.cm_model.specs.Account.{account, all_injected, HasLines}
use Rattle.cm_model.specs.Found.{same_tag}

-- a dimension of a cube, and how many messages a router has room for
pub record AreSizes (n cap : ℕ) : Type 0 where
  pub dimension : n ≤ 12
  pub some_room : 1 ≤ cap
  pub most_room : cap ≤ 15

-- a message of a cube of n dimensions
pub record IsMessage (n : ℕ) (m : Message) : Type 0 where
  pub rel : m.rel < 2 ^ n
  pub proc : m.proc < 16
  pub payload : m.payload < 2 ^ 32
  pub origin : m.tag.chip < 2 ^ n
  pub sender : m.tag.proc < 16

-- what the log of chip c tells was injected was sent from there
pub record IsInjection (n c : ℕ) (m : Message) : Type 0 where
  pub message : IsMessage n m
  pub here : m.tag.chip ≡ c

-- what it tells was delivered had arrived there
pub record IsDelivery (n c d : ℕ) (m : Message) : Type 0 where
  pub message : IsMessage n m
  pub arrived : m.rel ≡ 0
  pub here : d ≡ c

-- an event of chip c
abbrev pub IsEventOf : ℕ → ℕ → Event → Type 0
IsEventOf n c (Injected m) = IsInjection n c m
IsEventOf n c (Delivered d m) = IsDelivery n c d m

-- all events in its logs are of the chip whose log it is
abbrev pub HasEvents : ℕ → Machine → Type 0
HasEvents n machine = (c : ℕ) → c < 2 ^ n → All (IsEventOf n c) (nth_or_nil machine.logs c)

-- no buffer has more than cap messages
abbrev pub HasRoom : ℕ → ℕ → Machine → Type 0
HasRoom n cap machine = (c : ℕ) → c < 2 ^ n → length (nth_or_nil machine.buffers c) ≤ cap

-- all messages in its buffers are of its cube
abbrev pub HasMessages : ℕ → Machine → Type 0
HasMessages n machine = (c : ℕ) → c < 2 ^ n → All (IsMessage n) (nth_or_nil machine.buffers c)

-- each message of the account was born before this petit cycle
abbrev pub BornBefore : ℕ → Machine → Type 0
BornBefore n machine = All (λ triple. triple.tag.birth < machine.clock) (account n machine)

-- no tag stands twice in the account
abbrev pub HasTagsOnce : ℕ → Machine → Type 0
HasTagsOnce n machine = (tag : Tag) → count_by (λ triple. same_tag triple.tag tag) (account n machine) ≤ 1

-- tags and births of the account, as every machine has them
pub record HasGoodTags (n : ℕ) (machine : Machine) : Type 0 where
  pub once : HasTagsOnce n machine
  pub born : BornBefore n machine

-- what holds at every step of a run, in the midst of a petit cycle too: counts, whole chips, room, messages, events,
-- routing
pub record IsSound (n cap : ℕ) (machine : Machine) : Type 0 where
  pub chip_count : length machine.chips ≡ 2 ^ n
  pub buffer_count : length machine.buffers ≡ 2 ^ n
  pub log_count : length machine.logs ≡ 2 ^ n
  pub whole : (c : ℕ) → c < 2 ^ n → IsChip (chip_at machine.chips c)
  pub room : HasRoom n cap machine
  pub messages : HasMessages n machine
  pub events : HasEvents n machine
  pub routing : IsRouting n machine.routing

-- of a cube of n dimensions whose routers have room for cap messages each
pub record IsMachine (n cap : ℕ) (machine : Machine) : Type 0 where
  pub chip_count : length machine.chips ≡ 2 ^ n
  pub buffer_count : length machine.buffers ≡ 2 ^ n
  pub log_count : length machine.logs ≡ 2 ^ n
  pub whole : (c : ℕ) → c < 2 ^ n → IsChip (chip_at machine.chips c)
  pub room : HasRoom n cap machine
  pub messages : HasMessages n machine
  pub events : HasEvents n machine
  pub routing : IsRouting n machine.routing
  pub births : BornBefore n machine
  pub tags : HasTagsOnce n machine
  -- so that each message whose injection a log tells of stands in the account, and once
  pub injected : HasLines (all_injected n machine) (account n machine)
