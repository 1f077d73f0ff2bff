-- Which messages stand at the chips, where tickets cross in their place. Ours.
use Rattle.std.specs.Prelude.{◌≡◌, ℕ, ◌+◌, ◌*◌, ◌<◌, ◌≤◌, ◌++◌, Bool, IsTrue, true, List, length, map, Vec, Option, IfSome}
use Rattle.std.specs.Prelude.{slice_index_or, slice_set, vec_len, vec_capacity}
use Rattle.std.specs.List.{All, slice_range}
use Rattle.std.specs.declared.alloc.Global.{Global}
use Rattle.cm_model.specs.declared.message.Message.{Message}
use Rattle.cm_model.specs.declared.message.Tag.{Tag}
use Rattle.cm_model.specs.Router.{is_older}
use Rattle.cm_model.specs.Array.{nth_or_nil}
use Rattle.cm_slots.specs.declared.ticket.Ticket.{Ticket}

-- what contracts see of the messages of a run of chips:
-- those at each chip, in order of arrival, for how many more there are places,
-- and whether those of each chip are known to stand side by side, so that they can be read as one slice
pub record InFlight : Type 0 where
  pub buffers : List (List Message)
  pub free : ℕ
  pub gathered : Bool

-- ---- tickets

-- what is read where no message is kept
abbrev pub no_message : Message
no_message = record { rel = 0; proc = 0; payload = 0; tag = record { chip = 0; proc = 0; birth = 0 } }

-- the message that a ticket stands for, of those in the row
abbrev pub message_of_ticket : List Message → Ticket → Message
message_of_ticket row t = record (slice_index_or row t.number no_message) { rel = t.rel }

-- the messages of a chip
abbrev pub standing : List Message → List Ticket → List Message
standing row ts = map (message_of_ticket row) ts

-- the messages of each chip
abbrev pub all_standing : List Message → List (List Ticket) → List (List Message)
all_standing row queues = map (standing row) queues

-- each of these tickets stands for one of the first so many messages of the row
abbrev pub HaveMessages : ℕ → List Ticket → Type 0
HaveMessages count ts = All (λ t. t.number < count) ts

-- so does this one, if there is one
abbrev pub HasMessage : ℕ → Option Ticket → Type 0
HasMessage count o = IfSome o (λ t. t.number < count)

-- what is read where no ticket stands
abbrev pub no_ticket : Ticket
no_ticket = record { rel = 0; number = 0 }

-- where the message of the first of these tickets is kept
abbrev pub first_number : List Ticket → ℕ
first_number ts = (slice_index_or ts 0 no_ticket).number

-- the messages of these tickets stand side by side, in their order and with the addresses of by now
pub record AreTogether (row : List Message) (ts : List Ticket) : Type 0 where
  pub start : ℕ
  pub starts : 0 < length ts → first_number ts ≡ start
  pub within : start + length ts ≤ length row
  pub value : slice_range row start (start + length ts) ≡ standing row ts

-- tickets for the messages of the old ones, which stand side by side in the second row
pub record AreLaidOut (row spare : List Message) (old new : List Ticket) : Type 0 where
  pub begun : List Message
  pub rest : List Message
  pub all : spare ≡ (begun ++ standing row old) ++ rest
  pub long : length new ≡ length old
  pub each : (j : ℕ) → j < length old → slice_index_or new j no_ticket
      ≡ record { rel = (slice_index_or old j no_ticket).rel; number = length begun + j }

-- the tickets of one chip were written, and no others
abbrev pub IsWritten : ℕ → List (List Ticket) → List (List Ticket) → Type 0
IsWritten here old new = new ≡ slice_set old here (nth_or_nil new here)

-- ---- the order of age

-- the tag of a message of the row
abbrev pub tag_at : List Message → ℕ → Tag
tag_at row i = (slice_index_or row i no_message).tag

-- of the first so many messages of the row each is older than all behind it
pub record AreByAge (row : List Message) (count : ℕ) : Type 0 where
  pub within : count ≤ length row
  pub each : (i j : ℕ) → i < j → j < count → is_older (tag_at row i) (tag_at row j) ≡ true

-- ---- all that is kept

-- at most 4,096 chips, and 15 places of the row for each, and four more, in two rows in turn;
-- each ticket stands for a message; a row of leavers; and so many first messages stand in the order of age
pub record IsRouterEngine (row spare : Vec Message Global) (places : ℕ) (queues : List (List Ticket))
    (leavers : Vec (Option Ticket) Global) (gathered : Bool) (risen : ℕ) : Type 0 where
  pub few : length queues ≤ 4096
  pub enough : 15 * length queues + 4 ≤ places
  pub most : places ≤ 65535
  pub capacity : places ≤ vec_capacity row
  pub spare_capacity : places ≤ vec_capacity spare
  pub filled : vec_len row ≤ places
  pub rows : length leavers.items ≡ length queues
  pub kept : All (HaveMessages (length row.items)) queues
  pub together : IsTrue gathered → All (AreTogether row.items) queues
  pub rising : AreByAge row.items risen
