-- Laws over images, each the contract of a function of its name. Ours.
use Rattle.std.specs.Prelude.{◌≡◌, ℕ, ◌<◌, ◌≤◌, ◌^◌, ◌↔◌, List, [], None, Ok, slice_index}
use Rattle.cm_model.specs.Array.{each_chip}
use Rattle.cm_model.specs.Machine.{Machine}
use Rattle.cm_model.specs.Keeping.{IsMachine}
use Rattle.cm_model.specs.Unlogged.{IsUnlogged}
use Rattle.cm_image_format.specs.Whole.{text_of, read_image, image_fault}

-- a machine that an image can tell: of these sizes, whole, and without logs
pub record IsStorable (n cap : ℕ) (machine : Machine) : Type 0 where
  pub dimension : n ≤ 12
  pub some_room : 1 ≤ cap
  pub most_room : cap ≤ 15
  pub clock : machine.clock < 2 ^ 63
  pub whole : IsMachine n cap machine
  pub unlogged : IsUnlogged n machine

-- a machine of these sizes, as every machine is that a run leaves: its logs may have events
pub record HasText (n cap : ℕ) (machine : Machine) : Type 0 where
  pub dimension : n ≤ 12
  pub some_room : 1 ≤ cap
  pub most_room : cap ≤ 15
  pub clock : machine.clock < 2 ^ 63
  pub whole : IsMachine n cap machine

-- the machine as if it had been made with what stands in it now: no log has an event
abbrev pub without_logs : ℕ → Machine → Machine
without_logs n machine = record machine { logs = each_chip n (λ c. []) }

-- these are bytes
abbrev pub AreBytes : List ℕ → Type 0
AreBytes bytes = (i : ℕ) → slice_index bytes i < 256

-- its text is read as that machine
abbrev pub TextsAreRead : Type 0
TextsAreRead =
    (n cap : ℕ) (machine : Machine) → IsStorable n cap machine → read_image n cap (text_of n cap machine) ≡ Ok machine

-- the text of a machine with logs is read as that machine without them
abbrev pub TextsLeaveOutLogs : Type 0
TextsLeaveOutLogs =
    (n cap : ℕ) (machine : Machine) → HasText n cap machine
    → read_image n cap (text_of n cap machine) ≡ Ok (without_logs n machine)

-- bytes that are read as a machine are its text
abbrev pub OnlyTextsAreRead : Type 0
OnlyTextsAreRead =
    (n cap : ℕ) (bytes : List ℕ) (machine : Machine) → AreBytes bytes
    → read_image n cap bytes ≡ Ok machine → (bytes ≡ text_of n cap machine) × IsStorable n cap machine

-- a machine has one text, and a text is that of one machine
abbrev pub TextsAreApart : Type 0
TextsAreApart =
    (n cap : ℕ) (left right : Machine) → IsStorable n cap left → IsStorable n cap right
    → text_of n cap left ≡ text_of n cap right → left ≡ right

-- bytes have no fault where they are the text of a machine, and nowhere else
abbrev pub TextsHaveNoFault : Type 0
TextsHaveNoFault =
    (n cap : ℕ) (bytes : List ℕ) → AreBytes bytes
    → (image_fault n cap bytes ≡ None)
    ↔ ((machine : Machine) × (IsStorable n cap machine × (bytes ≡ text_of n cap machine)))
