-- Logs that are set aside while a machine goes on: its events come to stand behind them. Ours.
use Rattle.std.specs.Prelude.{◌≡◌, ℕ, ◌+◌, ◌*◌, ◌<◌, ◌≤◌, ◌^◌, ◌++◌, List, [], length, slice_index}
use Rattle.cm_model.specs.declared.act.Act.{Act}
use Rattle.cm_model.specs.declared.message.Event.{Event}
use Rattle.cm_model.specs.Array.{each_chip, nth_or_nil}
use Rattle.cm_model.specs.Machine.{Machine, run_of}
use Rattle.cm_model.specs.Keeping.{IsMachine}
use Rattle.cm_array.specs.Acts.{cycles_in}

-- a machine without its events
abbrev pub unlogged : ℕ → Machine → Machine
unlogged n machine = record machine { logs = each_chip n (λ c. []) }

-- a machine whose events stand behind earlier ones, chip by chip
abbrev pub logs_appended : ℕ → List (List Event) → Machine → Machine
logs_appended n earlier machine = record machine { logs = each_chip n (λ c. nth_or_nil earlier c ++ nth_or_nil machine.logs c) }

-- what contracts see of logs that were set aside
pub record Aside : Type 0 where
  -- by chip
  pub logs : List (List Event)
  -- by chip, how many events more its log takes before it has to grow
  pub log_rooms : List ℕ

-- each takes the events of a chip behind its own
abbrev pub TakeIn : List ℕ → List (List Event) → Type 0
TakeIn log_rooms logs = (c : ℕ) → c < length log_rooms → length (nth_or_nil logs c) ≤ slice_index log_rooms c

-- ---- laws, each the contract of a function of its name

-- no act reads a log: a run is the run of the machine without its events, whose new events stand behind them
abbrev pub LogsAreNeverRead : Type 0
LogsAreNeverRead = (n cap : ℕ) (machine : Machine) (acts : List Act) → IsMachine n cap machine
    → run_of n cap machine acts ≡ logs_appended n machine.logs (run_of n cap (unlogged n machine) acts)

-- a run tells at most so many events of a chip in each petit cycle
abbrev pub FewEventsAreLogged : Type 0
FewEventsAreLogged = (n cap : ℕ) (machine : Machine) (acts : List Act) (c : ℕ) → IsMachine n cap machine → c < 2 ^ n
    → length (nth_or_nil (run_of n cap machine acts).logs c)
    ≤ length (nth_or_nil machine.logs c) + cycles_in acts * (4 + cap)
