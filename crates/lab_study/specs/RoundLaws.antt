-- Routers that hold again what they held go round for ever: laws, each the contract of a function of its name. Ours.
use Rattle.std.specs.Prelude.{◌≡◌, ℕ, zero, suc, ◌+◌, ◌<◌, ◌^◌, true, Ok, List, [], ◌∷◌, ◌++◌, length, take, sum_by}
use Rattle.std.specs.List.{All, concat, range_with_len}
use Rattle.cm_bits.specs.Text.{number_cell, last_number_cell}
use Rattle.cm_model.specs.declared.act.Act.{Act}
use Rattle.cm_model.specs.declared.act.Act.TheVariants.{Cycle}
use Rattle.cm_model.specs.Machine.{Machine, run_of}
use Rattle.lab_study.specs.declared.holdings.Held.{Held}
use Rattle.lab_study.specs.Holdings.{held, same_holdings, holdings, event_count}
use Rattle.lab_study.specs.Repeats.{come_count, repeats_header, repeats_table}

-- the machine so many petit cycles on
abbrev pub cycles_on : ℕ → ℕ → Machine → ℕ → Machine
cycles_on n cap machine zero = machine
cycles_on n cap machine (suc count) = run_of n cap (cycles_on n cap machine count) (Cycle ∷ [])

-- so many petit cycles on, the next one takes nothing in and delivers nothing
abbrev pub IsStill : ℕ → ℕ → Machine → ℕ → Type 0
IsStill n cap machine count =
    event_count n (cycles_on n cap machine (suc count)) ≡ event_count n (cycles_on n cap machine count)

-- ---- routers go round

-- nothing is taken in and nothing delivered in a period, behind which the routers hold what they held
pub record IsRound (n cap period : ℕ) (machine : Machine) : Type 0 where
  pub buffers : length machine.buffers ≡ 2 ^ n
  pub some : 0 < period
  pub still : (count : ℕ) → count < period → IsStill n cap machine count
  pub same : same_holdings (holdings n (cycles_on n cap machine period)) (holdings n machine) ≡ true

-- so many petit cycles on, the next one takes nothing in and delivers nothing, and the routers hold then what they hold
-- a period later
pub record GoesRound (n cap period : ℕ) (machine : Machine) (count : ℕ) : Type 0 where
  pub still : IsStill n cap machine count
  pub same : holdings n (cycles_on n cap machine (count + period)) ≡ holdings n (cycles_on n cap machine count)

-- where a machine goes one round, it goes on so whatever number of petit cycles follows
abbrev pub RoutersGoRound : Type 0
RoutersGoRound = (n cap period : ℕ) (machine : Machine) → IsRound n cap period machine → (count : ℕ)
    → GoesRound n cap period machine count

-- ---- lines tell rounds

-- how often in a period a message stands at the chip that it is bound for
abbrev pub times_at_chips : ℕ → ℕ → ℕ → Machine → ℕ
times_at_chips n cap period machine =
    sum_by (λ count. come_count (holdings n (cycles_on n cap machine count))) (range_with_len 0 period)

-- the line of a round: the counter of petit cycles before it, how many petit cycles it has, how many messages stand,
-- and how often in it one stands at the chip that it is bound for
abbrev pub line_of_round : ℕ → ℕ → ℕ → Machine → List ℕ
line_of_round n cap period machine =
    number_cell machine.clock ++ number_cell period ++ number_cell (length (holdings n machine))
    ++ last_number_cell (times_at_chips n cap period machine)

-- the line tells a round that a machine goes by acts: from where it is behind so many of them, to where it is behind
-- so many
pub record TellsRound (n cap : ℕ) (machine : Machine) (acts : List Act) (line : List ℕ) : Type 0 where
  pub behind : ℕ
  pub until : ℕ
  pub period : ℕ
  pub first : Machine
  pub begins : first ≡ run_of n cap machine (take behind acts)
  pub ends : cycles_on n cap first period ≡ run_of n cap machine (take until acts)
  pub round : IsRound n cap period first
  pub told : line ≡ line_of_round n cap period first

-- behind the header each line of a text tells such a round
pub record AllTellRounds (n cap : ℕ) (machine : Machine) (acts : List Act) (text : List ℕ) : Type 0 where
  pub lines : List (List ℕ)
  pub whole : text ≡ repeats_header ++ concat lines
  pub each : All (TellsRound n cap machine acts) lines

-- so it is of each table of repeats
abbrev pub RepeatsTellRounds : Type 0
RepeatsTellRounds = (n cap : ℕ) (machine : Machine) (acts : List Act) (text : List ℕ) → length machine.buffers ≡ 2 ^ n
    → repeats_table n cap machine acts ≡ Ok text → AllTellRounds n cap machine acts text

-- ---- worked lines

-- a message to processor 3 of chip 2 that stands at chip c
abbrev pub wanderer : ℕ → ℕ → Held
wanderer c rel =
    held c (record { rel = rel; proc = 3; payload = 0; tag = record { chip = 0; proc = 0; birth = 8 } })
