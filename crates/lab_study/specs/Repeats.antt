-- Routers that come to hold again what they held, while nothing is taken in and nothing is delivered. Ours.
use Rattle.std.specs.Prelude.{ℕ, ◌-◌, ◌==◌, ◌&&◌, Bool, true, false, not, Option, Some, None, Result, Ok, Err}
use Rattle.std.specs.Prelude.{List, [], ◌∷◌, ◌++◌, codes, drop, length, sum_by, if◌then◌else◌}
use Rattle.std.specs.List.{count_by, position}
use Rattle.cm_bits.specs.Text.{number_cell, last_number_cell}
use Rattle.cm_model.specs.declared.act.Act.{Act}
use Rattle.cm_model.specs.declared.act.Act.TheVariants.{Nano, Sense, Cycle}
use Rattle.cm_model.specs.Array.{nth_or_nil}
use Rattle.cm_model.specs.Letters.{has_arrived}
use Rattle.cm_model.specs.Machine.{Machine, run_of}
use Rattle.lab_study.specs.declared.holdings.Held.{Held}
use Rattle.lab_study.specs.declared.repeating.Calm.{Calm}
use Rattle.lab_study.specs.declared.studies.StudyFault.{StudyFault}
use Rattle.lab_study.specs.declared.studies.StudyFault.TheVariants.{Clock}
use Rattle.lab_study.specs.Holdings.{same_holdings, holdings, event_count}
use Rattle.lab_study.specs.Study.{act_lacks_room, study_preceded_by}

-- ---- a calm: petit cycles one after another in which nothing is taken in and nothing delivered

-- none has begun
abbrev pub no_calm : Calm
no_calm = record { times = []; told = false }

-- a petit cycle that led from one machine to another took nothing in and delivered nothing, and messages stand
abbrev pub is_calm : ℕ → Machine → Machine → Bool
is_calm n before after = event_count n after == event_count n before && not (length (holdings n after) == 0)

-- what the routers held before its first petit cycle and after each, where another is to come next on this machine
abbrev pub times_before : ℕ → List (List Held) → Machine → List (List Held)
times_before n times machine = if length times == 0 then holdings n machine ∷ [] else times

-- the first of these times at which they held what they hold now
abbrev pub place_of : List Held → List (List Held) → Option ℕ
place_of now times = position (λ time. same_holdings time now) times

-- at the chip that it is bound for
abbrev pub is_at_its_chip : Held → Bool
is_at_its_chip h = has_arrived h.message

-- of messages, how many stand there
abbrev pub come_count : List Held → ℕ
come_count now = count_by is_at_its_chip now

-- the line of a round that ended at this count of petit cycles: at which count it began, how many petit cycles it has,
-- how many messages stand, and how often in it one stands at the chip that it is bound for
unfoldable pub round_line : ℕ → List (List Held) → List ℕ
round_line clock round = number_cell (clock - length round) ++ number_cell (length round)
    ++ number_cell (length (nth_or_nil round 0)) ++ last_number_cell (sum_by come_count round)

-- what is told where the routers hold what they held at a place of these times
abbrev pub repeat_text : ℕ → List (List Held) → Option ℕ → List ℕ
repeat_text clock times None = []
repeat_text clock times (Some place) = round_line clock (drop place times)

-- what is kept then: it is told once
abbrev pub calm_to : Calm → List Held → Option ℕ → Calm
calm_to calm now None = record calm { times = calm.times ++ now ∷ [] }
calm_to calm now (Some place) = record { times = []; told = true }

-- ---- a petit cycle that led from one machine to another

-- with what the routers held before it
abbrev pub calm_before : ℕ → Calm → Machine → Calm
calm_before n calm machine = record calm { times = times_before n calm.times machine }

-- what a calm tells that goes on with it
abbrev pub calm_text : ℕ → Calm → Machine → List ℕ
calm_text n calm after = repeat_text after.clock calm.times (place_of (holdings n after) calm.times)

-- what is told
abbrev pub cycle_repeat : ℕ → Calm → Machine → Machine → List ℕ
cycle_repeat n calm before after =
    if calm.told then []
    else if is_calm n before after then calm_text n (calm_before n calm before) after
    else []

-- what is kept
abbrev pub calm_after_cycle : ℕ → Calm → Machine → Machine → Calm
calm_after_cycle n calm before after =
    if calm.told then calm
    else if is_calm n before after
    then calm_to (calm_before n calm before) (holdings n after)
    (place_of (holdings n after) (times_before n calm.times before))
    else no_calm

-- ---- acts: an instruction may change who sends and who receives, and a calm ends with it

-- what is told of one
abbrev pub act_repeat : ℕ → Calm → Act → Machine → Machine → List ℕ
act_repeat n calm Cycle before after = cycle_repeat n calm before after
act_repeat n calm Sense before after = []
act_repeat n calm (Nano nano) before after = []

-- what is kept
abbrev pub calm_after : ℕ → Calm → Act → Machine → Machine → Calm
calm_after n calm Cycle before after = calm_after_cycle n calm before after
calm_after n calm Sense before after = calm
calm_after n calm (Nano nano) before after = no_calm

-- what acts tell, one after another; or the counter has no room for one of them
unfoldable pub repeats_from : ℕ → ℕ → Calm → Machine → List Act → Result (List ℕ) StudyFault
repeats_from n cap calm machine [] = Ok []
repeats_from n cap calm machine (act ∷ acts) =
    if act_lacks_room machine.clock act then Err Clock
    else study_preceded_by (act_repeat n calm act machine (run_of n cap machine (act ∷ [])))
    (repeats_from n cap (calm_after n calm act machine (run_of n cap machine (act ∷ [])))
    (run_of n cap machine (act ∷ [])) acts)

-- the first line
abbrev pub repeats_header : List ℕ
repeats_header = codes "from,period,standing,arrived\n"

-- the table of a program of these acts
unfoldable pub repeats_table : ℕ → ℕ → Machine → List Act → Result (List ℕ) StudyFault
repeats_table n cap machine acts = study_preceded_by repeats_header (repeats_from n cap no_calm machine acts)
