-- A study of a program: the table that tells each of its petit cycles, or each message. Ours.
use Rattle.std.specs.Prelude.{ℕ, ◌-◌, ◌^◌, ◌==◌, Bool, false, if◌then◌else◌, Result, Ok, Err, List, [], ◌∷◌, ◌++◌}
use Rattle.cm_model.specs.declared.act.Act.{Act}
use Rattle.cm_model.specs.declared.act.Act.TheVariants.{Nano, Sense, Cycle}
use Rattle.cm_model.specs.Machine.{Machine, run_of}
use Rattle.lab_study.specs.declared.studies.StudyFault.{StudyFault}
use Rattle.lab_study.specs.declared.studies.StudyFault.TheVariants.{Clock}
use Rattle.lab_study.specs.declared.studies.LinesOf.{LinesOf}
use Rattle.lab_study.specs.declared.studies.LinesOf.TheVariants.{Cycles, Messages}
use Rattle.lab_study.specs.declared.known.Known.{Known}
use Rattle.lab_study.specs.Counts.{log_lengths, counts_of}
use Rattle.lab_study.specs.Tables.{cycles_header, cycle_line, messages_header, delivered_text, standing_text}
use Rattle.lab_study.specs.Traces.{Traces, traces_after}

-- what stands between two acts: the machine, by chip how many of its events were told, and what is known of its messages
pub record Studied : Type 0 where
  pub machine : Machine
  pub told : List ℕ
  pub traces : Traces

-- a machine, and what is kept of it
abbrev pub studied : Machine → Known → Studied
studied machine known = record { machine = machine; told = known.told.items; traces = known.ways }

-- at the start of a study; a message that stands there then counts as if it had come straight
abbrev pub study_opening : ℕ → Machine → Studied
study_opening n machine =
    record { machine = machine; told = log_lengths n machine; traces = traces_after n [] machine }

-- after a petit cycle, which left this machine
abbrev pub one_cycle_on : ℕ → Studied → Machine → Studied
one_cycle_on n studied machine =
    record { machine = machine; told = log_lengths n machine; traces = traces_after n studied.traces machine }

-- what is told of a petit cycle at this count, which left this machine, where so many events were told by chip and
-- this was known before
abbrev pub study_cycle_text : ℕ → ℕ → LinesOf → ℕ → List ℕ → Traces → Machine → List ℕ
study_cycle_text n cap Cycles clock told traces machine = cycle_line clock (counts_of n cap told traces machine)
study_cycle_text n cap Messages clock told traces machine = delivered_text n clock told traces machine

-- the same, of what was studied so far
abbrev pub cycle_text : ℕ → ℕ → LinesOf → Studied → Machine → List ℕ
cycle_text n cap table before machine =
    study_cycle_text n cap table before.machine.clock before.told before.traces machine

-- what is told at the end
abbrev pub end_text : ℕ → LinesOf → Studied → List ℕ
end_text n Cycles studied = []
end_text n Messages studied = standing_text n studied.traces studied.machine

-- the first line
abbrev pub table_header : LinesOf → List ℕ
table_header Cycles = cycles_header
table_header Messages = messages_header

-- bytes, and what comes behind them
abbrev pub study_preceded_by : List ℕ → Result (List ℕ) StudyFault → Result (List ℕ) StudyFault
study_preceded_by first (Ok rest) = Ok (first ++ rest)
study_preceded_by first (Err fault) = Err fault

-- ---- acts

-- the act is a petit cycle, and the counter has no room for it
abbrev pub act_lacks_room : ℕ → Act → Bool
act_lacks_room clock Cycle = clock == 2 ^ 63 - 1
act_lacks_room clock Sense = false
act_lacks_room clock (Nano nano) = false

-- what is told of an act
abbrev pub act_text : ℕ → ℕ → LinesOf → Studied → Act → List ℕ
act_text n cap table studied Cycle = cycle_text n cap table studied (run_of n cap studied.machine (Cycle ∷ []))
act_text n cap table studied Sense = []
act_text n cap table studied (Nano nano) = []

-- after an act
abbrev pub one_act_on : ℕ → ℕ → Studied → Act → Studied
one_act_on n cap studied Cycle = one_cycle_on n studied (run_of n cap studied.machine (Cycle ∷ []))
one_act_on n cap studied Sense = record studied { machine = run_of n cap studied.machine (Sense ∷ []) }
one_act_on n cap studied (Nano nano) = record studied { machine = run_of n cap studied.machine (Nano nano ∷ []) }

-- what acts tell, one after another, and the end; or the counter has no room for one of them
unfoldable pub acts_table : ℕ → ℕ → LinesOf → Studied → List Act → Result (List ℕ) StudyFault
acts_table n cap table studied [] = Ok (end_text n table studied)
acts_table n cap table studied (act ∷ acts) =
    if act_lacks_room studied.machine.clock act then Err Clock
    else study_preceded_by (act_text n cap table studied act) (acts_table n cap table (one_act_on n cap studied act) acts)

-- the table of a program of these acts, on a machine of a cube of n dimensions whose routers have room for cap
-- messages each
unfoldable pub lines_table : ℕ → ℕ → LinesOf → Machine → List Act → Result (List ℕ) StudyFault
lines_table n cap table machine acts = study_preceded_by (table_header table) (acts_table n cap table (study_opening n machine) acts)
