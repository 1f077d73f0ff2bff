-- How a front end ends: what it took, what it wrote and the machine that it left, after each of its faults too. Ours.
use Rattle.std.specs.Prelude.{◌≡◌, ℕ, ◌+◌, ◌<◌, ◌≤◌, ◌⊎◌, Option, Result, Ok, Err, List, ◌++◌, length, sum_by, take}
use Rattle.std.specs.List.{All}
use Rattle.std.specs.Io.KnownBytes.{Appends, Consumes}
use Rattle.cm_bits.specs.Text.{lines_of}
use Rattle.cm_model.specs.Machine.{Machine}
use Rattle.cm_array.specs.Faults.{one_more_lacked}
use Rattle.cm_session.specs.declared.fault.SessionFault.{SessionFault}
use Rattle.cm_session.specs.declared.fault.SessionFault.TheVariants.{Read, Write, TooMuch, Memory, NoThread}
use Rattle.cm_session.specs.Ends.{ended_lines, open_line}
use Rattle.lab_front.specs.Front.{front_answers, front_left}

-- the most bytes of a line
abbrev pub LINE_LIMIT : ℕ
LINE_LIMIT = 16777216

-- the bytes of all lines after which no more are asked for: a counter has room for no more
abbrev pub ALL : ℕ
ALL = 9223372036854775808

-- no line has more bytes
abbrev pub AreShort : List (List ℕ) → Type 0
AreShort lines = All (λ line. length line ≤ LINE_LIMIT) lines

-- these lines are all answered, and the machine is that after them
pub record IsAnswered (n cap : ℕ) (start : Machine) (out_before : Option (List ℕ)) (lines : List (List ℕ))
    (machine : Machine) (out_after : Option (List ℕ)) : Type 0 where
  pub written : Appends out_before out_after (front_answers n cap start lines)
  pub machine_is : machine ≡ front_left n cap start lines

-- how many bytes lines have, each with its end
abbrev pub ended_size : List (List ℕ) → ℕ
ended_size lines = sum_by (λ line. length line + 1) lines

-- these are the first lines of a text, which goes on behind them by one byte more than a line may have at most
pub record AreLeadingLines (taken : List ℕ) (done : List (List ℕ)) : Type 0 where
  pub undone : List (List ℕ)
  pub lines_are : lines_of taken ≡ done ++ undone
  pub few : length taken ≤ ended_size done + (LINE_LIMIT + 1)

-- some lines of a text are done, and the machine is that after them; so many bytes of their answers are written, not all
pub record IsStopped (n cap : ℕ) (start : Machine) (out_before : Option (List ℕ)) (taken : List ℕ)
    (machine : Machine) (out_after : Option (List ℕ)) (count : ℕ) : Type 0 where
  pub done : List (List ℕ)
  pub first : AreLeadingLines taken done
  pub within : count < length (front_answers n cap start done)
  pub written : Appends out_before out_after (take count (front_answers n cap start done))
  pub machine_is : machine ≡ front_left n cap start done

-- some lines of a text are done and their answers written, and nothing of the others
pub record IsFrontAborted (n cap : ℕ) (start : Machine) (out_before : Option (List ℕ)) (taken : List ℕ)
    (machine : Machine) (out_after : Option (List ℕ)) : Type 0 where
  pub done : List (List ℕ)
  pub first : AreLeadingLines taken done
  pub answered : IsAnswered n cap start out_before done machine out_after

-- how a front end ends that took this text
abbrev pub EndsOver : ℕ → ℕ → List ℕ → Machine → Option (List ℕ) → Machine → Option (List ℕ)
    → Result (Unit {0}) SessionFault → Type 0
EndsOver n cap taken start out_before machine out_after (Ok done) =
    AreShort (lines_of taken) × IsAnswered n cap start out_before (lines_of taken) machine out_after
EndsOver n cap taken start out_before machine out_after (Err Read) =
    AreShort (ended_lines taken) × (length (open_line taken) ≤ LINE_LIMIT)
    × IsAnswered n cap start out_before (ended_lines taken) machine out_after
EndsOver n cap taken start out_before machine out_after (Err (Write count)) =
    IsStopped n cap start out_before taken machine out_after count
EndsOver n cap taken start out_before machine out_after (Err TooMuch) =
    AreShort (ended_lines taken) × ((LINE_LIMIT < length (open_line taken)) ⊎ (ALL ≤ length taken))
    × (length (open_line taken) ≤ LINE_LIMIT + 1) × IsAnswered n cap start out_before (ended_lines taken) machine out_after
EndsOver n cap taken start out_before machine out_after (Err Memory) =
    IsFrontAborted n cap start out_before taken machine out_after
EndsOver n cap taken start out_before machine out_after (Err NoThread) =
    IsFrontAborted n cap start out_before taken machine out_after

-- it took a text from its source, the known bytes of which began with it, and ended so
pub record Ends (n cap : ℕ) (before after : Option (List ℕ)) (start : Machine) (out_before : Option (List ℕ))
    (machine : Machine) (out_after : Option (List ℕ)) (result : Result (Unit {0}) SessionFault) : Type 0 where
  pub taken : List ℕ
  pub consumed : Consumes before after taken
  pub over : EndsOver n cap taken start out_before machine out_after result

-- how often its runner lacked a thread, before and after: once more where that is the fault; after a failed write, which
-- may come in place of that fault, once more or as before; else as before
abbrev pub CountsFrontLacks : ℕ → ℕ → Result (Unit {0}) SessionFault → Type 0
CountsFrontLacks before after (Ok done) = after ≡ before
CountsFrontLacks before after (Err Read) = after ≡ before
CountsFrontLacks before after (Err (Write count)) = (after ≡ before) ⊎ (after ≡ one_more_lacked before)
CountsFrontLacks before after (Err TooMuch) = after ≡ before
CountsFrontLacks before after (Err Memory) = after ≡ before
CountsFrontLacks before after (Err NoThread) = after ≡ one_more_lacked before
