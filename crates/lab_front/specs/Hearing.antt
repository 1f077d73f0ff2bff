-- Bytes of lines as they come, and how a line breaks off. Ours.
use Rattle.std.specs.Prelude.{◌≡◌, ℕ, ◌+◌, ◌-◌, ◌≤◌, ◌⊎◌, Option, List, ◌++◌, length}
use Rattle.std.specs.Io.KnownBytes.{Appends, Consumes, IsAtEnd, Keeps}
use Rattle.cm_model.specs.Machine.{Machine}
use Rattle.cm_session.specs.declared.fault.SessionFault.{SessionFault}
use Rattle.cm_session.specs.declared.fault.SessionFault.TheVariants.{Read, Write, TooMuch, Memory, NoThread}
use Rattle.cm_session.specs.Reading.{ConsumesAtMost}
use Rattle.cm_debug.specs.BufferedOutput.{IsShortWriteAfter}
use Rattle.lab_front.specs.Front.{Front, front_after_line}
use Rattle.lab_front.specs.Ends.{LINE_LIMIT}

-- after so many bytes more were taken from a source, and stand behind the rest
pub record HasHeard (before after : Option (List ℕ)) (rest heard : List ℕ) (count : ℕ) : Type 0 where
  pub bytes : List ℕ
  pub consumed : Consumes before after bytes
  pub heard_is : heard ≡ rest ++ bytes
  pub count_is : count ≡ length bytes
  pub within : length heard ≤ LINE_LIMIT + 1
  pub few : count ≤ 65536
  pub end : count ≡ 0 → IsAtEnd after

-- why no more is heard behind the rest; where memory is wanting, bytes that were taken are lost
abbrev pub HearingStops : Option (List ℕ) → Option (List ℕ) → List ℕ → SessionFault → Type 0
HearingStops before after rest Read = Keeps before after
HearingStops before after rest Memory = ConsumesAtMost (LINE_LIMIT + 1 - length rest) before after
HearingStops before after rest TooMuch = ⊥
HearingStops before after rest (Write count) = ⊥
HearingStops before after rest NoThread = ⊥

-- how a line breaks off: before it, with what was gathered written or a front of that; or after it, with a front
-- written
abbrev pub LineAborts : ℕ → ℕ → Front → List ℕ → ℕ → List ℕ → Option (List ℕ) → Machine → Option (List ℕ)
    → SessionFault → Type 0
LineAborts n cap front line sent kept out_before machine out_after (Write count) =
    ((machine ≡ front.machine) × IsShortWriteAfter sent kept out_before out_after count)
    ⊎ ((machine ≡ (front_after_line n cap front line).front.machine)
    × IsShortWriteAfter sent (kept ++ (front_after_line n cap front line).answer) out_before out_after count)
LineAborts n cap front line sent kept out_before machine out_after Memory = (machine ≡ front.machine) × Appends out_before out_after kept
LineAborts n cap front line sent kept out_before machine out_after NoThread = (machine ≡ front.machine) × Appends out_before out_after kept
LineAborts n cap front line sent kept out_before machine out_after Read = ⊥
LineAborts n cap front line sent kept out_before machine out_after TooMuch = ⊥
