-- Answers on their way to a sink: ours.
use Rattle.std.specs.Prelude.{◌≡◌, ℕ, ◌+◌, ◌<◌, Option, List, length, take}
use Rattle.std.specs.Io.KnownBytes.{Appends, append_known}
use Rattle.cm_session.specs.declared.fault.SessionFault.{SessionFault}
use Rattle.cm_session.specs.declared.fault.SessionFault.TheVariants.{Write, Memory, NoThread}
use Rattle.cm_debug.specs.declared.buffered_output.BufferedOutput.{BufferedOutput}

-- the bytes of a sink, and behind them those that are gathered
abbrev pub with_gathered : Option (List ℕ) → BufferedOutput → Option (List ℕ)
with_gathered out_after gathered = append_known out_after gathered.bytes.items

-- how many bytes were answered: those that went out, and those that are gathered
abbrev pub answered_bytes : BufferedOutput → ℕ
answered_bytes gathered = gathered.sent + length gathered.bytes.items

-- a front of a text was written, and the count of bytes is those before it and its own
pub record IsShortWriteAfter (sent : ℕ) (text : List ℕ) (out_before out_after : Option (List ℕ)) (count : ℕ) : Type 0 where
  pub part : ℕ
  pub count_is : count ≡ sent + part
  pub within : part < length text
  pub written : Appends out_before out_after (take part text)

-- how a session breaks off between two lines: with a front of what is gathered written, or all of it
abbrev pub AbortsBetween : ℕ → List ℕ → Option (List ℕ) → Option (List ℕ) → SessionFault → Type 0
AbortsBetween sent kept out_before out_after (Write count) = IsShortWriteAfter sent kept out_before out_after count
AbortsBetween sent kept out_before out_after Memory = Appends out_before out_after kept
AbortsBetween sent kept out_before out_after NoThread = Appends out_before out_after kept
AbortsBetween sent kept out_before out_after _ = ⊥
