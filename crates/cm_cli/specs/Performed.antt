-- What the program does from its first word to its last. Ours.
use Rattle.std.specs.Prelude.{◌≡◌, ◌⊎◌, ℕ, Bool, true, false, Option, Result, Ok, Err, Vec, String, List, [], ◌∷◌}
use Rattle.std.specs.Prelude.{◌++◌, map, string_bytes}
use Rattle.std.specs.declared.alloc.Global.{Global}
use Rattle.std.specs.Io.KnownBytes.{Appends}
use Rattle.cm_args.specs.declared.fault.LineFault.{LineFault}
use Rattle.cm_args.specs.declared.fault.LineFault.TheVariants.{BadLine}
use Rattle.cm_args.specs.declared.line.Line.{Line}
use Rattle.cm_args.specs.Lines.{AsksFor, IsBadLine}
use Rattle.cm_system.specs.declared.program_fault.ProgramFault.{ProgramFault}
use Rattle.cm_system.specs.ProgramFault.{of_line, reported_number, fault_line}
use Rattle.cm_system.specs.Report.{HasFront, report_line, status_of}
use Rattle.cm_system.specs.Trace.{IoEvent, Asked}
use Rattle.cm_system.specs.InputFiles.{Reads}
use Rattle.cm_system.specs.Streams.{Streams, IsUntouched}
use Rattle.cm_cli.specs.Lines.{IsLineTrace}

-- words that were asked for
abbrev pub asked_words : Vec (String Global) Global → List (List ℕ)
asked_words words = map string_bytes words.items

-- no line was made of these words: they are no command line, or memory ran out
pub record AreNoLine (words : Vec (String Global) Global) (fault : ProgramFault) : Type 0 where
  pub own : LineFault
  pub told : fault ≡ of_line own
  pub bad : own ≡ BadLine → IsBadLine (asked_words words)

-- why there is no line: the words could not be had, or they are no command line
abbrev pub HasNoLine : Result (Vec (String Global) Global) LineFault → ProgramFault → Type 0
HasNoLine (Ok words) fault = AreNoLine words fault
HasNoLine (Err own) fault = fault ≡ of_line own

-- the program asks for the words, and they are this line
pub record AsksLine {F P : Type 0} (line : Line) (trace : List (IoEvent F P)) : Type 0 where
  pub words : Vec (String Global) Global
  pub did : trace ≡ Asked (Ok words) ∷ []
  pub asks : AsksFor (asked_words words) line

-- the program asks for the words, and they make no line
pub record AsksNoLine {F P : Type 0} (fault : ProgramFault) (trace : List (IoEvent F P)) : Type 0 where
  pub words : Result (Vec (String Global) Global) LineFault
  pub did : trace ≡ Asked words ∷ []
  pub why : HasNoLine words fault

-- there is no line, and nothing more is touched
pub record IsEmptyTrace {F P : Type 0} (streams : Streams) (result : Result (Unit {0}) ProgramFault)
    (trace : List (IoEvent F P)) : Type 0 where
  pub fault : ProgramFault
  pub told : result ≡ Err fault
  pub asks : AsksNoLine fault trace
  pub untouched : IsUntouched streams

-- the words are a line, and the program does what the line asks for
pub record DoesAsAsked {F P : Type 0} (reads : Reads F) (streams : Streams) (result : Result (Unit {0}) ProgramFault)
    (trace : List (IoEvent F P)) : Type 0 where
  pub first : List (IoEvent F P)
  pub second : List (IoEvent F P)
  pub did : trace ≡ first ++ second
  pub line : Line
  pub asks : AsksLine line first
  pub does : IsLineTrace reads line streams result second

-- what the program does by its words: they make no line, or it does what their line asks for
abbrev pub IsWordsTrace : {F P : Type 0} → Reads F → Streams → Result (Unit {0}) ProgramFault → List (IoEvent F P) → Type 0
IsWordsTrace reads streams result trace =
    IsEmptyTrace streams result trace ⊎ DoesAsAsked reads streams result trace

-- what standard error takes, and the status, where the program ends so: nothing and 0 without a fault; else the
-- fault's line and its status, and 4 where that line could not be written
abbrev pub ReportsFault : Result (Unit {0}) ProgramFault → Option (List ℕ) → Option (List ℕ) → Bool → ℕ → Type 0
ReportsFault (Ok done) out_before out_after failed status = (out_after ≡ out_before) × (failed ≡ false) × (status ≡ 0)
ReportsFault (Err fault) out_before out_after false status =
    Appends out_before out_after (report_line (reported_number fault) (fault_line fault)) × (status ≡ status_of (reported_number fault))
ReportsFault (Err fault) out_before out_after true status =
    HasFront out_before out_after (report_line (reported_number fault) (fault_line fault)) × (status ≡ 4)

-- the whole program: what it does by its words, and what it tells
pub record Performs {F P : Type 0} (reads : Reads F) (streams : Streams) (out_before out_after : Option (List ℕ))
    (failed : Bool) (status : ℕ) (trace : List (IoEvent F P)) : Type 0 where
  pub result : Result (Unit {0}) ProgramFault
  pub does : IsWordsTrace reads streams result trace
  pub tells : ReportsFault result out_before out_after failed status
