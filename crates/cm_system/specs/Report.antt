-- What the program writes on standard error, and the status it ends with, by the number of the fault. Ours.
use Rattle.std.specs.Prelude.{ℕ, T, ◌==◌, ◌||◌, ◌&&◌, nat_le, if◌then◌else◌, Option, Some, None, List, []}
use Rattle.std.specs.Prelude.{◌++◌, codes, decimal, ◌<◌, length, take}
use Rattle.std.specs.Io.KnownBytes.{Appends}
pub use Rattle.cm_refusals.specs.Refusals.{name_of}

-- what is told of a fault: its number and its name
abbrev pub fault_text : ℕ → List ℕ
fault_text number = decimal number ++ codes " " ++ name_of number ++ codes "\n"

-- faults of a program text are told with their line
abbrev pub HasLine : ℕ → Type 0
HasLine number = T (number == 1 || number == 2 || nat_le 10 number && nat_le number 20)

-- where a fault stands, if it stands in a line
abbrev pub line_place : Option ℕ → List ℕ
line_place None = []
line_place (Some line) = codes "line " ++ decimal line ++ codes ": "

-- a bad command line
abbrev pub BAD_LINE : ℕ
BAD_LINE = 38

-- the line on standard error
abbrev pub report_line : ℕ → Option ℕ → List ℕ
report_line number line =
    if number == BAD_LINE then codes "cm1: bad command line\n"
    else codes "cm1: " ++ line_place line ++ fault_text number

-- the exit status: 2 for a bad command line, 3 for want of memory or of a thread, 4 for a read or a write, else 1
abbrev pub status_of : ℕ → ℕ
status_of number =
    if number == BAD_LINE then 2
    else (if number == 8 || number == 9 || number == 14 || number == 33 then 3
    else (if number == 30 || number == 31 then 4 else 1))

-- only the first bytes of a text were written
pub record HasFront (out_before out_after : Option (List ℕ)) (text : List ℕ) : Type 0 where
  pub count : ℕ
  pub short : count < length text
  pub written : Appends out_before out_after (take count text)
