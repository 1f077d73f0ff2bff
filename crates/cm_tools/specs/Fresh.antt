-- Why `fresh` writes no image. Ours.
use Rattle.std.specs.Prelude.{ℕ, ◌==◌, ◌||◌, nat_lt, Option, Some, None, if◌then◌else◌}
use Rattle.cm_system.specs.declared.program_fault.ProgramFault.{ProgramFault}
use Rattle.cm_system.specs.declared.program_fault.ProgramFault.TheVariants.{BadLine, Cap}

-- the dimension and the room are looked at as the command line does, then the program's own rooms, 1 and 7
abbrev pub program_fresh_fault : ℕ → ℕ → Option ProgramFault
program_fresh_fault n cap =
    if nat_lt 12 n || (cap == 0 || nat_lt 15 cap) then Some BadLine
    else if cap == 1 || cap == 7 then None else Some Cap
