-- What the program does for a command line. Ours.
use Rattle.std.specs.Prelude.{Result, List, string_bytes}
use Rattle.cm_args.specs.declared.line.Line.{Line}
use Rattle.cm_args.specs.declared.line.Line.TheVariants as line
use Rattle.cm_system.specs.declared.program_fault.ProgramFault.{ProgramFault}
use Rattle.cm_system.specs.Trace.{IoEvent}
use Rattle.cm_system.specs.InputFiles.{Reads}
use Rattle.cm_system.specs.Streams.{Streams, IsUnread, IsUntouched}
use Rattle.cm_tools.specs.Tools.{IsChipTrace, IsFreshTrace, IsListTrace}
use Rattle.cm_run.specs.Runs.{IsRunTrace}
use Rattle.cm_tools.specs.Weaving.{outgoing_of}
use Rattle.cm_tools.specs.Weaves.{IsWeaveTrace}

-- what the program does for a line
abbrev pub IsLineTrace : {F P : Type 0} → Reads F → Line → Streams → Result (Unit {0}) ProgramFault → List (IoEvent F P)
    → Type 0
IsLineTrace reads line.Chip streams result trace = IsChipTrace streams result trace
IsLineTrace reads (line.List program) streams result trace =
    IsUnread streams
    × IsListTrace reads (string_bytes program) streams.out_before streams.out_after streams.write_failed result trace
IsLineTrace reads (line.Fresh n cap file) streams result trace =
    IsUntouched streams × IsFreshTrace n cap (string_bytes file) result trace
IsLineTrace reads (line.Run image program split workers out) streams result trace =
    IsRunTrace reads
    (record {
      image = image;
      program = program;
      sharing = record { split = split; workers = workers };
      out = out;
    }) streams result trace
IsLineTrace reads (line.Weave image program steps split out) streams result trace =
    IsUnread streams
    × IsWeaveTrace reads
    (record { image = image; program = program; steps = steps; split = split; out = out })
    (outgoing_of streams.out_before streams.out_after streams.write_failed) result trace
