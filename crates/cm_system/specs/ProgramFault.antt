-- The faults of the program by their numbers. Ours.
use Rattle.std.specs.Prelude.{ℕ, Option, Some, None}
use Rattle.cm_args.specs.declared.fault.LineFault.{LineFault}
use Rattle.cm_args.specs.declared.fault.LineFault.TheVariants as line
use Rattle.cm_image_format.specs.declared.fault.ImageFault.{ImageFault}
use Rattle.cm_image_format.specs.declared.fault.ImageFault.TheVariants as image
use Rattle.cm_image_load.specs.declared.pieces.SourceFault.TheVariants as source
use Rattle.cm_sizes.specs.declared.opening.OpenSourceFault.{OpenSourceFault}
use Rattle.cm_sizes.specs.declared.opening.OpenSourceFault.TheVariants as unopened
use Rattle.cm_session.specs.declared.fault.SessionFault.{SessionFault}
use Rattle.cm_session.specs.declared.fault.SessionFault.TheVariants as session
use Rattle.cm_weave.specs.declared.first.WorldFault.{WorldFault}
use Rattle.cm_weave.specs.declared.first.WorldFault.TheVariants as world
use Rattle.cm_weave_text.specs.declared.fault.WeaveFault.{WeaveFault}
use Rattle.cm_weave_text.specs.declared.fault.WeaveFault.TheVariants as weave
use Rattle.cm_refusals.specs.Refusals.{kind_number, image_number}
use Rattle.cm_system.specs.declared.system.PutFault.{PutFault}
use Rattle.cm_system.specs.declared.system.PutFault.TheVariants as put
use Rattle.cm_system.specs.declared.fault.ChipFault.{ChipFault}
use Rattle.cm_system.specs.declared.fault.ChipFault.TheVariants as chip
use Rattle.cm_system.specs.declared.read_all.TakeFault.{TakeFault}
use Rattle.cm_system.specs.declared.read_all.TakeFault.TheVariants as take
use Rattle.cm_system.specs.declared.program_fault.ProgramFault.{ProgramFault}
use Rattle.cm_system.specs.declared.program_fault.ProgramFault.TheVariants.{BadLine, Text, Image, Cap, Read, Write}
use Rattle.cm_system.specs.declared.program_fault.ProgramFault.TheVariants.{TooMuch, Memory, NoThread, Split, Workers}
use Rattle.cm_system.specs.declared.program_fault.ProgramFault.TheVariants.{Long, Clock, Unfinished}

-- the number of a fault
abbrev pub reported_number : ProgramFault → ℕ
reported_number BadLine = 38
reported_number (Text fault) = kind_number fault.kind
reported_number (Image fault) = image_number fault
reported_number Cap = 5
reported_number Read = 30
reported_number Write = 31
reported_number TooMuch = 32
reported_number Memory = 33
reported_number NoThread = 9
reported_number Split = 37
reported_number Workers = 36
reported_number Long = 6
reported_number Clock = 7
reported_number Unfinished = 35

-- the line of the text, if the fault stands in one
abbrev pub fault_line : ProgramFault → Option ℕ
fault_line BadLine = None
fault_line (Text fault) = Some fault.line
fault_line (Image fault) = None
fault_line Cap = None
fault_line Read = None
fault_line Write = None
fault_line TooMuch = None
fault_line Memory = None
fault_line NoThread = None
fault_line Split = None
fault_line Workers = None
fault_line Long = None
fault_line Clock = None
fault_line Unfinished = None

-- a session's fault as one of the program
abbrev pub of_chip : ChipFault → ProgramFault
of_chip (chip.Text fault) = Text fault
of_chip chip.Read = Read
of_chip (chip.Write count) = Write
of_chip chip.TooMuch = TooMuch
of_chip chip.Memory = Memory

-- a source that was not read to its end, as a fault of the program
abbrev pub of_take : TakeFault → ProgramFault
of_take take.Read = Read
of_take take.TooMuch = TooMuch
of_take take.Memory = Memory

-- a file that was not put where it was wanted, as a fault of the program
abbrev pub of_put : PutFault → ProgramFault
of_put put.Write = Write
of_put put.Memory = Memory

-- a fault of the command line as one of the program
abbrev pub of_line : LineFault → ProgramFault
of_line line.BadLine = BadLine
of_line line.Memory = Memory

-- a debugger session's fault as one of the program
abbrev pub of_session : SessionFault → ProgramFault
of_session session.Read = Read
of_session (session.Write count) = Write
of_session session.TooMuch = TooMuch
of_session session.Memory = Memory
of_session session.NoThread = NoThread

-- a fault of an image as one of the program: want of memory is told as any other
abbrev pub program_fault_of_image : ImageFault → ProgramFault
program_fault_of_image image.Memory = Memory
program_fault_of_image image.Short = Image image.Short
program_fault_of_image image.Magic = Image image.Magic
program_fault_of_image image.Version = Image image.Version
program_fault_of_image image.Shape = Image image.Shape
program_fault_of_image image.Order = Image image.Order
program_fault_of_image image.Count = Image image.Count
program_fault_of_image image.Value = Image image.Value
program_fault_of_image image.TagTwice = Image image.TagTwice
program_fault_of_image image.Extra = Image image.Extra

-- why no machine comes of an image that a source has, as a fault of the program
abbrev pub of_open : OpenSourceFault → ProgramFault
of_open (unopened.Source (source.Image fault)) = program_fault_of_image fault
of_open (unopened.Source source.Read) = Read
of_open (unopened.Source source.TooMuch) = TooMuch
of_open unopened.Room = Cap

-- why there is no world of a run, as a fault of the program
abbrev pub of_world : WorldFault → ProgramFault
of_world world.Long = Long
of_world world.Clock = Clock
of_world world.Split = Split
of_world world.Memory = Memory

-- why a world that is stepped is given up, as a fault of the program
abbrev pub of_weave : WeaveFault → ProgramFault
of_weave weave.Read = Read
of_weave (weave.Write count) = Write
of_weave weave.TooMuch = TooMuch
of_weave weave.Memory = Memory
of_weave weave.Unfinished = Unfinished
