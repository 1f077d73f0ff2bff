-- What the laboratory does with an image: the text that it tells, or the image that it leaves. Ours.
use Rattle.std.specs.Prelude.{◌≡◌, ℕ, Option, Some, None, Result, Ok, Err, List, if◌then◌else◌}
use Rattle.cm_bits.specs.declared.field.FieldFault.{FieldFault}
use Rattle.cm_bits.specs.Field.{field_fault}
use Rattle.cm_model.specs.Place.{rows, columns}
use Rattle.cm_model.specs.declared.act.Act.{Act}
use Rattle.cm_model.specs.declared.message.Tag.{Tag}
use Rattle.cm_model.specs.Machine.{Machine}
use Rattle.cm_language.specs.declared.fault.AsmFault.{AsmFault}
use Rattle.cm_language.specs.Program.{ProgramText, program_of}
use Rattle.lab_study.specs.declared.studies.StudyFault.{StudyFault}
use Rattle.lab_study.specs.declared.studies.StudyFault.TheVariants as study
use Rattle.lab_study.specs.Studies.{study_table}
use Rattle.lab_study.specs.declared.studies.Table.{Table}
use Rattle.lab_route.specs.declared.routes.Excerpt.{Excerpt}
use Rattle.lab_route.specs.declared.routes.RouteFault.{RouteFault}
use Rattle.lab_machine.specs.declared.machine.RoomFault.{RoomFault}
use Rattle.lab_machine.specs.Machines.{room_fault}
use Rattle.lab_route.specs.Routes.{route_of}
use Rattle.cm_image_format.specs.Whole.{text_of}
use Rattle.cm_sizes.specs.declared.opening.OpenFault.{OpenFault}
use Rattle.cm_sizes.specs.declared.opening.OpenFault.TheVariants as unopened
use Rattle.cm_array.specs.Sizes.{SizedMachine}
use Rattle.cm_sizes.specs.Opening.{image_opened}
use Rattle.lab_figures.specs.declared.numbers.NumbersFault.{NumbersFault}
use Rattle.lab_data.specs.declared.lab.Task.{Task}
use Rattle.lab_data.specs.declared.lab.Task.TheVariants.{Get, Flags, Put, Show, Paint, Study, Route}
use Rattle.lab_data.specs.declared.lab.LabFault.{LabFault}
use Rattle.lab_data.specs.declared.lab.LabFault.TheVariants.{Image, Room, Numbers, Wide, Picture, Greatest, Field}
use Rattle.lab_data.specs.declared.lab.LabFault.TheVariants.{Program, Clock, NoRoute, NoRoom, Memory}
use Rattle.lab_data.specs.declared.order.Order.TheVariants.{Rows as by_rows}
use Rattle.lab_data.specs.Data.{processors, width_in, numbers_of, flags_of, machine_with_numbers}
use Rattle.lab_data.specs.Pictures.{is_narrow, machine_picture, depth_of_greatest}
use Rattle.lab_figures.specs.declared.picture_reading.PictureFault.{PictureFault}
use Rattle.lab_figures.specs.Numbers.{numbers_in, numbers_text}
use Rattle.lab_figures.specs.Pictures.{Dots}
use Rattle.lab_figures.specs.Looks.{look_bytes}
use Rattle.lab_figures.specs.PictureReading.{picture_in}

-- what is made of numbers, if they are those that are wanted
abbrev pub of_numbers : (List ℕ → List ℕ) → Result (List ℕ) NumbersFault → Result (List ℕ) LabFault
of_numbers made (Ok numbers) = Ok (made numbers)
of_numbers made (Err fault) = Err (Numbers fault)

-- the image of the machine with the dots of a picture in a field, if there is such a field
abbrev pub of_field : (List ℕ) → Option FieldFault → Result (List ℕ) LabFault
of_field image None = Ok image
of_field image (Some fault) = Err (Field fault)

-- the same, if the greatest number of a dot is that of a field
abbrev pub of_bits : (ℕ → List ℕ) → ℕ → Dots → Option ℕ → Result (List ℕ) LabFault
of_bits image at picture (Some len) = of_field (image len) (field_fault at len)
of_bits image at picture None = Err (Greatest picture.greatest)

-- the same, if it is a picture
abbrev pub of_picture : ℕ → ℕ → ℕ → Machine → Result Dots PictureFault → Result (List ℕ) LabFault
of_picture n cap at machine (Ok picture) =
    of_bits (λ len. text_of n cap (machine_with_numbers n by_rows at len picture.dots machine)) at picture
    (depth_of_greatest picture.greatest)
of_picture n cap at machine (Err fault) = Err (Picture fault)

-- a text that is no picture is refused with this fault
abbrev pub IsNoPicture : Result Dots PictureFault → LabFault → Type 0
IsNoPicture read fault = (n cap at : ℕ) (machine : Machine) → of_picture n cap at machine read ≡ Err fault

-- the table of a study, if there is one
abbrev pub of_table : Result (List ℕ) StudyFault → Result (List ℕ) LabFault
of_table (Ok text) = Ok text
of_table (Err study.Clock) = Err Clock
of_table (Err study.Memory) = Err Memory

-- the route of a message, if there is one
abbrev pub of_route : Result (List ℕ) RouteFault → Result (List ℕ) LabFault
of_route (Ok text) = Ok text
of_route (Err fault) = Err (NoRoute fault)

-- what is made of a program, if it is one
abbrev pub of_program : (List Act → Result (List ℕ) LabFault) → Result ProgramText AsmFault → Result (List ℕ) LabFault
of_program made (Ok program) = made program.acts
of_program made (Err fault) = Err (Program fault)

-- the table of a program on a machine of these sizes
abbrev pub study_made : Machine → Table → List ℕ → ℕ → ℕ → Result (List ℕ) LabFault
study_made machine table given n cap =
    of_program (λ acts. of_table (study_table n cap table machine acts)) (program_of given)

-- and the route of a message
abbrev pub route_made : Machine → Excerpt → Tag → List ℕ → ℕ → ℕ → Result (List ℕ) LabFault
route_made machine excerpt tag given n cap =
    of_program (λ acts. of_route (route_of n cap excerpt tag machine acts)) (program_of given)

-- what is made at a room, if it has no fault
abbrev pub unless_no_room : Option RoomFault → Result (List ℕ) LabFault → Result (List ℕ) LabFault
unless_no_room None made = made
unless_no_room (Some fault) made = Err (NoRoom fault)

-- what is made on a machine whose routers have the room that is given, or else their own
abbrev pub at_room : ℕ → ℕ → Option ℕ → Machine → (ℕ → ℕ → Result (List ℕ) LabFault) → Result (List ℕ) LabFault
at_room n cap None machine made = made n cap
at_room n cap (Some room) machine made = unless_no_room (room_fault room machine.buffers) (made n room)

-- what a task makes of a machine on a cube of n dimensions whose routers have room for cap messages each,
-- and of what is given
abbrev pub work_of : ℕ → ℕ → Task → List ℕ → Machine → Result (List ℕ) LabFault
work_of n cap (Get order field) given machine =
    Ok (numbers_text (width_in n order) 0 (numbers_of n order field.at field.len machine.chips))
work_of n cap (Flags order number) given machine =
    Ok (numbers_text (width_in n order) 0 (flags_of n order number machine.chips))
work_of n cap (Put order field) given machine =
    of_numbers (λ numbers. text_of n cap (machine_with_numbers n order field.at field.len numbers machine))
    (numbers_in field.len (processors n) given)
work_of n cap (Show shown look) given machine =
    if is_narrow shown then Ok (look_bytes look (machine_picture n cap shown machine)) else Err Wide
work_of n cap (Paint at) given machine = of_picture n cap at machine (picture_in (columns n) (rows n) given)
work_of n cap (Study room table) given machine = at_room n cap room machine (study_made machine table given)
work_of n cap (Route room excerpt tag) given machine =
    at_room n cap room machine (route_made machine excerpt tag given)

-- what it makes of a machine of any size
abbrev pub work_on : Task → List ℕ → SizedMachine → Result (List ℕ) LabFault
work_on task given any = work_of any.n any.cap task given any.machine

-- why an image is refused
abbrev pub lab_refusal : OpenFault → LabFault
lab_refusal (unopened.Image fault) = Image fault
lab_refusal unopened.Room = Room

-- what is made of the machine of an image, if it is one
abbrev pub of_opened : Task → List ℕ → Result SizedMachine OpenFault → Result (List ℕ) LabFault
of_opened task given (Ok any) = work_on task given any
of_opened task given (Err fault) = Err (lab_refusal fault)

-- what a task makes of an image and of what is given; the image is judged first
unfoldable pub done_with : Task → List ℕ → List ℕ → Result (List ℕ) LabFault
done_with task given image = of_opened task given (image_opened image)
