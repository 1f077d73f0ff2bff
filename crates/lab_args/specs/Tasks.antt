-- What the words behind the name of a task's command ask for: ours.
use Rattle.std.specs.Prelude.{ℕ, ◌-◌, ◌^◌, ◌||◌, Bool, true, false, nat_lt, if◌then◌else◌}
use Rattle.std.specs.Prelude.{Option, Some, None, Result, Ok, Err}
use Rattle.std.specs.Prelude.{List, [], ◌∷◌, codes, bytes_eq}
use Rattle.cm_model.specs.declared.message.Tag.{Tag}
use Rattle.lab_figures.specs.declared.formats.Format.TheVariants.{Netpbm, Png, Colours}
use Rattle.lab_figures.specs.declared.looks.Look.{Look}
use Rattle.lab_figures.specs.declared.picture.Form.TheVariants.{Raw, Plain}
use Rattle.cm_bits.specs.Span.{Span}
use Rattle.lab_study.specs.declared.studies.Table.{Table}
use Rattle.lab_study.specs.declared.studies.Table.TheVariants.{Cycles, Messages, Repeats}
use Rattle.lab_data.specs.declared.lab.Task.{Task}
use Rattle.lab_data.specs.declared.lab.Task.TheVariants.{Get, Flags, Put, Show, Paint, Study, Route}
use Rattle.lab_data.specs.declared.order.Order.{Order}
use Rattle.lab_data.specs.declared.order.Order.TheVariants.{Chips, Rows}
use Rattle.lab_data.specs.declared.pictures.Shown.TheVariants as seen
use Rattle.lab_args.specs.declared.operands.Operand.TheVariants as operand
use Rattle.lab_args.specs.declared.tasks.RouteAsked.{RouteAsked}
use Rattle.lab_args.specs.Refusals.{Text, Refusal, Wanted, Words, ◌>>=◌}
use Rattle.lab_args.specs.Operands.{field, file_named, operand_below, palette_named, scale_of}
use Rattle.lab_args.specs.Requests.{Beside, Nothing, Numbers, Picture, Program, TaskAsked}

-- a task that tells
abbrev pub reporting_task : Task → Text → Beside → TaskAsked
reporting_task task image beside = record { task = task; image = image; beside = beside; out = None }

-- a task that leaves an image
abbrev pub left_by : Task → Text → Beside → Text → TaskAsked
left_by task image beside out = record { task = task; image = image; beside = beside; out = Some out }

-- a flag is told
abbrev pub flagged : Order → Text → Text → Result TaskAsked Refusal
flagged order image number =
    operand_below 16 operand.Flag number >>= λ flag. Ok (reporting_task (Flags order flag) image Nothing)

-- a field is told
abbrev pub field_shown : Order → Text → Text → Text → Result TaskAsked Refusal
field_shown order image at len = field at len >>= λ span. Ok (reporting_task (Get order span) image Nothing)

-- `get` and `rows`: IMAGE flag NUMBER, or IMAGE ADDRESS LENGTH
abbrev pub telling : Order → List Text → Result TaskAsked Refusal
telling order (image ∷ at ∷ len ∷ []) =
    if bytes_eq at (codes "flag") then flagged order image len else field_shown order image at len
telling order _ = Err Words

-- a field is filled with numbers
abbrev pub filled : Order → Text → Text → Text → Text → Result TaskAsked Refusal
filled order image at len out =
    field at len >>= λ span. file_named out >>= λ file. Ok (left_by (Put order span) image Numbers file)

-- IMAGE ADDRESS LENGTH OUT
abbrev pub filling_in : Order → List Text → Result TaskAsked Refusal
filling_in order (image ∷ at ∷ len ∷ out ∷ []) = filled order image at len out
filling_in order _ = Err Words

-- `put`: these, before which `--rows` may stand
abbrev pub filling : List Text → Result TaskAsked Refusal
filling [] = Err Words
filling (first ∷ rest) =
    if bytes_eq first (codes "--rows") then filling_in Rows rest else filling_in Chips (first ∷ rest)

-- how a picture is looked at where no option says otherwise
abbrev pub plain_look : Look
plain_look = record { format = Netpbm Raw; scale = 1; is_by_dots = false }

-- an option of a picture that stands alone
abbrev pub is_sign : Text → Bool
is_sign option =
    bytes_eq option (codes "--plain") || (bytes_eq option (codes "--png") || bytes_eq option (codes "--greatest"))

-- and what it says
abbrev pub with_sign : Look → Text → Look
with_sign look option =
    if bytes_eq option (codes "--plain") then record look { format = Netpbm Plain }
    else (if bytes_eq option (codes "--png") then record look { format = Png }
    else record look { is_by_dots = true })

-- an option of a picture behind which a word stands
abbrev pub is_setting : Text → Bool
is_setting option = bytes_eq option (codes "--scale") || bytes_eq option (codes "--palette")

-- and what both say
abbrev pub with_setting : Look → Text → Text → Result Look Refusal
with_setting look option word =
    if bytes_eq option (codes "--scale") then scale_of word >>= (λ k. Ok (record look { scale = k }))
    else palette_named word >>= (λ palette. Ok (record look { format = Colours palette }))

-- a picture of a flag
abbrev pub flag_pictured : Look → Text → Text → Result TaskAsked Refusal
flag_pictured look image number =
    operand_below 16 operand.Flag number >>= λ flag. Ok (reporting_task (Show (seen.Flag flag) look) image Nothing)

-- a picture of a field of at most 16 bits
abbrev pub span_pictured : Look → Text → Text → Span → Result TaskAsked Refusal
span_pictured look image len span =
    if nat_lt span.len 17 then Ok (reporting_task (Show (seen.Number span) look) image Nothing)
    else Err (Wanted operand.Depth len)

-- a picture of the field of these words
abbrev pub field_pictured : Look → Text → Text → Text → Result TaskAsked Refusal
field_pictured look image at len = field at len >>= λ span. span_pictured look image len span

-- IMAGE buffers, IMAGE flag NUMBER, or IMAGE ADDRESS LENGTH
abbrev pub picture_asked : Look → List Text → Result TaskAsked Refusal
picture_asked look (image ∷ what ∷ []) =
    if bytes_eq what (codes "buffers") then Ok (reporting_task (Show seen.Buffers look) image Nothing) else Err Words
picture_asked look (image ∷ at ∷ len ∷ []) =
    if bytes_eq at (codes "flag") then flag_pictured look image len else field_pictured look image at len
picture_asked look _ = Err Words

-- these, before which options may stand
abbrev pub looked_at : Look → List Text → Result TaskAsked Refusal
looked_at look [] = Err Words
looked_at look (option ∷ []) = Err Words
looked_at look (option ∷ word ∷ rest) =
    if is_sign option then looked_at (with_sign look option) (word ∷ rest)
    else (if is_setting option then with_setting look option word >>= (λ changed. looked_at changed rest)
    else picture_asked look (option ∷ word ∷ rest))

-- `picture`: the same from a plain look on
abbrev pub picturing : List Text → Result TaskAsked Refusal
picturing words = looked_at plain_look words

-- a picture is painted
abbrev pub painted : Text → Text → Text → Text → Result TaskAsked Refusal
painted image picture at out =
    operand_below (2 ^ 16) operand.Address at >>= λ at'. file_named out >>= λ file.
    Ok (left_by (Paint at') image (Picture picture) file)

-- `paint`: IMAGE PICTURE ADDRESS OUT
abbrev pub painting : List Text → Result TaskAsked Refusal
painting (image ∷ picture ∷ at ∷ out ∷ []) = painted image picture at out
painting _ = Err Words

-- the room that a word says
abbrev pub room_named : Text → Result (Option ℕ) Refusal
room_named word = operand_below (2 ^ 16) operand.Cap word >>= λ room. Ok (Some room)

-- IMAGE PROGRAM
abbrev pub studying_in : Option ℕ → Table → List Text → Result TaskAsked Refusal
studying_in room table (image ∷ program ∷ []) = Ok (reporting_task (Study room table) image (Program program))
studying_in room table _ = Err Words

-- an option that says what a study tells
abbrev pub is_table_option : Text → Bool
is_table_option word = bytes_eq word (codes "--messages") || bytes_eq word (codes "--repeats")

-- the table that it says
abbrev pub table_named : Text → Table
table_named word = if bytes_eq word (codes "--repeats") then Repeats else Messages

-- these, before which options may stand
abbrev pub studied_with : Option ℕ → Table → List Text → Result TaskAsked Refusal
studied_with room table [] = Err Words
studied_with room table (option ∷ []) = Err Words
studied_with room table (option ∷ word ∷ rest) =
    if is_table_option option then studied_with room (table_named option) (word ∷ rest)
    else (if bytes_eq option (codes "--room") then room_named word >>= (λ given. studied_with given table rest)
    else studying_in room table (option ∷ word ∷ rest))

-- `study`: the same, by petit cycle and with the machine's own room where nothing else is said
abbrev pub studying : List Text → Result TaskAsked Refusal
studying words = studied_with None Cycles words

-- the tag of a message: by the chip and the processor that sent it, and the petit cycle in which it was taken in
abbrev pub tag : Text → Text → Text → Result Tag Refusal
tag chip proc birth =
    operand_below (2 ^ 16) operand.Chip chip >>= λ chip'. operand_below 16 operand.Proc proc >>= λ proc'.
    operand_below (2 ^ 64) operand.Cycle birth >>= λ birth'.
    Ok (record { chip = chip'; proc = proc'; birth = birth' })

-- CHIP PROC CYCLE
abbrev pub sender_words : List Text → Result Tag Refusal
sender_words (chip ∷ proc ∷ birth ∷ []) = tag chip proc birth
sender_words _ = Err Words

-- the way of a message is told
abbrev pub routed : RouteAsked → Text → Text → List Text → Result TaskAsked Refusal
routed asked image program words =
    sender_words words >>= λ sent. Ok (reporting_task (Route asked.room asked.excerpt sent) image (Program program))

-- an option of a route behind which a word stands
abbrev pub is_route_setting : Text → Bool
is_route_setting option =
    bytes_eq option (codes "--from") || (bytes_eq option (codes "--to") || bytes_eq option (codes "--room"))

-- and what both say
abbrev pub with_route_setting : RouteAsked → Text → Text → Result RouteAsked Refusal
with_route_setting asked option word =
    if bytes_eq option (codes "--from")
    then operand_below (2 ^ 64) operand.Bound word >>= (λ from.
    Ok (record asked { excerpt = record asked.excerpt { from = from } }))
    else (if bytes_eq option (codes "--to")
    then operand_below (2 ^ 64) operand.Bound word >>= (λ to.
    Ok (record asked { excerpt = record asked.excerpt { to = to } }))
    else room_named word >>= (λ room. Ok (record asked { room = room })))

-- why the message waits is told too
abbrev pub with_waits : RouteAsked → RouteAsked
with_waits asked = record asked { excerpt = record asked.excerpt { waits = true } }

-- IMAGE PROGRAM CHIP PROC CYCLE, before which options may stand
abbrev pub routed_with : RouteAsked → List Text → Result TaskAsked Refusal
routed_with asked [] = Err Words
routed_with asked (option ∷ []) = Err Words
routed_with asked (option ∷ word ∷ rest) =
    if bytes_eq option (codes "--why") then routed_with (with_waits asked) (word ∷ rest)
    else (if is_route_setting option
    then with_route_setting asked option word >>= (λ changed. routed_with changed rest)
    else routed asked option word rest)

-- the whole route, with the machine's own room
abbrev pub whole_route : RouteAsked
whole_route = record { room = None; excerpt = record { from = 0; to = 2 ^ 64 - 1; waits = false } }

-- `route`: the same, of the whole route where nothing else is said
abbrev pub routing : List Text → Result TaskAsked Refusal
routing words = routed_with whole_route words

-- the task of a command
abbrev pub task_of : Text → List Text → Result TaskAsked Refusal
task_of command words =
    if bytes_eq command (codes "get") then telling Chips words
    else (if bytes_eq command (codes "rows") then telling Rows words
    else (if bytes_eq command (codes "put") then filling words
    else (if bytes_eq command (codes "picture") then picturing words
    else (if bytes_eq command (codes "paint") then painting words
    else (if bytes_eq command (codes "study") then studying words
    else (if bytes_eq command (codes "route") then routing words
    else Err Words))))))
