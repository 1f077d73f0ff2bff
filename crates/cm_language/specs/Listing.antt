-- The listing of a program, which is itself a program text: ours.
use Rattle.std.specs.Prelude.{ℕ, ◌+◌, ◌/◌, ◌%◌, nat_lt, if◌then◌else◌, Result, Ok, Err, List, [], ◌∷◌, ◌++◌, flat_map}
use Rattle.std.specs.Prelude.{codes, decimal}
use Rattle.cm_bits.specs.Bit.{bit_number}
use Rattle.cm_bits.specs.declared.plane.Dir.{Dir}
use Rattle.cm_bits.specs.declared.plane.Dir.TheVariants.{North, East, West, South}
use Rattle.cm_model.specs.declared.act.Nano.{Nano}
use Rattle.cm_model.specs.declared.act.Act.{Act}
use Rattle.cm_model.specs.declared.act.Act.TheVariants as act
use Rattle.cm_language.specs.Names.{NamedField}
use Rattle.cm_language.specs.declared.fault.AsmFault.{AsmFault}
use Rattle.cm_language.specs.Program.{ProgramText, program_of}

-- a hexadecimal digit, lower case
abbrev pub hex_digit : ℕ → ℕ
hex_digit digit = if nat_lt digit 10 then 48 + digit else 87 + digit

-- a truth table: `0x` and two digits
abbrev pub table_word : ℕ → List ℕ
table_word table = 48 ∷ 120 ∷ hex_digit (table / 16) ∷ hex_digit (table % 16) ∷ []

-- a direction
abbrev pub direction_word : Dir → List ℕ
direction_word North = codes "n"
direction_word East = codes "e"
direction_word West = codes "w"
direction_word South = codes "s"

-- the words of an instruction
abbrev pub nano_words : Nano → List (List ℕ)
nano_words nano =
    codes "nano" ∷ decimal nano.a ∷ decimal nano.b ∷ decimal nano.read ∷ decimal nano.write ∷ decimal nano.cond
    ∷ decimal (bit_number nano.sense) ∷ table_word nano.mem_table ∷ table_word nano.flag_table
    ∷ direction_word nano.dir ∷ []

-- the words of an act
abbrev pub act_words : Act → List (List ℕ)
act_words (act.Nano nano) = nano_words nano
act_words act.Cycle = codes "cycle" ∷ []
act_words act.Sense = codes "sense" ∷ []

-- the words of a definition
abbrev pub field_words : NamedField → List (List ℕ)
field_words defined = codes "field" ∷ defined.name ∷ decimal defined.field.at ∷ decimal defined.field.len ∷ []

-- words and one space between them
abbrev pub spaced : List (List ℕ) → List ℕ
spaced [] = []
spaced (word ∷ []) = word
spaced (word ∷ next ∷ words) = word ++ 32 ∷ spaced (next ∷ words)

-- the line of a definition
unfoldable pub field_line : NamedField → List ℕ
field_line defined = spaced (field_words defined) ++ 10 ∷ []

-- the line of an act, with its index as a comment
unfoldable pub act_line : ℕ → Act → List ℕ
act_line i a = spaced (act_words a) ++ 32 ∷ 59 ∷ 32 ∷ decimal i ++ 10 ∷ []

-- the lines of acts, numbered from here on
abbrev pub act_lines : ℕ → List Act → List ℕ
act_lines i [] = []
act_lines i (a ∷ acts) = act_line i a ++ act_lines (i + 1) acts

-- the fields in order of definition, then the acts
unfoldable pub listing : ProgramText → List ℕ
listing program = flat_map field_line program.fields ++ act_lines 0 program.acts

-- the listing of the program that was read
abbrev pub program_listed : Result ProgramText AsmFault → Result (List ℕ) AsmFault
program_listed (Ok program) = Ok (listing program)
program_listed (Err fault) = Err fault

-- the listing of a text's program, or the text's first faulty line
abbrev pub listing_of : List ℕ → Result (List ℕ) AsmFault
listing_of text = program_listed (program_of text)
