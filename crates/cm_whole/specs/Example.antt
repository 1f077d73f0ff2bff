-- A session that is worked out: the blank image of one chip, a program with a sum, and lines that run it. Ours.
use Rattle.std.specs.Prelude.{ℕ, List, [], ◌∷◌, ◌++◌, codes, replicate}
use Rattle.cm_model.specs.declared.act.Act.TheVariants.{Sense}
use Rattle.cm_model.specs.Wiring.{plain_routing}
use Rattle.cm_language.specs.declared.macros.Macro.{Macro}
use Rattle.cm_language.specs.declared.macros.Macro.TheVariants.{Add}
use Rattle.cm_language.specs.declared.macros.Context.TheVariants.{Always}
use Rattle.cm_language.specs.Acts.{acts_of}
use Rattle.cm_language.specs.Program.{Reading, ProgramText}
use Rattle.cm_image_format.specs.Whole.{Image, machine_of_image}
use Rattle.cm_whole.specs.Inputs.{Inputs, Setup}

-- one chip, room for seven messages, all 0: 51 bytes
abbrev pub blank_bytes : List ℕ
blank_bytes = 0x43 ∷ 0x4d ∷ 0x31 ∷ 0x49 ∷ 1 ∷ 0 ∷ 7 ∷ replicate 44 0

-- what they tell
abbrev pub blank_image : Image
blank_image = record {
  clock = 0;
  routing = plain_routing;
  chips = record { flags = replicate 16 0; memory = []; messages = [] } ∷ [];
}

-- a field y is added to a field x between two looks at the wire
abbrev pub sum : Macro
sum = Add (record { at = 0; len = 8 }) (record { at = 8; len = 8 })

-- what the text has said when it comes to the sum
abbrev pub before_sum : Reading
before_sum = record {
  fields = record { name = codes "x"; field = record { at = 0; len = 8 } }
      ∷ record { name = codes "y"; field = record { at = 8; len = 8 } } ∷ [];
  context = Always;
  acts = Sense ∷ [];
}

-- its program: the sum has nine acts, the first of them act 1
abbrev pub sum_program : ProgramText
sum_program = record { fields = before_sum.fields; acts = Sense ∷ (acts_of sum Always ++ Sense ∷ []) }

-- `step` comes to the sum, and `run` goes through it
abbrev pub whole_sum : Inputs
whole_sum = record {
  image = blank_bytes;
  text = codes "field x 0 8\nfield y 8 8\nsense\nadd x y\nsense";
  commands = codes "step\nrun\n";
}

-- the same, with a poke between
abbrev pub poked_sum : Inputs
poked_sum = record whole_sum { commands = codes "step\npokeflag 0 0 7 1\nrun\n" }

-- what is set up from these inputs: one chip, whose router has room for seven messages, and the program
abbrev pub sum_setup : Setup
sum_setup = record { n = 0; cap = 7; machine = machine_of_image blank_image; program = sum_program }
