-- Laws over the definitions, each the contract of a function of its name. Ours.
use Rattle.std.specs.Prelude.{◌≡◌, ℕ, ◌≤◌, Ok, Err, List, [], length, map}
use Rattle.cm_model.specs.declared.act.Nano.{Nano}
use Rattle.cm_model.specs.declared.act.Act.TheVariants as act
use Rattle.cm_language.specs.declared.fault.AsmKind.TheVariants.{Word}
use Rattle.cm_language.specs.declared.fault.AsmFault.{AsmFault}
use Rattle.cm_language.specs.Program.{program_of}
use Rattle.cm_tools.specs.Program.{nanos_of}
use Rattle.cm_tools.specs.Session.{CHIP_LIMIT}

-- a text of one chip that is accepted is a program, whose acts are its instructions
abbrev pub ChipTextsArePrograms : Type 0
ChipTextsArePrograms = (text : List ℕ) (nanos : List Nano) → length text ≤ CHIP_LIMIT → nanos_of text ≡ Ok nanos
    → program_of text ≡ Ok (record { fields = []; acts = map act.Nano nanos })

-- and one that is refused is refused as a program at the same line for the same fault, unless it is for a first word:
-- a program may have lines that a text of one chip may not
abbrev pub ChipFaultsAreFaults : Type 0
ChipFaultsAreFaults = (text : List ℕ) (fault : AsmFault) → length text ≤ CHIP_LIMIT → nanos_of text ≡ Err fault
    → ¬ (fault.kind ≡ Word) → program_of text ≡ Err fault
