-- What the program of a text is made of: ours.
use Rattle.std.specs.Prelude.{◌≡◌, ◌<◌, ◌≤◌, true, None, List, [], ◌∷◌, ◌++◌, length}
use Rattle.cm_bits.specs.Span.{IsField}
use Rattle.cm_model.specs.declared.act.Nano.{Nano}
use Rattle.cm_model.specs.declared.act.Act.{Act}
use Rattle.cm_model.specs.declared.act.Act.TheVariants as act
use Rattle.cm_language.specs.Names.{NamedField, is_name, field_named}
use Rattle.cm_language.specs.Program.{MOST_ACTS, ProgramText}

-- the numbers of an instruction are in their ranges
pub record IsInstruction (nano : Nano) : Type 0 where
  pub a : nano.a < 4096
  pub b : nano.b < 4096
  pub read : nano.read < 16
  pub write : nano.write < 16
  pub cond : nano.cond < 16
  pub mem_table : nano.mem_table < 256
  pub flag_table : nano.flag_table < 256

-- an act of a program
abbrev pub IsProgramAct : Act → Type 0
IsProgramAct (act.Nano nano) = IsInstruction nano
IsProgramAct act.Cycle = Unit {0}
IsProgramAct act.Sense = Unit {0}

-- acts of a program
abbrev pub AreProgramActs : List Act → Type 0
AreProgramActs [] = Unit {0}
AreProgramActs (a ∷ acts) = IsProgramAct a × AreProgramActs acts

-- a definition that may follow these fields: its name is one, and new among theirs
pub record MayFollow (fields : List NamedField) (defined : NamedField) : Type 0 where
  pub name : is_name defined.name ≡ true
  pub new : field_named fields defined.name ≡ None
  pub field : IsField defined.field

-- definitions that may follow these fields, one after another
abbrev pub AreNext : List NamedField → List NamedField → Type 0
AreNext fields [] = Unit {0}
AreNext fields (defined ∷ later) = MayFollow fields defined × AreNext (fields ++ defined ∷ []) later

-- a program: its definitions one after another, its acts, and not too many of them
pub record IsProgram (program : ProgramText) : Type 0 where
  pub fields : AreNext [] program.fields
  pub acts : AreProgramActs program.acts
  pub few : length program.acts ≤ MOST_ACTS
