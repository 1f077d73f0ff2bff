-- Why words ask for nothing, and what is told of them: ours.
use Rattle.std.specs.Prelude.{◌≡◌, ◌⊎◌, ℕ, Result, Ok, Err, List, string_bytes}
use Rattle.cm_bits.specs.declared.field.FieldFault.{FieldFault}
use Rattle.lab_args.specs.declared.operands.Operand.{Operand}
use Rattle.lab_args.specs.declared.fault.CommandFault.{CommandFault}
use Rattle.lab_args.specs.declared.fault.CommandFault.TheVariants as fault

-- a word, or what is told of it, by its bytes
abbrev pub Text : Type 0
Text = List ℕ

-- why words ask for nothing
pub data Refusal : Type 0 where
  Help : Refusal
  Version : Refusal
  Words : Refusal
  UnknownCommand : Text → Refusal
  UnknownOption : Text → Text → Refusal
  Twice : Text → Refusal
  Usage : Text → Refusal
  Wanted : Operand → Text → Refusal
  Field : FieldFault → Refusal
  Memory : Refusal

-- what a fault tells
abbrev pub reported_refusal : CommandFault → Refusal
reported_refusal fault.Help = Help
reported_refusal fault.Version = Version
reported_refusal fault.Words = Words
reported_refusal (fault.UnknownCommand word) = UnknownCommand (string_bytes word)
reported_refusal (fault.UnknownOption word usage) = UnknownOption (string_bytes word) (string_bytes usage)
reported_refusal (fault.Twice word) = Twice (string_bytes word)
reported_refusal (fault.Usage usage) = Usage (string_bytes usage)
reported_refusal (fault.Operand operand word) = Wanted operand (string_bytes word)
reported_refusal (fault.Field fault) = Field fault
reported_refusal fault.Memory = Memory

-- a fault is this refusal, or want of memory
abbrev pub Reports : {A : Type 0} → Result A Refusal → CommandFault → Type 0
Reports reading fault = (reported_refusal fault ≡ Memory) ⊎ (reading ≡ Err (reported_refusal fault))

infixl 10 ◌>>=◌
-- what comes after, unless a refusal came before
abbrev pub ◌>>=◌ : {A B : Type 0} → Result A Refusal → (A → Result B Refusal) → Result B Refusal
(Ok x) >>= next = next x
(Err refusal) >>= next = Err refusal
