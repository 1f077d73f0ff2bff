-- Laws over the definitions, each the contract of a function of its name. Ours.
use Rattle.std.specs.Prelude.{◌≡◌, ℕ, ◌^◌, ◌<◌, false, None}
use Rattle.cm_bits.specs.Span.{IsField}
use Rattle.cm_bits.specs.Field.{IsIn}
use Rattle.cm_model.specs.Processor.{Processor, memory_bit, flag}
use Rattle.cm_model.specs.Array.{each_chip, chip_at}
use Rattle.cm_model.specs.Chip.{each_processor, processor_at}
use Rattle.cm_model.specs.Machine.{Machine, run_of}
use Rattle.cm_model.specs.Keeping.{IsMachine}
use Rattle.cm_language.specs.declared.macros.Context.{Context}
use Rattle.cm_language.specs.Effect.{selected}
use Rattle.lab_phrases.specs.declared.phrase.Phrase.{Phrase}
use Rattle.lab_phrases.specs.declared.phrase.Phrase.TheVariants.{News, Chain, And, Or, Xor, Not, AddNumber, Test, Keep}
use Rattle.lab_phrases.specs.Effect.{phrase_sender, phrase_effect}
use Rattle.lab_phrases.specs.Acts.{phrase_acts}
use Rattle.lab_phrases.specs.Faults.{phrase_writes, first_phrase_fault}

-- all fields of a phrase are fields, and its flag is one
abbrev pub HasPhraseFields : Phrase → Type 0
HasPhraseFields (News d s dir) = IsField d × IsField s
HasPhraseFields (Chain d s) = IsField d × IsField s
HasPhraseFields (And d s) = IsField d × IsField s
HasPhraseFields (Or d s) = IsField d × IsField s
HasPhraseFields (Xor d s) = IsField d × IsField s
HasPhraseFields (Not d) = IsField d
HasPhraseFields (AddNumber d v) = IsField d
HasPhraseFields (Test f s) = IsField s × (f < 16)
HasPhraseFields (Keep d f) = IsField d × (f < 16)

-- a machine after a phrase: every processor at once, from its old bits and the old bits of the one that sends to it
unfoldable pub machine_after_phrase : ℕ → Phrase → Context → Machine → Machine
machine_after_phrase n phrase c machine = record machine {
  chips = each_chip n (λ chip. each_processor (λ p.
      phrase_effect phrase c (phrase_sender n phrase machine.chips chip p) (processor_at (chip_at machine.chips chip) p)));
}

-- the acts of a phrase that is not refused are its effect, on every machine
abbrev pub PhrasesAreRight : Type 0
PhrasesAreRight =
    (n cap : ℕ) (phrase : Phrase) (c : Context) (machine : Machine) → IsMachine n cap machine → HasPhraseFields phrase
    → first_phrase_fault phrase c ≡ None → run_of n cap machine (phrase_acts phrase c) ≡ machine_after_phrase n phrase c machine

-- the memory bit is one of those that a phrase gives a value
abbrev pub PhraseStores : Phrase → ℕ → Type 0
PhraseStores (News d s dir) address = IsIn d address
PhraseStores (Chain d s) address = IsIn d address
PhraseStores (And d s) address = IsIn d address
PhraseStores (Or d s) address = IsIn d address
PhraseStores (Xor d s) address = IsIn d address
PhraseStores (Not d) address = IsIn d address
PhraseStores (AddNumber d v) address = IsIn d address
PhraseStores (Test f s) address = ⊥
PhraseStores (Keep d f) address = IsIn d address

-- what a phrase leaves alone in a processor: all of it where the context does not mean it, else every other bit and flag
pub record PhraseLeavesAlone (phrase : Phrase) (c : Context) (before after : Processor) : Type 0 where
  pub unselected : selected c before ≡ false → after ≡ before
  pub memory : (address : ℕ) → ¬ (PhraseStores phrase address) → memory_bit after address ≡ memory_bit before address
  pub flags : (f : ℕ) → phrase_writes phrase f ≡ false → flag after f ≡ flag before f

-- the acts of a phrase that is not refused leave all else alone, in each processor of every machine
abbrev pub PhrasesLeaveTheRest : Type 0
PhrasesLeaveTheRest =
    (n cap : ℕ) (phrase : Phrase) (c : Context) (machine : Machine) (chip p : ℕ) → IsMachine n cap machine
    → HasPhraseFields phrase → first_phrase_fault phrase c ≡ None → chip < 2 ^ n → p < 16
    → PhraseLeavesAlone phrase c (processor_at (chip_at machine.chips chip) p)
    (processor_at (chip_at (run_of n cap machine (phrase_acts phrase c)).chips chip) p)
