-- Why a phrase is refused, as macros are: ours.
use Rattle.std.specs.Prelude.{ℕ, ◌==◌, ◌||◌, Bool, false, nat_le, Option, Some, None, if◌then◌else◌}
use Rattle.cm_bits.specs.Field.{meeting}
use Rattle.cm_model.specs.Processor.{NEWS, DAISY}
use Rattle.cm_language.specs.declared.macros.Context as declared
use Rattle.cm_language.specs.declared.macros.Context.TheVariants.{Always, On, Off}
use Rattle.cm_language.specs.declared.fault.MacroFault.{MacroFault}
use Rattle.cm_language.specs.declared.fault.MacroFault.TheVariants as fault
use Rattle.cm_language.specs.Effect.{CARRY, size}
use Rattle.cm_language.specs.Faults.{is_partly, lengths_differ, is_fixed}
use Rattle.lab_phrases.specs.declared.phrase.Phrase.{Phrase}
use Rattle.lab_phrases.specs.declared.phrase.Phrase.TheVariants.{News, Chain, And, Or, Xor, Not, AddNumber, Test, Keep}

-- two fields of the phrase meet in part
abbrev pub phrase_overlaps : Phrase → Bool
phrase_overlaps (News d s dir) = is_partly (meeting d s)
phrase_overlaps (Chain d s) = is_partly (meeting d s)
phrase_overlaps (And d s) = is_partly (meeting d s)
phrase_overlaps (Or d s) = is_partly (meeting d s)
phrase_overlaps (Xor d s) = is_partly (meeting d s)
phrase_overlaps (Not d) = false
phrase_overlaps (AddNumber d v) = false
phrase_overlaps (Test f s) = false
phrase_overlaps (Keep d f) = false

-- they have different lengths, or the number does not fit in its field
abbrev pub phrase_misfits : Phrase → Bool
phrase_misfits (News d s dir) = lengths_differ d s
phrase_misfits (Chain d s) = lengths_differ d s
phrase_misfits (And d s) = lengths_differ d s
phrase_misfits (Or d s) = lengths_differ d s
phrase_misfits (Xor d s) = lengths_differ d s
phrase_misfits (Not d) = false
phrase_misfits (AddNumber d v) = nat_le (size d) v
phrase_misfits (Test f s) = false
phrase_misfits (Keep d f) = false

-- the phrase writes the flag
abbrev pub phrase_writes : Phrase → ℕ → Bool
phrase_writes (News d s dir) f = f == NEWS
phrase_writes (Chain d s) f = f == DAISY
phrase_writes (And d s) f = false
phrase_writes (Or d s) f = false
phrase_writes (Xor d s) f = false
phrase_writes (Not d) f = false
phrase_writes (AddNumber d v) f = f == CARRY
phrase_writes (Test g s) f = f == g
phrase_writes (Keep d g) f = false

-- it writes the flag that selects the processors
abbrev pub phrase_writes_condition : Phrase → declared.Context → Bool
phrase_writes_condition phrase Always = false
phrase_writes_condition phrase (On f) = phrase_writes phrase f
phrase_writes_condition phrase (Off f) = phrase_writes phrase f

-- it puts a bit into a flag that cannot be set
abbrev pub phrase_names_fixed : Phrase → Bool
phrase_names_fixed (News d s dir) = false
phrase_names_fixed (Chain d s) = false
phrase_names_fixed (And d s) = false
phrase_names_fixed (Or d s) = false
phrase_names_fixed (Xor d s) = false
phrase_names_fixed (Not d) = false
phrase_names_fixed (AddNumber d v) = false
phrase_names_fixed (Test f s) = is_fixed f
phrase_names_fixed (Keep d f) = false

-- why a phrase is refused under a context: the first cause, in this order
abbrev pub first_phrase_fault : Phrase → declared.Context → Option MacroFault
first_phrase_fault phrase c =
    if phrase_overlaps phrase then Some fault.Overlap
    else (if phrase_misfits phrase then Some fault.Lengths
    else (if phrase_writes_condition phrase c || phrase_names_fixed phrase then Some fault.Scratch
    else None))
