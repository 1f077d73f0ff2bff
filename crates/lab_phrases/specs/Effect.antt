-- What a phrase does in one processor: ours. The grid and the chain are those of Hillis 1985.
use Rattle.std.specs.Prelude.{ℕ, ◌+◌, ◌-◌, ◌%◌, ◌==◌, ◌&&◌, ◌||◌, Bool, not, nat_le, Option, Some, None, List, ◌++◌, take}
use Rattle.std.specs.Prelude.{drop, if◌then◌else◌}
use Rattle.cm_bits.specs.Bit.{bit_number, differ}
use Rattle.cm_bits.specs.Span.{Span}
use Rattle.cm_model.specs.Place.{source, predecessor}
use Rattle.cm_model.specs.Processor.{Processor, NEWS, DAISY, memory_bit, flag}
use Rattle.cm_model.specs.Each.{tabulate}
use Rattle.cm_model.specs.Chip.{processor_at, no_processor}
use Rattle.cm_model.specs.Array.{Chips, chip_at, processor_of}
use Rattle.cm_language.specs.declared.macros.Context.{Context}
use Rattle.cm_language.specs.Effect.{CARRY, selected, value_of, size, with_value, processor_with_flag}
use Rattle.lab_phrases.specs.declared.phrase.Phrase.{Phrase}
use Rattle.lab_phrases.specs.declared.phrase.Phrase.TheVariants.{News, Chain, And, Or, Xor, Not, AddNumber, Test, Keep}

-- the processor of a chip that has a number, or none
abbrev pub one_of : List Processor → Option ℕ → Processor
one_of chip None = no_processor
one_of chip (Some p) = processor_at chip p

-- the processor whose field comes to processor p of chip c: over the grid the one whose neighbour this is, along the
-- chain the one before, none to any other phrase
abbrev pub phrase_sender : ℕ → Phrase → Chips → ℕ → ℕ → Processor
phrase_sender n (News d s dir) chips c p = processor_of chips (source n dir (record { chip = c; proc = p }))
phrase_sender n (Chain d s) chips c p = one_of (chip_at chips c) (predecessor p)
phrase_sender n (And d s) chips c p = no_processor
phrase_sender n (Or d s) chips c p = no_processor
phrase_sender n (Xor d s) chips c p = no_processor
phrase_sender n (Not d) chips c p = no_processor
phrase_sender n (AddNumber d v) chips c p = no_processor
phrase_sender n (Test f s) chips c p = no_processor
phrase_sender n (Keep d f) chips c p = no_processor

-- the bit of a field at a place in it, the lowest at 0
abbrev pub bit_of : Processor → Span → ℕ → Bool
bit_of p field i = memory_bit p (field.at + i)

-- the highest bit of a field
abbrev pub top_bit : Processor → Span → Bool
top_bit p field = bit_of p field (field.len - 1)

-- the processor with these bits in a field, by their place in it
abbrev pub with_bits : Span → (ℕ → Bool) → Processor → Processor
with_bits field bits p = record {
  memory = take field.at p.memory ++ (tabulate 0 field.len bits ++ drop (field.at + field.len) p.memory);
  flags = p.flags;
}

-- a processor after a phrase that was carried out in it, where this other sends to it: every right side is over the
-- old values
abbrev pub phrase_assigned : Phrase → Processor → Processor → Processor
phrase_assigned (News d s dir) from p = processor_with_flag NEWS (top_bit from s) (with_value d (value_of from s) p)
phrase_assigned (Chain d s) from p = processor_with_flag DAISY (top_bit from s) (with_value d (value_of from s) p)
phrase_assigned (And d s) from p = with_bits d (λ i. bit_of p d i && bit_of p s i) p
phrase_assigned (Or d s) from p = with_bits d (λ i. bit_of p d i || bit_of p s i) p
phrase_assigned (Xor d s) from p = with_bits d (λ i. differ (bit_of p d i) (bit_of p s i)) p
phrase_assigned (Not d) from p = with_bits d (λ i. not (bit_of p d i)) p
phrase_assigned (AddNumber d v) from p =
    processor_with_flag CARRY (nat_le (size d) (value_of p d + v)) (with_value d ((value_of p d + v) % size d) p)
phrase_assigned (Test f s) from p = processor_with_flag f (not (value_of p s == 0)) p
phrase_assigned (Keep d f) from p = with_value d (bit_number (flag p f)) p

-- a processor after a phrase under a context, where this other sends to it
unfoldable pub phrase_effect : Phrase → Context → Processor → Processor → Processor
phrase_effect phrase context from p = if selected context p then phrase_assigned phrase from p else p
