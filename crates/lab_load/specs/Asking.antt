-- Processors that ask the router to take what they have offered, first come first served. Ours.
use Rattle.std.specs.Prelude.{ℕ, suc, zero, ◌+◌, ◌-◌, ◌/◌, ◌%◌, ◌^◌, ◌==◌, Bool, true, List, Option, Some, None}
use Rattle.std.specs.Prelude.{min, max, bit_xor, slice_index_or, slice_set, if◌then◌else◌}
use Rattle.std.specs.List.{find, range_with_len}
use Rattle.cm_bits.specs.Bit.{bit_number}
use Rattle.cm_model.specs.declared.letters.TheConstants.{SENT_REL, SENT_PROC, SENT_PAYLOAD}
use Rattle.cm_model.specs.Processor.{Processor, SEND, flag}
use Rattle.cm_model.specs.Chip.{processor_at, with_flag}
use Rattle.cm_model.specs.Array.{Chips, chip_at}
use Rattle.cm_element.specs.Wide.{with_memory_field}
use Rattle.lab_load.specs.declared.offers.Load.{Load}
use Rattle.lab_load.specs.declared.sources.Source.{Source}
use Rattle.lab_load.specs.Offers.{offers, target_of}

-- ---- the offers of one processor

-- nothing was offered
abbrev pub no_source : Source
no_source = record { next = 0; waiting = 0 }

-- what a place has offered
abbrev pub source_at : List Source → ℕ → Source
source_at sources place = slice_index_or sources place no_source

-- one offer more waits, if there is one; the count ends at the greatest number of 32 bits
abbrev pub with_offer : Bool → Source → Source
with_offer offered source = record source { waiting = min (source.waiting + bit_number offered) (2 ^ 32 - 1) }

-- the first petit cycle from this one to petit cycle t in which a place offers, if it does in any
unfoldable pub first_offer : Load → ℕ → ℕ → ℕ → Option ℕ
first_offer load t place next = find (λ s. offers load s place) (range_with_len next (t + 1 - next))

-- the petit cycle of the earliest offer that waits in petit cycle t, if any does
unfoldable pub next_offer : Load → ℕ → ℕ → Source → Option ℕ
next_offer load t place source =
    if source.waiting == 0 then None else first_offer load t place source.next

-- after the processor has asked for that of petit cycle s
abbrev pub source_asked : Option ℕ → Source → Source
source_asked None source = source
source_asked (Some s) source = record { next = s + 1; waiting = source.waiting - 1 }

-- ---- its chip

-- the chip where processor p asks for a message over these dimensions, to a processor there, with this payload
abbrev pub chip_asking : ℕ → ℕ → ℕ → ℕ → List Processor → List Processor
chip_asking p rel to payload chip =
    with_flag
    (with_memory_field
    (with_memory_field (with_memory_field chip p SENT_REL 16 rel) p SENT_PROC 4 to)
    p SENT_PAYLOAD 32 payload)
    p SEND true

-- the chips after the processor of a place has asked for a message to another place
abbrev pub chips_asking : ℕ → ℕ → ℕ → Chips → Chips
chips_asking place to payload chips =
    slice_set chips (place / 16)
    (chip_asking (place % 16) (bit_xor (place / 16) (to / 16)) (to % 16) payload (chip_at chips (place / 16)))

-- the same for its offer of petit cycle s, if it asks for one: the payload tells when it was offered
abbrev pub chips_asked : Load → ℕ → Option ℕ → Chips → Chips
chips_asked load place None chips = chips
chips_asked load place (Some s) chips = chips_asking place (target_of load s place) s chips

-- ---- all processors

-- what changes while they ask
pub record Asking : Type 0 where
  pub chips : Chips
  -- by place
  pub sources : List Source
  -- the most offers that waited at one processor, behind the one that it asks for
  pub deepest : ℕ

-- a processor that still asks for an offer asks for no other
abbrev pub offer_asked : Load → ℕ → ℕ → Chips → Source → Option ℕ
offer_asked load t place chips source =
    if flag (processor_at (chip_at chips (place / 16)) (place % 16)) SEND then None else next_offer load t place source

-- after it has asked
abbrev pub with_asked : Load → ℕ → Asking → Source → Option ℕ → Asking
with_asked load place asking source asked = record {
  chips = chips_asked load place asked asking.chips;
  sources = slice_set asking.sources place (source_asked asked source);
  deepest = max asking.deepest (source_asked asked source).waiting;
}

-- the same with what it offers
abbrev pub with_source : Load → ℕ → ℕ → Asking → Source → Asking
with_source load t place asking source =
    with_asked load place asking source (offer_asked load t place asking.chips source)

-- after the processor of a place has offered and asked in petit cycle t
unfoldable pub asking_after_place : Load → ℕ → Asking → ℕ → Asking
asking_after_place load t asking place =
    with_source load t place asking (with_offer (offers load t place) (source_at asking.sources place))

-- after the first so many
unfoldable pub asking_after_places : Load → ℕ → Asking → ℕ → Asking
asking_after_places load t asking zero = asking
asking_after_places load t asking (suc count) = asking_after_place load t (asking_after_places load t asking count) count
