-- What a step does to a part of a machine, where a parcel has come: chip by chip,
-- with what comes in from outside read from the parcel. Ours.
use Rattle.std.specs.Prelude.{ℕ, ◌+◌, ◌-◌, ◌^◌, ◌==◌, Bool, List, [], ◌∷◌, ◌++◌, Option, length}
use Rattle.std.specs.Prelude.{map, bit_xor, if◌then◌else◌}
use Rattle.std.specs.Option.{option_to_list}
use Rattle.cm_model.specs.declared.act.Nano.{Nano}
use Rattle.cm_model.specs.declared.message.Message.{Message}
use Rattle.cm_model.specs.declared.message.Event.TheVariants.{Injected, Delivered}
use Rattle.cm_model.specs.Each.{tabulate}
use Rattle.cm_model.specs.Place.{column_of, source, predecessor}
use Rattle.cm_model.specs.Processor.{NEWS}
use Rattle.cm_model.specs.Chip.{chip_after}
use Rattle.cm_model.specs.Array.{output, chain_output}
use Rattle.cm_model.specs.Letters.{chip_after_injection, chip_after_delivery}
use Rattle.cm_model.specs.Wiring.{way_of}
use Rattle.cm_model.specs.Buffers.{leaving_place, without, outgoing, buffer_after_dimension}
use Rattle.cm_model.specs.OneChip.{taken_here, sent_here, delivered_here, kept_here}
use Rattle.cm_model.specs.Steps.{Step, Instruct, Look, Inject, Cross, Deliver}
use Rattle.cm_blocks.specs.Parts.{Part, is_within, chip_in, buffer_in, log_in}
use Rattle.cm_blocks.specs.Parcels.{Parcel, Blank, mail_in, bit_in}

-- the bit that comes in over NEWS at a place: from within, or the parcel's of that column
abbrev pub news_in : ℕ → Nano → Parcel → Part → ℕ → ℕ → Bool
news_in n nano parcel s c p =
    if is_within s (source n nano.dir (record { chip = c; proc = p })).chip
    then output nano (chip_in s) (source n nano.dir (record { chip = c; proc = p }))
    else bit_in parcel (column_of n (record { chip = c; proc = p }))

-- the bit that comes in at a place
unfoldable pub incoming_in : ℕ → Nano → Parcel → Part → ℕ → ℕ → Bool
incoming_in n nano parcel s c p =
    if nano.write == NEWS then news_in n nano parcel s c p else chain_output nano (chip_in s c) (predecessor p)

-- the message that comes over a dimension to a chip: from within, or the parcel's at the chip's place
abbrev pub mail_for : ℕ → ℕ → Parcel → Part → ℕ → Option Message
mail_for cap d parcel s c =
    if is_within s (bit_xor c (2 ^ d)) then outgoing (way_of s.routing (bit_xor c (2 ^ d)) d) cap d
    (buffer_in s (bit_xor c (2 ^ d)))
    else mail_in parcel (c - s.first)

-- the processors whose messages a chip takes at an injection
abbrev pub taken_of : ℕ → Part → ℕ → List ℕ
taken_of cap s c = taken_here cap (buffer_in s c) (chip_in s c)

-- the messages that a chip takes from these processors
abbrev pub sent_of : ℕ → ℕ → Part → ℕ → List Message
sent_of n cap s c = sent_here n cap s.clock c (buffer_in s c) (chip_in s c)

-- what is delivered at a chip
abbrev pub delivered_of : Part → ℕ → List Message
delivered_of s c = delivered_here (buffer_in s c) (chip_in s c)

-- the part after a step; only a step that is a round reads the parcel
unfoldable pub part_after : ℕ → ℕ → Step → Parcel → Part → Part
part_after n cap (Instruct nano) parcel s =
    record s { chips = tabulate s.first s.count (λ c. chip_after nano (incoming_in n nano parcel s c) (chip_in s c)) }
part_after n cap Look parcel s = s
part_after n cap Inject parcel s = record s {
  chips = tabulate s.first s.count (λ c. chip_after_injection (taken_of cap s c) (chip_in s c));
  buffers = tabulate s.first s.count (λ c. buffer_in s c ++ sent_of n cap s c);
  logs = tabulate s.first s.count (λ c. log_in s c ++ map Injected (sent_of n cap s c));
}
part_after n cap (Cross d) parcel s = record s {
  buffers = tabulate s.first s.count
      (λ c. buffer_after_dimension (way_of s.routing c d) cap d (buffer_in s c) (mail_for cap d parcel s c));
}
part_after n cap Deliver parcel s = record s {
  chips = tabulate s.first s.count (λ c. chip_after_delivery (delivered_of s c) (chip_in s c));
  buffers = tabulate s.first s.count (λ c. kept_here (buffer_in s c) (chip_in s c));
  logs = tabulate s.first s.count (λ c. log_in s c ++ map (λ m. Delivered c m) (delivered_of s c));
  clock = s.clock + 1;
}

-- the part after steps that read no parcel
abbrev pub part_after_all : ℕ → ℕ → List Step → Part → Part
part_after_all n cap [] s = s
part_after_all n cap (step ∷ steps) s = part_after_all n cap steps (part_after n cap step Blank s)

-- ---- sending and taking in, apart from each other

-- a part from which who leaves in dimension d is gone
unfoldable pub less : ℕ → Step → Part → Part
less cap (Instruct nano) s = s
less cap Look s = s
less cap Inject s = s
less cap (Cross d) s = record s {
  buffers = tabulate s.first s.count
      (λ c. without (buffer_in s c) (leaving_place (way_of s.routing c d) cap d (buffer_in s c)));
}
less cap Deliver s = s

-- a part from which the leavers are gone, after a parcel was taken in
unfoldable pub absorbed : ℕ → ℕ → Step → Parcel → Part → Part
absorbed n cap (Instruct nano) parcel s = part_after n cap (Instruct nano) parcel s
absorbed n cap Look parcel s = s
absorbed n cap Inject parcel s = s
absorbed n cap (Cross d) parcel s =
    record s {
      buffers = tabulate s.first s.count (λ c. buffer_in s c ++ option_to_list (mail_in parcel (c - s.first)));
    }
absorbed n cap Deliver parcel s = s
