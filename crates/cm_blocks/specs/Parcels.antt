-- Parcels: what a block sends to another at a round, and to which. Ours.
use Rattle.std.specs.Prelude.{ℕ, ◌+◌, ◌-◌, ◌*◌, ◌/◌, ◌%◌, ◌^◌, Bool, false, List, Option, None, slice_index_or, bit_xor}
use Rattle.cm_bits.specs.declared.plane.Dir.{Dir}
use Rattle.cm_bits.specs.declared.plane.Dir.TheVariants.{North, East, West, South}
use Rattle.cm_model.specs.declared.act.Nano.{Nano}
use Rattle.cm_model.specs.declared.message.Message.{Message}
use Rattle.cm_model.specs.Each.{tabulate}
use Rattle.cm_model.specs.Place.{chip_columns, columns, place_at}
use Rattle.cm_model.specs.Array.{output}
use Rattle.cm_model.specs.Wiring.{way_of}
use Rattle.cm_model.specs.Buffers.{outgoing}
use Rattle.cm_model.specs.Steps.{Step, Instruct, Look, Inject, Cross, Deliver}
use Rattle.cm_blocks.specs.Parts.{Part, chip_in, buffer_in}

-- what is sent: nothing; by chip of the sender, a message or none; by column of the grid, a bit
pub data Parcel : Type 0 where
  Blank : Parcel
  Mail : List (Option Message) → Parcel
  Edge : List Bool → Parcel

-- the message that a parcel has at a place: none where it has no messages, or none there
abbrev pub mail_in : Parcel → ℕ → Option Message
mail_in Blank i = None
mail_in (Mail lane) i = slice_index_or lane i None
mail_in (Edge row) i = None

-- the bit that a parcel has at a column of the grid: 0 where it has no bits, or none there
abbrev pub bit_in : Parcel → ℕ → Bool
bit_in Blank i = false
bit_in (Mail lane) i = false
bit_in (Edge row) i = slice_index_or row i false

-- the row of the grid that a part sends over its edge: northward its first, southward its last
abbrev pub edge_row : ℕ → Dir → Part → ℕ
edge_row n North s = 4 * (s.first / chip_columns n)
edge_row n South s = 4 * (s.first / chip_columns n) + 4 * (s.count / chip_columns n) - 1
edge_row n East s = 0
edge_row n West s = 0

-- what a part sends at a step: in a dimension who leaves each chip, over NEWS the outputs of its edge row
unfoldable pub due : ℕ → ℕ → Step → Part → Parcel
due n cap (Instruct nano) s =
    Edge (tabulate 0 (columns n) (λ column. output nano (chip_in s) (place_at n (edge_row n nano.dir s) column)))
due n cap Look s = Blank
due n cap Inject s = Blank
due n cap (Cross d) s = Mail (tabulate s.first s.count (λ c. outgoing (way_of s.routing c d) cap d (buffer_in s c)))
due n cap Deliver s = Blank

-- the block of 2 ^ k from which block b gets its parcel: over NEWS northward the one below it,
-- southward the one above, round the torus
abbrev pub sender_over : ℕ → Dir → ℕ → ℕ
sender_over k North b = (b + 1) % 2 ^ k
sender_over k South b = (b + 2 ^ k - 1) % 2 ^ k
sender_over k East b = b
sender_over k West b = b

-- in a dimension the one across it
abbrev pub sender : ℕ → ℕ → Step → ℕ → ℕ
sender n k (Instruct nano) b = sender_over k nano.dir b
sender n k Look b = b
sender n k Inject b = b
sender n k (Cross d) b = bit_xor b (2 ^ (d - (n - k)))
sender n k Deliver b = b
