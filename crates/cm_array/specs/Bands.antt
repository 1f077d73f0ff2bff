-- Bands of whole rows of chips, and instructions at which nothing comes in from outside them. Ours.
use Rattle.std.specs.Prelude.{◌≡◌, ℕ, ◌+◌, ◌-◌, ◌<◌, ◌≤◌, ◌^◌, IsTrue, List, length, slice_index}
use Rattle.cm_bits.specs.Bit.{bit}
use Rattle.cm_bits.specs.declared.plane.Dir.{Dir}
use Rattle.cm_bits.specs.declared.plane.Dir.TheVariants.{North, East, West, South}
use Rattle.cm_model.specs.declared.act.Nano.{Nano}
use Rattle.cm_model.specs.declared.message.Message.{Message}
use Rattle.cm_model.specs.Processor.{NEWS}
use Rattle.cm_model.specs.Array.{Chips}
use Rattle.cm_model.specs.Wiring.{Routing}
use Rattle.cm_model.specs.Steps.{Instruct}
use Rattle.cm_blocks.specs.Parts.{Part}
use Rattle.cm_blocks.specs.Parcels.{Edge}
use Rattle.cm_blocks.specs.Rounds.{is_vertical}
use Rattle.cm_blocks.specs.Steps.{part_after}
use Rattle.cm_news.specs.Bands.{AreWholeRows, edge_bits}
use Rattle.cm_news.specs.Moves.{at_edge}
use Rattle.cm_router.specs.Logs.{Log}
use Rattle.cm_petit.specs.Routers.{part_from_logs}

-- a part is whole rows of chips of a cube of n dimensions, and at least one
pub record IsBand (n : ℕ) (s : Part) : Type 0 where
  pub first : AreWholeRows n s.first
  pub count : AreWholeRows n s.count
  pub some : 0 < s.count

-- an instruction that takes in nothing from outside a part:
-- over NEWS northward or southward that is where the part is the whole cube
abbrev pub IsAlone : ℕ → Part → Nano → Type 0
IsAlone n s nano = nano.write ≡ NEWS → IsTrue (is_vertical nano.dir) → s.count ≡ 2 ^ n

-- ---- a band by itself, as lists

-- the chips of a band after an instruction, wherever it begins, when these bits come in over its edge
abbrev pub IsStepped : ℕ → Nano → List ℕ → Chips → Chips → Type 0
IsStepped n nano edge old new =
    (routing : Routing) (cap first clock : ℕ) (buffers : List (List Message)) (logs : List Log)
    → AreWholeRows n first
    → first + length old ≤ 2 ^ n
    → part_from_logs routing first (length old) new buffers logs clock
    ≡ part_after n cap (Instruct nano) (Edge (edge_bits edge)) (part_from_logs routing first (length old) old buffers logs clock)

-- of the planes of a band's chips, where the row of chips at an edge begins
abbrev pub edge_from : Dir → ℕ → ℕ → ℕ
edge_from North all wide = 0
edge_from South all wide = all - wide
edge_from East all wide = 0
edge_from West all wide = 0

-- by column of chips, the four bits that go out over the edge
abbrev pub IsEdgeOf : Dir → List ℕ → List ℕ → Type 0
IsEdgeOf dir planes edge = (k i : ℕ) → k < length edge → i < 4 → bit (slice_index edge k) i
    ≡ bit (slice_index planes (edge_from dir (length planes) (length edge) + k)) (at_edge dir i)
