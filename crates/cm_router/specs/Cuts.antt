-- The cut wires of a cube, and how they stand in rows of bits by chip. Ours.
use Rattle.std.specs.Prelude.{◌≡◌, ℕ, ◌≤◌, ◌*◌, ◌/◌, ◌^◌, ◌==◌, Bool, List, [], ◌∷◌, length, get_or, Vec, vec_capacity}
use Rattle.std.specs.Prelude.{if◌then◌else◌}
use Rattle.std.specs.List.{All, list_any}
use Rattle.std.specs.declared.alloc.Global.{Global}
use Rattle.cm_bits.specs.Bit.{bit}
use Rattle.cm_bits.specs.Wire.{Wire}
use Rattle.cm_model.specs.Wiring.{wire_of, same_wire, wire_before, AreRising, IsWireOf}

-- what contracts see: of how many dimensions the cube is, and its cut wires
pub record CubeCuts : Type 0 where
  pub dims : ℕ
  pub wires : List Wire

-- they are wires of the cube, each once and in their order
pub record AreWires (cuts : CubeCuts) : Type 0 where
  pub dimensions : cuts.dims ≤ 12
  pub within : All (IsWireOf cuts.dims) cuts.wires
  pub rising : AreRising cuts.wires

-- how many wires a cube of n dimensions has
abbrev pub most_wires : ℕ → ℕ
most_wires n = n * 2 ^ n / 2

-- the wire of chip c over dimension d is one of these
abbrev pub has_wire : List Wire → ℕ → ℕ → Bool
has_wire wires c d = list_any (same_wire (wire_of c d)) wires

-- the wires with one more, before the first that does not stand before it
abbrev pub wire_put : Wire → List Wire → List Wire
wire_put w [] = w ∷ []
wire_put w (v ∷ vs) = if wire_before v w then v ∷ wire_put w vs else w ∷ v ∷ vs

-- the wires of which this is one: the same ones, if it was
abbrev pub with_wire : Wire → List Wire → List Wire
with_wire w wires = if list_any (same_wire w) wires then wires else wire_put w wires

-- by the rows of bits of all chips, the wire of chip c over dimension d is cut
abbrev pub is_cut_at : List ℕ → ℕ → ℕ → Bool
is_cut_at rows c d = bit (get_or rows c 0) d

-- the wires of a cube that are cut, with places for all that it has; the same by chip, with places for all chips, and by
-- dimension
pub record AreCuts (dims : ℕ) (edges : Vec Wire Global) (rows : Vec ℕ Global) (over : ℕ) : Type 0 where
  pub wires : AreWires (record { dims = dims; wires = edges.items })
  pub places : most_wires dims ≤ vec_capacity edges
  pub count : length rows.items ≤ 2 ^ dims
  pub chip_places : 2 ^ dims ≤ vec_capacity rows
  pub by_chip : (c d : ℕ) → is_cut_at rows.items c d ≡ has_wire edges.items c d
  pub by_dimension : (d : ℕ) → bit over d ≡ list_any (λ w. w.dim == d) edges.items
