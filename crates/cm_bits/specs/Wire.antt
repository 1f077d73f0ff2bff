-- A wire of the cube: the edge over a dimension between two chips. Ours.
use Rattle.std.specs.Prelude.{◌≡◌, ℕ, ◌<◌, Bool, false}
use Rattle.cm_bits.specs.Bit.{bit}

-- it joins the two chips whose numbers differ in bit dim, and is named by the one where that bit is 0
pub record Wire : Type 0 where
  pub chip : ℕ
  pub dim : ℕ

-- a wire of a cube of twelve dimensions at most
pub record IsWire (wire : Wire) : Type 0 where
  pub dim : wire.dim < 12
  pub chip : wire.chip < 4096
  pub lower : bit wire.chip wire.dim ≡ false
