-- How a machine routes: the wires of its cube that are cut, and the rule by which its routers choose. Ours.
use Rattle.std.specs.Prelude.{ℕ, ◌<◌, ◌^◌, ◌==◌, ◌&&◌, ◌||◌, Bool, true, false, ◌≡◌, List, [], ◌∷◌, min, nat_lt, bit_xor}
use Rattle.std.specs.List.{All, list_any}
use Rattle.cm_bits.specs.Wire.{Wire, IsWire}
use Rattle.cm_model.specs.declared.rule.Rule.{Rule}
use Rattle.cm_model.specs.declared.rule.Rule.TheVariants.{First, Oldest}

-- the wire of chip c over dimension d: the same one, seen from either end
abbrev pub wire_of : ℕ → ℕ → Wire
wire_of c d = record { chip = min c (bit_xor c (2 ^ d)); dim = d }

-- two wires are one
abbrev pub same_wire : Wire → Wire → Bool
same_wire v w = v.chip == w.chip && v.dim == w.dim

-- a wire stands before another: by chip, and then by dimension
abbrev pub wire_before : Wire → Wire → Bool
wire_before v w = nat_lt v.chip w.chip || (v.chip == w.chip && nat_lt v.dim w.dim)

-- each stands before all later ones
abbrev pub AreRising : List Wire → Type 0
AreRising [] = Unit {0}
AreRising (w ∷ ws) = All (λ v. wire_before w v ≡ true) ws × AreRising ws

-- how a machine routes
pub record Routing : Type 0 where
  -- each wire that is cut, once, in their order
  pub cuts : List Wire
  pub rule : Rule

-- a rule by its number
abbrev pub rule_number : Rule → ℕ
rule_number First = 0
rule_number Oldest = 1

-- no wire is cut, and who came first goes first: so a blank machine routes
abbrev pub plain_routing : Routing
plain_routing = record { cuts = []; rule = First }

-- the wire of chip c over dimension d is cut
abbrev pub is_cut : Routing → ℕ → ℕ → Bool
is_cut routing c d = list_any (same_wire (wire_of c d)) routing.cuts

-- what one chip sees of it in one dimension
pub record Way : Type 0 where
  -- its wire is cut
  pub cut : Bool
  pub rule : Rule

-- the way of a plain routing, at every chip and in every dimension
abbrev pub plain_way : Way
plain_way = record { cut = false; rule = First }

-- the way of chip c in dimension d
abbrev pub way_of : Routing → ℕ → ℕ → Way
way_of routing c d = record { cut = is_cut routing c d; rule = routing.rule }

-- a wire of a cube of n dimensions
pub record IsWireOf (n : ℕ) (w : Wire) : Type 0 where
  pub wire : IsWire w
  pub dim : w.dim < n
  pub chip : w.chip < 2 ^ n

-- what routing keeps: its wires are of the cube and stand in their order
pub record IsRouting (n : ℕ) (routing : Routing) : Type 0 where
  pub within : All (IsWireOf n) routing.cuts
  pub rising : AreRising routing.cuts
