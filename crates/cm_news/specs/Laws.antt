-- Laws over the steps on one chip, each the contract of a function of its name. Ours.
use Rattle.std.specs.Prelude.{◌≡◌, ℕ, ◌<◌, ◌^◌, true, false, ◌⊎◌, Some}
use Rattle.cm_bits.specs.declared.plane.Dir.{Dir}
use Rattle.cm_model.specs.Place.{source}
use Rattle.cm_news.specs.Moves.{sender_on_chip, at_edge, is_entry, one_back, bit_along_edge, corner}

-- the bit of processor p comes to processor q of the same chip
pub record MovesTo (dir : Dir) (p q : ℕ) : Type 0 where
  pub there : q < 16
  pub from : sender_on_chip dir q ≡ Some p

-- the bit of processor p is bit i of the edge
pub record LeavesAs (dir : Dir) (p i : ℕ) : Type 0 where
  pub there : i < 4
  pub from : at_edge dir i ≡ p

-- the bit of processor p moves on the chip or leaves it, and goes to one place only
pub record GoesOneWay (dir : Dir) (p : ℕ) : Type 0 where
  pub somewhere : ((q : ℕ) × MovesTo dir p q) ⊎ ((i : ℕ) × LeavesAs dir p i)
  pub not_both : (q i : ℕ) → MovesTo dir p q → LeavesAs dir p i → ⊥
  pub one_processor : (q r : ℕ) → MovesTo dir p q → MovesTo dir p r → q ≡ r
  pub one_edge_bit : (i j : ℕ) → LeavesAs dir p i → LeavesAs dir p j → i ≡ j

-- in each direction, of all sixteen
abbrev pub InsideAndEdgeAreAll : Type 0
InsideAndEdgeAreAll = (dir : Dir) (p : ℕ) → p < 16 → GoesOneWay dir p

-- a step that leads to a place of the torus comes from the same chip,
-- or from the edge of the chip from which the corner's comes
pub record ComesFrom (n : ℕ) (dir : Dir) (chip p : ℕ) : Type 0 where
  pub inside : is_entry dir p ≡ false
      → source n dir (record { chip = chip; proc = p }) ≡ record { chip = chip; proc = one_back dir p }
  pub edge : is_entry dir p ≡ true → source n dir (record { chip = chip; proc = p })
      ≡ record {
        chip = (source n dir (record { chip = chip; proc = corner dir })).chip;
        proc = at_edge dir (bit_along_edge dir p);
      }

-- in each direction, at every size of the machine
abbrev pub StepsAreTheTorus : Type 0
StepsAreTheTorus = (n : ℕ) (dir : Dir) (chip p : ℕ) → chip < 2 ^ n → p < 16 → ComesFrom n dir chip p
