-- Kinds of rounds by number, as the exchange tells them, and the sender of a lane that a step moves. Ours.
use Rattle.std.specs.Prelude.{ℕ, zero, suc, ◌+◌, ◌-◌}
use Rattle.cm_subcube.specs.declared.round.Kind.{Kind}
use Rattle.cm_subcube.specs.declared.round.Kind.TheVariants as kind
use Rattle.cm_exchange.specs.declared.step.Step.{Step}
use Rattle.cm_exchange.specs.declared.step.Step.TheVariants.{Grip, File, Draw, Clear}
use Rattle.cm_exchange.specs.Lanes.{giver}

-- the number of a kind of round: NEWS northward, NEWS southward, then the last k of n dimensions, the lowest first
abbrev pub round_kind_number : ℕ → ℕ → Kind → ℕ
round_kind_number n k kind.North = 0
round_kind_number n k kind.South = 1
round_kind_number n k (kind.Dim d) = 2 + (d - (n - k))

-- the kind of a number
abbrev pub kind_numbered : ℕ → ℕ → ℕ → Kind
kind_numbered n k zero = kind.North
kind_numbered n k (suc zero) = kind.South
kind_numbered n k (suc (suc i)) = kind.Dim (n - k + i)

-- the sender of the lane that a step moves, in a round of a kind
abbrev pub mover : ℕ → ℕ → Step → ℕ
mover k number (Grip b) = b
mover k number (File b) = b
mover k number (Draw b) = giver k number b
mover k number (Clear b) = giver k number b
