-- What a block does by itself between two rounds: the steps behind a round are told by its act,
-- its place and its kind. Ours.
use Rattle.std.specs.Prelude.{◌≡◌, ℕ, ◌+◌, ◌-◌, ◌<◌, Bool, not, List, [], ◌∷◌, ◌++◌, Option, Some, None, length}
use Rattle.std.specs.Prelude.{map, drop, slice_get}
use Rattle.std.specs.List.{range_with_len, list_any}
use Rattle.cm_model.specs.declared.act.Act.{Act}
use Rattle.cm_model.specs.Steps.{Step, Cross, Deliver, all_steps}
use Rattle.cm_blocks.specs.Rounds.{is_round, until_round}
use Rattle.cm_subcube.specs.declared.round.Kind.{Kind}
use Rattle.cm_subcube.specs.declared.round.Kind.TheVariants as kind
use Rattle.cm_subcube.specs.declared.round.Round.{Round}
use Rattle.cm_subcube.specs.Parcels.{IsExchange}

-- the steps of an act on a cube of n dimensions, behind its round of a kind
abbrev pub steps_behind : ℕ → Kind → List Step
steps_behind n kind.North = []
steps_behind n kind.South = []
steps_behind n (kind.Dim d) = map Cross (range_with_len (d + 1) (n - d - 1)) ++ Deliver ∷ []

-- the steps from a round on until the next: its own are done; with no round given, those from the beginning on
abbrev pub local_after : ℕ → ℕ → List Act → Option Round → List Step
local_after n k acts None = until_round n k (all_steps n acts)
local_after n k acts (Some round) =
    until_round n k (steps_behind n round.kind ++ all_steps n (drop (round.at + 1) acts))

-- whether some steps have no round among them
abbrev pub is_through : ℕ → ℕ → List Step → Bool
is_through n k steps = not (list_any (is_round n k) steps)

-- a round at one of the acts: of one over a dimension, that the dimension is one of those over which blocks exchange
pub record IsRoundOf (n k : ℕ) (acts : List Act) (round : Round) : Type 0 where
  pub there : round.at < length acts
  pub act : slice_get acts round.at ≡ Some round.act
  pub exchange : IsExchange n k round
