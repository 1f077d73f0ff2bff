-- The rounds of a run as callers get them, with the kind of each. Ours.
use Rattle.std.specs.Prelude.{ℕ, ◌==◌, ◌&&◌, not, List, [], ◌∷◌, map, if◌then◌else◌}
use Rattle.std.specs.List.{filter}
use Rattle.cm_bits.specs.declared.plane.Dir.{Dir}
use Rattle.cm_bits.specs.declared.plane.Dir.TheVariants as dir
use Rattle.cm_model.specs.declared.act.Act.{Act}
use Rattle.cm_model.specs.declared.act.Act.TheVariants as act
use Rattle.cm_model.specs.declared.act.Nano.{Nano}
use Rattle.cm_model.specs.Processor.{NEWS}
use Rattle.cm_model.specs.Steps.{Step, Instruct, Look, Inject, Cross, Deliver, Phase, phases_from}
use Rattle.cm_blocks.specs.Rounds.{is_round, is_vertical}
use Rattle.cm_subcube.specs.declared.round.Kind.{Kind}
use Rattle.cm_subcube.specs.declared.round.Kind.TheVariants as kind
use Rattle.cm_subcube.specs.declared.round.Round.{Round}

-- the kind of a round over NEWS; eastward and westward there is none
abbrev pub kind_over : Dir → Kind
kind_over dir.North = kind.North
kind_over dir.East = kind.North
kind_over dir.West = kind.North
kind_over dir.South = kind.South

-- the kind of a step that is a round
abbrev pub kind_of : Step → Kind
kind_of (Instruct nano) = kind_over nano.dir
kind_of Look = kind.North
kind_of Inject = kind.North
kind_of (Cross d) = kind.Dim d
kind_of Deliver = kind.North

-- a phase that is a round, as callers get it
abbrev pub round_of : Phase → Round
round_of phase = record { at = phase.at; act = phase.act; kind = kind_of phase.step }

-- the rounds of acts that begin at a place, where a cube of n dimensions is cut into 2 ^ k blocks
abbrev pub rounds_from : ℕ → ℕ → ℕ → List Act → List Round
rounds_from n k at acts = map round_of (filter (λ phase. is_round n k phase.step) (phases_from n at acts))

-- those of a run
abbrev pub rounds_of : ℕ → ℕ → List Act → List Round
rounds_of n k acts = rounds_from n k 0 acts

-- the step of an instruction at which blocks exchange
abbrev pub step_over_news : Act → Step
step_over_news (act.Nano nano) = Instruct nano
step_over_news act.Sense = Look
step_over_news act.Cycle = Look

-- the step of an act that is of a kind
abbrev pub step_in : Act → Kind → Step
step_in one kind.North = step_over_news one
step_in one kind.South = step_over_news one
step_in one (kind.Dim d) = Cross d

-- the step of a round
abbrev pub step_of : Round → Step
step_of round = step_in round.act round.kind

-- ---- those of one act

-- that of an instruction at a place, if it is one
abbrev pub exchanges : ℕ → ℕ → Nano → List Round
exchanges k at nano =
    if not (k == 0) && (nano.write == NEWS && is_vertical nano.dir)
    then record { at = at; act = act.Nano nano; kind = kind_over nano.dir } ∷ []
    else []

-- that of a dimension in a petit cycle at a place
abbrev pub crossing_at : ℕ → ℕ → Round
crossing_at at d = record { at = at; act = act.Cycle; kind = kind.Dim d }
