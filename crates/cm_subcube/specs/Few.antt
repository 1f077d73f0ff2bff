-- How many rounds a run has at most, the law of a function of its name. Ours.
use Rattle.std.specs.Prelude.{ℕ, ◌+◌, ◌*◌, ◌≤◌, List, length}
use Rattle.cm_model.specs.declared.act.Act.{Act}
use Rattle.cm_array.specs.Acts.{cycles_in}
use Rattle.cm_subcube.specs.Rounds.{rounds_of}

-- a petit cycle has a round for each dimension at which 2 ^ k blocks exchange, and any other act at most one
abbrev pub RoundsAreFew : Type 0
RoundsAreFew =
    (n k : ℕ) (acts : List Act) → k ≤ n
    → length (rounds_of n k acts) + cycles_in acts ≤ length acts + k * cycles_in acts
