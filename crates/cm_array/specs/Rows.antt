-- What a row tells, as it is put behind the logs of some of the chips. Ours.
use Rattle.std.specs.Prelude.{ℕ, ◌+◌, ◌++◌, List, length}
use Rattle.cm_model.specs.declared.message.Event.{Event}
use Rattle.cm_model.specs.Each.{tabulate}
use Rattle.cm_model.specs.Array.{nth_or_nil}
use Rattle.cm_router.specs.Rows.{events_of_chip}

-- logs of chips from one on, behind each of which stands what a row tells of its chip
abbrev pub dealt : ℕ → List (List Event) → List Event → List (List Event)
dealt first logs row = tabulate 0 (length logs) (λ c. nth_or_nil logs c ++ events_of_chip (first + c) row)
