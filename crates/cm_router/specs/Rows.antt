-- A row into which many chips tell their events, in the order in which they are told. Ours.
use Rattle.std.specs.Prelude.{ℕ, ◌++◌, ◌==◌, List, length}
use Rattle.std.specs.List.{filter}
use Rattle.cm_model.specs.declared.message.Event.{Event}
use Rattle.cm_model.specs.declared.message.Event.TheVariants.{Injected, Delivered}
use Rattle.cm_model.specs.Each.{tabulate}
use Rattle.cm_model.specs.Array.{nth_or_nil}

-- the number of the chip whose router tells an event
abbrev pub logging_chip : Event → ℕ
logging_chip (Injected m) = m.tag.chip
logging_chip (Delivered chip m) = chip

-- what a chip tells in a row of events, in their order
abbrev pub events_of_chip : ℕ → List Event → List Event
events_of_chip c row = filter (λ e. logging_chip e == c) row

-- logs by chip, behind each of which stands what a row tells of its chip
abbrev pub with_row : List (List Event) → List Event → List (List Event)
with_row logs row = tabulate 0 (length logs) (λ c. nth_or_nil logs c ++ events_of_chip c row)
