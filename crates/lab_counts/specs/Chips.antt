-- What a petit cycle does at each chip: messages cross out of it, of these some that have not to, and others have to and
-- stay. Ours.
use Rattle.std.specs.Prelude.{ℕ, suc, zero, ◌^◌, List}
use Rattle.cm_model.specs.declared.message.Message.{Message}
use Rattle.cm_model.specs.Array.{nth_or_nil}
use Rattle.cm_model.specs.Wiring.{Routing, way_of}
use Rattle.cm_model.specs.Machine.{Machine}
use Rattle.lab_counts.specs.declared.crossings.Crossings.{Crossings}
use Rattle.lab_counts.specs.Crossings.{crossings_at, machine_before, with_crossings}

-- those known by chip, and those of the first so many chips in dimension d, where these stand at them
unfoldable pub chips_to : Routing → ℕ → ℕ → List (List Message) → List Crossings → ℕ → List Crossings
chips_to routing cap d buffers chips zero = chips
chips_to routing cap d buffers chips (suc c) =
    with_crossings (chips_to routing cap d buffers chips c) c
    (crossings_at (way_of routing c d) cap d (nth_or_nil buffers c))

-- those known by chip, and those of all chips in the first so many dimensions of a petit cycle
unfoldable pub chips_through : ℕ → ℕ → Machine → List Crossings → ℕ → List Crossings
chips_through n cap machine chips zero = chips
chips_through n cap machine chips (suc d) =
    chips_to machine.routing cap d (machine_before n cap machine d).buffers (chips_through n cap machine chips d) (2 ^ n)
