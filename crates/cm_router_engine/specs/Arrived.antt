-- At which chips messages have arrived. Ours.
use Rattle.std.specs.Prelude.{ℕ, List, length}
use Rattle.std.specs.List.{list_any}
use Rattle.cm_model.specs.declared.message.Message.{Message}
use Rattle.cm_model.specs.Letters.{has_arrived}
use Rattle.cm_model.specs.Array.{nth_or_nil}
use Rattle.cm_slots.specs.declared.arrivals.Arrivals.{Arrivals}
use Rattle.cm_slots.specs.Arrivals.{AreArrivals}

-- what is known of the chips from one on is so of these buffers
abbrev pub HaveArrivedAt : Arrivals → ℕ → List (List Message) → Type 0
HaveArrivedAt known from buffers =
    AreArrivals known from (length buffers) (λ c. list_any has_arrived (nth_or_nil buffers c))
