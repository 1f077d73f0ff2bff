-- Queues of which one leaves and one comes, whatever stands in them: cm_model's rule for a buffer. Ours.
use Rattle.std.specs.Prelude.{ℕ, ◌≡◌, ◌-◌, ◌==◌, ◌++◌, Bool, List, length, Option, Some, None, if◌then◌else◌}
use Rattle.std.specs.List.{position}
use Rattle.std.specs.Option.{option_or, option_to_list}
use Rattle.cm_model.specs.declared.message.Message.{Message}
use Rattle.cm_model.specs.Router.{has_to_cross}
use Rattle.cm_model.specs.Wiring.{plain_way}
use Rattle.cm_model.specs.Buffers.{leaving_place, element_at, without}

-- the place of the last, where there are as many as there is room for, else none
abbrev pub last_of_full : {X : Type 0} → ℕ → List X → Option ℕ
last_of_full room xs = if length xs == room then Some (length xs - 1) else None

-- the place of who leaves: the first that has to go, else at a full chip the last
unfoldable pub place_of_leaver : {X : Type 0} → (X → Bool) → ℕ → List X → Option ℕ
place_of_leaver has_to_go room xs = option_or (position has_to_go xs) (last_of_full room xs)

-- who leaves, if anyone does
abbrev pub leaver_of : {X : Type 0} → (X → Bool) → ℕ → List X → Option X
leaver_of has_to_go room xs = element_at xs (place_of_leaver has_to_go room xs)

-- who stays
abbrev pub stayers_of : {X : Type 0} → (X → Bool) → ℕ → List X → List X
stayers_of has_to_go room xs = without xs (place_of_leaver has_to_go room xs)

-- what the step over a dimension makes of a queue: who stays, and behind them who comes
abbrev pub after_exchange : {X : Type 0} → (X → Bool) → ℕ → List X → Option X → List X
after_exchange has_to_go room xs coming = stayers_of has_to_go room xs ++ option_to_list coming

-- of a queue of messages that leaves which leaves a buffer
abbrev pub LeaversAreThoseOfBuffers : Type 0
LeaversAreThoseOfBuffers =
    (cap d : ℕ) (ms : List Message) → place_of_leaver (has_to_cross d) cap ms ≡ leaving_place plain_way cap d ms
