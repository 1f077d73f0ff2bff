-- Places in the last part of a buffer, as places of the whole. Ours.
use Rattle.std.specs.Prelude.{ℕ, ◌+◌, Option, Some, None, List, drop}
use Rattle.cm_model.specs.declared.message.Message.{Message}
use Rattle.cm_model.specs.Buffers.{oldest_place, youngest_place}

-- a place behind so many others
abbrev pub place_behind : ℕ → Option ℕ → Option ℕ
place_behind i None = None
place_behind i (Some k) = Some (i + k)

-- of a buffer from a place on, the place of the oldest that has to cross dimension d
abbrev pub oldest_from : ℕ → List Message → ℕ → Option ℕ
oldest_from d ms i = place_behind i (oldest_place d (drop i ms))

-- and of the youngest
abbrev pub youngest_from : List Message → ℕ → Option ℕ
youngest_from ms i = place_behind i (youngest_place (drop i ms))
