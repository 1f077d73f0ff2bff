-- How long an image can be. Ours.
use Rattle.std.specs.Prelude.{ℕ, ◌+◌, ◌*◌, ◌/◌, ◌^◌, ◌≤◌, length}
use Rattle.cm_model.specs.Machine.{Machine}
use Rattle.cm_image_format.specs.Whole.{text_of}
use Rattle.cm_image_format.specs.Laws.{HasText}

-- the bytes of the longest image of these sizes: all wires are cut, all planes listed, and every router is full
abbrev pub longest : ℕ → ℕ → ℕ
longest n cap = 18 + n * 2 ^ n / 2 * 3 + 2 ^ n * (35 + 4096 * 4 + cap * 18)

-- no image of a machine of these sizes is longer
abbrev pub TextsAreShort : Type 0
TextsAreShort = (n cap : ℕ) (machine : Machine) → HasText n cap machine → length (text_of n cap machine) ≤ longest n cap
