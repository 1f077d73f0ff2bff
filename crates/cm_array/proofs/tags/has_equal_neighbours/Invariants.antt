use Rattle.std.proofs.Common.{◌≢◌, ◌+◌, ◌<◌, ℕ, get_or}
use Rattle.cm_array.specs.Tags.{no_key}
use Rattle.cm_array.proofs.tags.has_equal_neighbours.Given as goal

-- the keys so far are apart, each from the next
abbrev pub invariant-loop-i : goal.invariant-loop-i
invariant-loop-i l = (k : ℕ) → k + 1 < l.i → get_or l.keys k no_key ≢ get_or l.keys (k + 1) no_key
