use Rattle.std.proofs.Common.{◌≡◌, ℕ, ◌<◌, []}
use Rattle.cm_model.specs.Array.{nth_or_nil}
use Rattle.cm_petit.specs.Routers.{events_of}
use Rattle.cm_array.proofs.row.has_events.Given as goal

abbrev pub invariant-loop-c : goal.invariant-loop-c
invariant-loop-c l = (k : ℕ) → k < l.c → nth_or_nil (events_of l.logs) k ≡ []
