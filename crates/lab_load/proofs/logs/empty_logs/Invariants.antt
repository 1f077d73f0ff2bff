use Rattle.std.proofs.Common.{◌≡◌, ℕ, ◌<◌, ◌≤◌, [], get_or, length}
use Rattle.cm_router.specs.Logs.{Log}
use Rattle.cm_router.proofs.Rooms.{room_at}
use Rattle.lab_load.proofs.logs.empty_logs.Given as goal

-- so many logs are empty, and have room
abbrev pub invariant-loop-c : goal.invariant-loop-c
invariant-loop-c l = record {
  empty : (k : ℕ) (d : Log) → k < l.c → (get_or l.logs k d).items ≡ [];
  room : (k : ℕ) → k < l.c → l.room ≤ room_at l.logs k;
  count : length l.logs ≡ length l.fn.logs;
}
