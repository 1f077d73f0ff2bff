use Rattle.std.proofs.Common.{◌≤◌, ◌<◌, ℕ}
use Rattle.cm_router.proofs.Rooms.{room_at}
use Rattle.cm_petit.proofs.ready.has_log_room.Given as goal

abbrev pub invariant-loop-log : goal.invariant-loop-log
invariant-loop-log l = record { room : (c : ℕ) → c < l.log-index → l.count ≤ room_at l.logs c }
