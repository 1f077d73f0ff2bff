use Rattle.std.proofs.Common.{◌≡◌, ℕ, ◌<◌, ◌≤◌, length}
use Rattle.cm_router.proofs.Rooms.{room_at}
use Rattle.cm_petit.specs.Routers.{events_of}
use Rattle.lab_machine.proofs.log_room.make_room.Given as goal

-- so many logs have room, and all have their events
abbrev pub invariant-loop-c : goal.invariant-loop-c
invariant-loop-c l = record {
  events : events_of l.logs ≡ events_of l.fn.logs;
  room : (k : ℕ) → k < l.c → l.more ≤ room_at l.logs k;
  count : length l.logs ≡ length l.fn.logs;
}
