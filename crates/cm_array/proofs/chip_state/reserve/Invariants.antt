use Rattle.std.proofs.Common.{◌≡◌, ℕ, ◌<◌, ◌≤◌, ◌^◌, length}
use Rattle.cm_router.proofs.Rooms.{room_at}
use Rattle.cm_petit.specs.Routers.{events_of}
use Rattle.cm_array.proofs.chip_state.reserve.Given as goal

abbrev pub invariant-loop-c : goal.invariant-loop-c
invariant-loop-c l = record {
  events : events_of l.logs ≡ events_of l.fn.logs;
  room : (k : ℕ) → k < l.c → l.more ≤ room_at l.logs k;
  rest : (k : ℕ) → l.c ≤ k → room_at l.logs k ≡ room_at l.fn.logs k;
  can_be : 0 < l.c → l.more < 2 ^ 63;
  count : length l.logs ≡ length l.fn.logs;
}
