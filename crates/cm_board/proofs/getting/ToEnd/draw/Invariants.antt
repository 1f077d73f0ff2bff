use Rattle.std.proofs.Common.{◌≡◌}
use Rattle.cm_board.proofs.getting.ToEnd.draw.Given as goal

abbrev pub invariant-loop-try : goal.invariant-loop-try
invariant-loop-try g l = (l.seat.table_id ≡ l.initial.seat.table_id) × (l.seat.me ≡ l.initial.seat.me)
