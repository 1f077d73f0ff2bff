use Rattle.std.proofs.Common.{◌≡◌}
use Rattle.test_board.specs.Rising.{rising, after}
use Rattle.test_board.proofs.numbers.draw_all.Given as goal

abbrev pub invariant-loop-i : goal.invariant-loop-i
invariant-loop-i g l = record { end : l.end ≡ after l.count l._i; seen : l.seen.items ≡ rising 1 l._i }
