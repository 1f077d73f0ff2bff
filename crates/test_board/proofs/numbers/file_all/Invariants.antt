use Rattle.std.proofs.Common.{◌≡◌}
use Rattle.test_board.specs.Rising.{after}
use Rattle.test_board.proofs.numbers.file_all.Given as goal

abbrev pub invariant-loop-i : goal.invariant-loop-i
invariant-loop-i g l = l.end ≡ after l.count l.i
