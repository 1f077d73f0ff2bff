use Rattle.std.proofs.Common.{arith}
use Rattle.test_board.proofs.Counted.{length-rising}
use Rattle.test_board.proofs.numbers.opened.Goals as goal

pub open-requires : goal.open-requires
open-requires g = record { few = omega (arith, length-rising 1 g.args.count) }
