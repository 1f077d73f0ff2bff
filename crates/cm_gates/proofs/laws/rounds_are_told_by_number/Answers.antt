use Rattle.std.proofs.Common.{arith}
use Rattle.std.proofs.Math.Nat.{min-eq_left}
use Rattle.cm_gates.proofs.laws.rounds_are_told_by_number.Goals as goal

pub returns : goal.returns
returns c number below = min-eq_left (omega (arith, below))
