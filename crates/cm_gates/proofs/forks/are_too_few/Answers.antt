use Rattle.std.proofs.Common.{◌≤◌, ◌^◌, arith}
use Rattle.std.proofs.Math.Pow.{pow_mono}
use Rattle.std.proofs.lemmas.Bool.Decides.{nat_tests}
use Rattle.cm_gates.proofs.forks.are_too_few.Goals as goal

pub returns-else-k-lt16 : goal.returns-else-k-lt16
returns-else-k-lt16 c =
    let far : 16 ≤ c.args.k = omega (arith, c.if-k-lt16.false) in
    let many : 2 ^ 16 ≤ 2 ^ c.args.k = pow_mono far in
    let few = c.ranges.workers.fits in
    record { value = grind (arith, nat_tests) }
