use Rattle.std.proofs.Common.{◌^◌, ◌≤◌, lit<, arith}
use Rattle.std.proofs.Math.Nat.{pow-le-pow_right}
use Rattle.lab_load.proofs.figures.chip_count.Goals as goal

pub returns-clause-few : goal.returns-clause-few
returns-clause-few c =
    let few : 2 ^ c.args.n ≤ 4096 = pow-le-pow_right (lit< tt) c.requires.dimension in
    omega (arith, few)
