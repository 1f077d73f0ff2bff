use Rattle.std.proofs.Common.{◌^◌, ◌≤◌, lit<, arith}
use Rattle.std.proofs.Math.Nat.{pow-le-pow_right}
use Rattle.lab_front.proofs.for_all.processors.Goals as goal

pub returns-clause-within : goal.returns-clause-within
returns-clause-within c =
    let few : 2 ^ c.args.dimensions ≤ 4096 = pow-le-pow_right (lit< tt) c.requires.dimension in
    omega (arith, few)
