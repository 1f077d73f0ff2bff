use Rattle.std.proofs.Common.{◌^◌, ◌≤◌, arith, lit<}
use Rattle.std.proofs.Math.Nat.{pow-le-pow_right}
use Rattle.lab_load.proofs.offers.Load.places.Goals as goal

pub returns-clause-within : goal.returns-clause-within
returns-clause-within c =
    let most : 2 ^ c.args.self.now.dims ≤ 2 ^ 12 = pow-le-pow_right (lit< tt) c.requires.dimension in omega arith
