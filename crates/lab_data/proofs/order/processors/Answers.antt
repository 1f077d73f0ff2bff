use Rattle.std.proofs.Common.{◌≡◌, ℕ, ◌^◌, ◌≤◌, lit<, ap, arith}
use Rattle.std.proofs.Math.Nat.{pow-le-pow_right}
use Rattle.lab_data.proofs.order.processors.Goals as goal

pub returns : goal.returns
returns g c =
    let same : 2 ^ c.args.n ≡ 2 ^ g.S.Sizes.n = ap (λ (k : ℕ). 2 ^ k) c.requires.n in
    let few : 2 ^ g.S.Sizes.n ≤ 4096 = pow-le-pow_right (lit< tt) c.requires.dimension in
    record { value = omega (arith, same, few); within = omega (arith, same, few) }
