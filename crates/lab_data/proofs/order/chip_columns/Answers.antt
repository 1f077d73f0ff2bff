use Rattle.std.proofs.Common.{◌≡◌, ℕ, ◌/◌, ◌^◌, ◌<◌, ◌≤◌, lit<, ap, arith}
use Rattle.std.proofs.Math.Nat.{pow-le-pow_right}
use Rattle.std.proofs.lemmas.Nat.{pow_pos}
use Rattle.lab_data.proofs.order.chip_columns.Goals as goal

pub returns : goal.returns
returns g c =
    let same : 2 ^ (c.args.n / 2) ≡ 2 ^ (g.S.Sizes.n / 2) = ap (λ (k : ℕ). 2 ^ (k / 2)) c.requires.n in
    let some : 0 < 2 ^ (g.S.Sizes.n / 2) = pow_pos (g.S.Sizes.n / 2) in
    let half : g.S.Sizes.n / 2 ≤ 6 = omega (arith, c.requires.dimension) in
    let few : 2 ^ (g.S.Sizes.n / 2) ≤ 64 = pow-le-pow_right (lit< tt) half in
    record { value = omega (arith, same, few); some = omega (arith, same, some, few); within = omega (arith, same, few) }
