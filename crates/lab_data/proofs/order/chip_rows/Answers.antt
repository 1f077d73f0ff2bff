use Rattle.std.proofs.Common.{◌≡◌, ℕ, ◌/◌, ◌-◌, ◌^◌, ◌≤◌, lit<, ap, arith}
use Rattle.std.proofs.Math.Nat.{pow-le-pow_right}
use Rattle.lab_data.proofs.order.chip_rows.Goals as goal

pub returns : goal.returns
returns g c =
    let same : 2 ^ (c.args.n - c.args.n / 2) ≡ 2 ^ (g.S.Sizes.n - g.S.Sizes.n / 2) =
    ap (λ (k : ℕ). 2 ^ (k - k / 2)) c.requires.n in
    let half : g.S.Sizes.n - g.S.Sizes.n / 2 ≤ 6 = omega (arith, c.requires.dimension) in
    let few : 2 ^ (g.S.Sizes.n - g.S.Sizes.n / 2) ≤ 64 = pow-le-pow_right (lit< tt) half in
    record { value = omega (arith, same, few); within = omega (arith, same, few) }
