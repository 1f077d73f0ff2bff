use Rattle.std.proofs.Common.{◌≡◌, ◌*◌, ◌<◌, ◌≤◌, ◌^◌, ap, arith, lit<, mod-eq_of_lt}
use Rattle.std.proofs.Math.Nat.{pow-le-pow_right}
use Rattle.cm_array.proofs.machine.MachineOf.chip_count.Goals as goal

pub returns-clause-value : goal.returns-clause-value
returns-clause-value g c =
    let dims = c.self.invariant.sized.dims in
    let most : 2 ^ g.S.Sizes.n ≤ 2 ^ 12 = pow-le-pow_right (lit< tt) c.self.invariant.sized.sizes.dimension in
    let same : 2 ^ c.self.inside.state.shape.dims ≡ 2 ^ g.S.Sizes.n = ap (λ n. 2 ^ n) dims in
    let small : 1 * 2 ^ c.self.inside.state.shape.dims < 65536 = omega arith in
    omega (arith, mod-eq_of_lt small)

pub returns-clause-few : goal.returns-clause-few
returns-clause-few g c =
    let dims = c.self.invariant.sized.dims in
    let most : 2 ^ g.S.Sizes.n ≤ 2 ^ 12 = pow-le-pow_right (lit< tt) c.self.invariant.sized.sizes.dimension in
    let same : 2 ^ c.self.inside.state.shape.dims ≡ 2 ^ g.S.Sizes.n = ap (λ n. 2 ^ n) dims in
    let small : 1 * 2 ^ c.self.inside.state.shape.dims < 65536 = omega arith in
    omega (arith, mod-eq_of_lt small)
