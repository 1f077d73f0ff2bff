use Rattle.std.proofs.Common.{◌*◌, ◌-◌, ◌/◌, ◌%◌, ◌≤◌, ◌^◌, arith}
use Rattle.std.proofs.Math.Nat.{min-le_right, mod-le}
use Rattle.std.proofs.Math.Pow.{pow_mono}
use Rattle.cm_gates.proofs.forks.share_of.Goals as goal

pub returns-clause-few : goal.returns-clause-few
returns-clause-few c =
    let most = min-le_right c.args.k (c.args.dims - c.args.dims / 2) in
    let six : c.min-k.result ≤ 6 = omega (arith, most, c.min-k.ensures, c.requires.dimension) in
    let power : 2 ^ c.min-k.result ≤ 2 ^ 6 = pow_mono six in
    let shifted = mod-le (1 * 2 ^ c.min-k.result) 65536 in
    let least = min-le_right c.args.workers (1 * 2 ^ c.min-k.result % 65536) in
    omega (arith, least, shifted, power, c.min.ensures)
