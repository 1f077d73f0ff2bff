use Rattle.std.proofs.Common.{◌≡◌, ◌*◌, ◌/◌, ◌%◌, ◌^◌, ◌≤◌, lit<, arith}
use Rattle.std.proofs.Math.Nat.{pow-le-pow_right}
use Rattle.std.proofs.lemmas.Nat.{one_shl}
use Rattle.cm_model.proofs.grid.PlainGrid.chip_columns.Goals as goal

pub returns-clause-within : goal.returns-clause-within
returns-clause-within g c =
    let whole : 1 * 2 ^ (g.row.N / 2) % 65536 ≡ 2 ^ (g.row.N / 2) = one_shl (g.row.N / 2) 16 (omega arith) in
    let few : 2 ^ (g.row.N / 2) ≤ 64 = pow-le-pow_right (lit< tt) (let half : g.row.N / 2 ≤ 6 = omega arith in half) in
    omega arith
