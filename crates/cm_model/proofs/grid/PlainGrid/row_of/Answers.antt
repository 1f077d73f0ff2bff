use Rattle.std.proofs.Common.{◌-◌, ◌/◌, ◌^◌, ◌<◌, ◌≤◌, lit<, arith}
use Rattle.std.proofs.Math.Nat.{pow-le-pow_right}
use Rattle.cm_model.proofs.Torus.{chip_row-lt}
use Rattle.cm_model.proofs.grid.PlainGrid.row_of.Goals as goal

pub overflow_mul-result : goal.overflow_mul-result
overflow_mul-result g c =
    let row : c.args.place.now.chip / c.chip_columns.result < 2 ^ (g.row.N - g.row.N / 2) =
    rw c.chip_columns.ensures.value (chip_row-lt g.row.N c.args.place.now.chip c.requires.chip) in
    let few : 2 ^ (g.row.N - g.row.N / 2) ≤ 64 =
    pow-le-pow_right (lit< tt) (let half : g.row.N - g.row.N / 2 ≤ 6 = omega arith in half) in
    omega arith

pub overflow_add-result : goal.overflow_add-result
overflow_add-result g c =
    let row : c.args.place.now.chip / c.chip_columns.result < 2 ^ (g.row.N - g.row.N / 2) =
    rw c.chip_columns.ensures.value (chip_row-lt g.row.N c.args.place.now.chip c.requires.chip) in
    let few : 2 ^ (g.row.N - g.row.N / 2) ≤ 64 =
    pow-le-pow_right (lit< tt) (let half : g.row.N - g.row.N / 2 ≤ 6 = omega arith in half) in
    omega arith

pub returns-clause-within : goal.returns-clause-within
returns-clause-within g c =
    let row : c.args.place.now.chip / c.chip_columns.result < 2 ^ (g.row.N - g.row.N / 2) =
    rw c.chip_columns.ensures.value (chip_row-lt g.row.N c.args.place.now.chip c.requires.chip) in
    omega arith
