use Rattle.std.proofs.Common.{◌*◌, ◌^◌, arith}
use Rattle.std.proofs.lemmas.Nat.{mul-le}
use Rattle.lab_load.proofs.spreads.scatter_of.Goals as goal

pub overflow_mul-all : goal.overflow_mul-all
overflow_mul-all c =
    omega (arith, mul-le c.args.count c.args.squares 1000 (1000 * 2 ^ 78) c.requires.few c.requires.squares)

pub overflow_mul-total : goal.overflow_mul-total
overflow_mul-total c =
    omega (arith, mul-le c.args.total c.args.total (1000 * 2 ^ 39) (1000 * 2 ^ 39) c.requires.total c.requires.total)

pub returns-clause-within : goal.returns-clause-within
returns-clause-within c =
    omega (
      arith,
      mul-le c.args.count c.args.squares 1000 (1000 * 2 ^ 78) c.requires.few c.requires.squares,
      c.saturating_sub.ensures,
    )
