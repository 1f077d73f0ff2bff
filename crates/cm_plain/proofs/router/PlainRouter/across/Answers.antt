use Rattle.std.proofs.Common.{◌≡◌, ◌*◌, ◌%◌, ◌^◌, arith}
use Rattle.std.proofs.lemmas.Nat.{one_shl}
use Rattle.cm_model.proofs.Flips.{across_below}
use Rattle.cm_plain.proofs.router.PlainRouter.across.Goals as goal

pub returns-clause-within : goal.returns-clause-within
returns-clause-within g c =
    let whole : 1 * 2 ^ c.args.dim % 65536 ≡ 2 ^ c.args.dim = one_shl c.args.dim 16 (omega arith) in
    rw whole (across_below g.row.N c.args.dim c.args.chip c.requires.dim c.requires.chip)
