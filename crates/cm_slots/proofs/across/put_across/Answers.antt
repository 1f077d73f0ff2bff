use Rattle.std.proofs.Common.{◌≡◌, ◌*◌, ◌%◌, ◌^◌, arith}
use Rattle.std.proofs.lemmas.Nat.{pow_below}
use Rattle.cm_slots.proofs.Numbers.{power}
use Rattle.cm_slots.proofs.across.put_across.Goals as goal

pub returns-clause-value : goal.returns-clause-value
returns-clause-value c = λ i h.
    let fits : 1 * 2 ^ c.args.dim % 65536 ≡ 2 ^ c.args.dim = omega (arith, pow_below c.args.dim 12 c.requires.dimension) in
    rw (power c.args.dim) (rw fits at (c.put_over.ensures.value i h))
