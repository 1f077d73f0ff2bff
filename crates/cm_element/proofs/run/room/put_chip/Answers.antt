use Rattle.std.proofs.Common.{◌≢◌, ℕ, ◌+◌, ◌*◌, ◌<◌, length, refl, arith, below_more, get_or-set_same, get_or-set_other}
use Rattle.cm_element.proofs.run.room.put_chip.Goals as goal

pub loop-k-preserved : goal.loop-k-preserved
loop-k-preserved c =
    let k : ℕ = c.loop-k.k in
    let column : ℕ = c.args.column in
    let now = c.loop-k.invariant in
    record {
      done = below_more _ _
          (λ j h. let ne : j * 256 + column ≢ k * 256 + column = omega arith in rw get_or-set_other (now.done j h))
          (let lt : k * 256 + column < length c.loop-k.room = omega arith in rw get_or-set_same refl);
      others = λ j i h other. let ne : j * 256 + i ≢ k * 256 + column = omega (arith, h, other, c.requires.column) in
          rw get_or-set_other (now.others j i h other);
    }
