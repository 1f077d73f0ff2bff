use Rattle.std.proofs.Common.{◌≢◌, ℕ, ◌+◌, ◌*◌, ◌<◌, length, refl, ⊎_elim, arith, below_more}
use Rattle.std.proofs.Common.{get_or-set_same, get_or-set_other}
use Rattle.cm_element.proofs.run.lay.write_row.Goals as goal

pub loop-c-preserved : goal.loop-c-preserved
loop-c-preserved c =
    let k : ℕ = c.loop-c.c in
    let at : ℕ = c.args.at in
    let chip : ℕ = c.args.chip in
    let now = c.loop-c.invariant in
    record {
      done = below_more _ _
          (λ j h. let ne : (chip + j) * 4128 + at ≢ (chip + k) * 4128 + at = omega arith in
          rw get_or-set_other (now.done j h))
          (let lt : (chip + k) * 4128 + at < length c.loop-c.planes = omega arith in rw get_or-set_same refl);
      others = λ j i h other.
          let ne : j * 4128 + i ≢ (chip + k) * 4128 + at = ⊎_elim
          (λ (l : j < chip). let ne : j * 4128 + i ≢ (chip + k) * 4128 + at = omega (arith, h, c.requires.at) in ne)
          (λ (d : i ≢ at). let ne : j * 4128 + i ≢ (chip + k) * 4128 + at = omega (arith, h, d, c.requires.at) in ne)
          other in
          rw get_or-set_other (now.others j i h other);
    }
