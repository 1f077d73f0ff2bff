use Rattle.std.proofs.Common.{ℕ, ◌+◌, ◌-◌, length, ◌∙◌, arith}
use Rattle.cm_bits.specs.Bit.{bit}
use Rattle.cm_model.specs.Processor.{entry}
use Rattle.cm_rows.proofs.Lanes.{length-part, get_or-part}
use Rattle.cm_rows.proofs.tile.look_up.Goals as goal

pub returns : goal.returns
returns c =
    let memory = c.args.memory.now in
    let flags = c.args.flags.now in
    let a : ℕ = c.args.at.a + c.args.from in
    let b : ℕ = c.args.at.b + c.args.from in
    let f : ℕ = c.args.at.read + c.args.from in
    let count : ℕ = length c.args.found.now in
    record {
      value = λ k h p below.
          let here = length-part memory a (a + count - a) (omega (arith, c.requires.a)) in
          c.apply_into.ensures.value.each k (omega (arith, here, h)) p below
          ∙ (λ i. entry c.args.table (bit (get_or-part memory a (a + count - a) k (omega (arith, h)) i) p)
          (bit (get_or-part memory b (b + count - b) k (omega (arith, h)) i) p)
          (bit (get_or-part flags f (f + count - f) k (omega (arith, h)) i) p));
    }
