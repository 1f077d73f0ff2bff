use Rattle.std.proofs.Common.{◌+◌, get_or, ◌∙◌, arith}
use Rattle.cm_rows.specs.Rows.{looked_up}
use Rattle.cm_rows.proofs.Words.{bit-before}
use Rattle.cm_rows.proofs.tile.find_outputs.Goals as goal

pub returns-then-chained : goal.returns-then-chained
returns-then-chained c =
    let at = c.args.at in
    let from = c.args.from in
    record {
      value = λ k h p below. rw c.if-chained.true
          (c.pass_on.ensures.value k (omega (arith, h, c.look_up.auto.found)) p below
          ∙ bit-before (get_or c.look_up.new.found k 0)
          (looked_up c.args.table (get_or c.args.memory.now (at.a + from + k) 0)
          (get_or c.args.memory.now (at.b + from + k) 0) (get_or c.args.flags.now (at.read + from + k) 0))
          (c.look_up.ensures.value k h) p below);
    }
