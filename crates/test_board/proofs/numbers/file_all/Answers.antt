use Rattle.std.proofs.Common.{ap, sym, ◌∙◌, arith}
use Rattle.cm_board.specs.Courses.{due_now}
use Rattle.test_board.proofs.Counted.{length-rising, rising_at}
use Rattle.test_board.proofs.numbers.file_all.Goals as goal

pub grip-filling-requires : goal.grip-filling-requires
grip-filling-requires g c = rw c.loop-i.invariant (omega (arith, length-rising 1 c.args.count))

pub file-end-requires : goal.file-end-requires
file-end-requires g c =
    let at = c.grip-filling.ensures.end ∙ c.loop-i.invariant in
    record {
      parcel = omega arith ∙ sym (rising_at 1 c.args.count c.loop-i.i 0 c.loop-i-test.true) ∙ sym (ap due_now at);
    }
