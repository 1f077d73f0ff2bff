use Rattle.std.proofs.Common.{arith}
use Rattle.cm_image_dump.proofs.dumps.text_is_read.Goals as goal

pub returns : goal.returns
returns g c =
    let sizes = c.clock.ensures.sizes in
    c.texts_leave_out_logs.ensures g.S.Sizes.n g.S.Sizes.cap c.args.machine.now.machine
    (record {
      dimension = sizes.dimension;
      some_room = sizes.some_room;
      most_room = sizes.most_room;
      clock = omega (arith, c.clock.ensures.value, c.clock.ensures.within);
      whole = c.clock.ensures.whole;
    })
