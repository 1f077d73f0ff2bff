use Rattle.std.proofs.Common.{arith}
use Rattle.cm_model.proofs.Rooms.{choosing_makes_room}
use Rattle.cm_router.proofs.node.Node.leave.Goals as goal

pub returns-in_err-place-clause-room : goal.returns-in_err-place-clause-room
returns-in_err-place-clause-room c joined =
    let less = choosing_makes_room c.args.rule c.args.self.now.room c.args.dim c.args.self.now.messages in
    grind (arith, less)
