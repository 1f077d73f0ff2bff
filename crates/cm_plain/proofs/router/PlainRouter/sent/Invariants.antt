use Rattle.std.proofs.Common.{◌≡◌, take, map}
use Rattle.cm_model.specs.Array.{chip_at}
use Rattle.cm_model.specs.Letters.{message_sent}
use Rattle.cm_plain.proofs.router.PlainRouter.sent.Given as goal

abbrev pub invariant-loop-proc : goal.invariant-loop-proc
invariant-loop-proc g l =
    l.sent.items ≡ map (message_sent g.row.N l.self.clock l.chip (chip_at l.self.chips l.chip))
    (take l.proc-index l.proc-items)
