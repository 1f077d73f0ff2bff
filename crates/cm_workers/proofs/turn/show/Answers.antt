use Rattle.std.proofs.Common.{ap}
use Rattle.std.specs.Option.{option_copied}
use Rattle.cm_workers.proofs.Passing.{shown_comes}
use Rattle.cm_workers.proofs.turn.show.Goals as goal

pub come_by-requires-clause-own : goal.come_by-requires-clause-own
come_by-requires-clause-own g c =
    shown_comes (option_copied c.args.turn.now.next) c.in-Some._round.now c.args.worker c.args.turn.now.number
    c.as_told.result c.args.blocks.now c.gather_all.new.blocks (ap option_copied c.in-Some.is)
    c.as_told.ensures.value c.gather_all.ensures.shown c.requires.own
