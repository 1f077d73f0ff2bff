use Rattle.std.proofs.Common.{refl}
use Rattle.cm_session.specs.declared.fault.SessionFault.TheVariants.{Write}
use Rattle.cm_debug.proofs.Taking.{line_stopped, line_taken, stopped_between}
use Rattle.cm_debug.proofs.console.Console.end_line.Goals as goal

pub returns-in-Err-clause-takes : goal.returns-in-Err-clause-takes
returns-in-Err-clause-takes g c = stopped_between _ _ _ c.give_up.ensures.value refl c.give_up.ensures.thread refl

pub returns-in-Err-send_before-clause-takes : goal.returns-in-Err-send_before-clause-takes
returns-in-Err-send_before-clause-takes g c =
    stopped_between _ _ (Write c.in-Err-send_before.cut.0) c.in-Err-send_before.ensures.err refl refl refl

pub returns-in-Ok-tell-clause-takes : goal.returns-in-Ok-tell-clause-takes
returns-in-Ok-tell-clause-takes g c =
    line_taken _ _ _ _ _ c.requires.unended c.in-Ok.ensures.asked c.in-Ok.ensures.none
    c.in-Ok-send_before.ensures.written c.in-Ok-send_before.ensures.count c.in-Ok-tell.ensures.tells

pub returns-in-Err-tell-clause-takes : goal.returns-in-Err-tell-clause-takes
returns-in-Err-tell-clause-takes g c =
    line_stopped _ _ _ _ _ c.requires.unended c.in-Ok.ensures.asked c.in-Ok-send_before.ensures.written
    c.in-Ok-send_before.ensures.count c.in-Err-tell.ensures.tells
