use Rattle.std.proofs.Common.{length, refl, ap, arith}
use Rattle.cm_session.specs.declared.fault.SessionFault.TheVariants.{Write}
use Rattle.cm_debug.proofs.Taking.{sent_on, sent_taken, stopped_after, stopped_between}
use Rattle.cm_debug.proofs.console.Console.feed.Goals as goal

pub returns-in-Ok-send-clause-takes : goal.returns-in-Ok-send-clause-takes
returns-in-Ok-send-clause-takes g c =
    sent_taken _ _ _ c.in-Ok.ensures.takes (sent_on _ _ _ _ c.in-Ok-send.ensures.written c.in-Ok-send.ensures.none)
    (omega (arith, ap length c.in-Ok-send.ensures.none, c.in-Ok-send.ensures.sent))

pub returns-in-Err-send-clause-takes : goal.returns-in-Err-send-clause-takes
returns-in-Err-send-clause-takes g c =
    stopped_after c.in-Ok.ensures.takes
    (stopped_between _ _ (Write c.in-Err-send.cut.0) c.in-Err-send.ensures.err refl refl refl)
