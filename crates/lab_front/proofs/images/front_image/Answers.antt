use Rattle.lab_front.proofs.Opening.{unopened_so, ended_so, failed_so}
use Rattle.lab_front.proofs.images.front_image.Goals as goal

pub returns-in-Ok-clause-ok : goal.returns-in-Ok-clause-ok
returns-in-Ok-clause-ok g c =
    ended_so c.args.image.now c.in-Ok.machine (g.I.Source.left c.args.commands.now)
    (g.I.Source.left c.front_any.new.commands) (g.O.Sink.contents c.args.out.now)
    (g.O.Sink.contents c.front_any.new.out) c.front_any.result c.in-Ok.ensures.value c.front_any.ensures.ok

pub returns-in-Ok-clause-err : goal.returns-in-Ok-clause-err
returns-in-Ok-clause-err g c =
    failed_so c.args.image.now c.in-Ok.machine (g.I.Source.left c.args.commands.now)
    (g.I.Source.left c.front_any.new.commands) (g.O.Sink.contents c.args.out.now)
    (g.O.Sink.contents c.front_any.new.out) c.front_any.result c.in-Ok.ensures.value c.front_any.ensures.err

pub returns-in-Err-clause-err : goal.returns-in-Err-clause-err
returns-in-Err-clause-err g c =
    unopened_so c.args.image.now (g.I.Source.left c.args.commands.now) (g.O.Sink.contents c.args.out.now)
    c.in-Err.fault c.from.result c.from.ensures c.in-Err.ensures.refused
