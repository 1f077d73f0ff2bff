use Rattle.cm_system.proofs.Putting.{front_out}
use Rattle.cm_system.proofs.written.RefSliceU8Written.write.Goals as goal

pub returns-in-Err-clause-err : goal.returns-in-Err-clause-err
returns-in-Err-clause-err g c =
    front_out (g.O.Sink.contents c.args.sink.now) (g.O.Sink.contents c.write_all.new.sink) c.args.self.now _
    c.in-Err.ensures.err.1
