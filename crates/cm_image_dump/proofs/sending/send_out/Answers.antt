use Rattle.cm_image_dump.proofs.Leaving.{goes_to}
use Rattle.cm_image_dump.proofs.sending.send_out.Goals as goal

pub returns-in-Err-clause-err : goal.returns-in-Err-clause-err
returns-in-Err-clause-err g c =
    goes_to (g.O.Sink.contents c.args.sink.now) (g.O.Sink.contents c.write_all.new.sink) c.args.text.now.items _
    (rw c.as_slice.ensures.value at c.in-Err.ensures.err.1)
