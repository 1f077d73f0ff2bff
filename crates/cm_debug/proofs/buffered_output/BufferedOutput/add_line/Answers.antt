use Rattle.std.proofs.Common.{◌++◌, Bool, cond, ap, ◌∙◌}
use Rattle.cm_debug.proofs.Sending.{cut_later}
use Rattle.cm_debug.proofs.buffered_output.BufferedOutput.add_line.Goals as goal

pub returns-in-Err-write_all-clause-err : goal.returns-in-Err-write_all-clause-err
returns-in-Err-write_all-clause-err g c =
    let before = c.args.self.now in
    cut_later (g.O.Sink.contents c.args.out.now) (g.O.Sink.contents c.send.new.out)
    (g.O.Sink.contents c.write_all.new.sink) before.bytes.items c.takes_line.new.self.bytes.items before.line.items
    c.deref.result.now before.sent c.takes_line.new.self.sent c.send.new.self.sent c.in-Err-write_all.fault.0
    (c.takes_line.ensures.bytes
    ∙ ap (λ (b : Bool). cond b (before.bytes.items ++ before.line.items) before.bytes.items) c.if-takes_line.false)
    (c.deref.ensures.value ∙ c.send.ensures.line ∙ c.takes_line.ensures.line) c.takes_line.ensures.sent
    c.in-Ok.ensures.written c.in-Ok.ensures.sent c.in-Err-write_all.ensures.err.0 c.in-Err-write_all.ensures.err.1
