use Rattle.std.proofs.Common.{ℕ, List}
use Rattle.cm_image_format.specs.Whole.{text_of}
use Rattle.cm_image_dump.proofs.Leaving.{all_out, goes_cut, on_both, on_err}
use Rattle.cm_image_dump.proofs.sending.dump_into.Goals as goal

pub returns-in-Ok-clause-ok : goal.returns-in-Ok-clause-ok
returns-in-Ok-clause-ok g c =
    let text : List ℕ = text_of g.S.Sizes.n g.S.Sizes.cap c.args.machine.now.machine in
    on_both c.send_out.result c.send_out.ensures.ok c.send_out.ensures.all
    (λ out none. all_out (g.O.Sink.contents c.args.sink.now) (g.O.Sink.contents c.send_text.new.sink)
    (g.O.Sink.contents c.send_out.new.sink) text c.send_text.new.self.text.items c.send_out.new.text.items
    c.in-Ok.ensures.ok out none)

pub returns-in-Ok-clause-err : goal.returns-in-Ok-clause-err
returns-in-Ok-clause-err g c =
    let text : List ℕ = text_of g.S.Sizes.n g.S.Sizes.cap c.args.machine.now.machine in
    on_err c.send_out.result c.send_out.ensures.err
    (λ cut. goes_cut (g.O.Sink.contents c.args.sink.now) (g.O.Sink.contents c.send_text.new.sink)
    (g.O.Sink.contents c.send_out.new.sink) text c.send_text.new.self.text.items c.in-Ok.ensures.ok cut)
