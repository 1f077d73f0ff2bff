use Rattle.std.proofs.Common.{ℕ, List, length, ap, subst, arith}
use Rattle.cm_model.specs.Machine.{Machine}
use Rattle.cm_image_format.specs.Whole.{text_of}
use Rattle.cm_image_dump.specs.Sending.{GoesOut, GoesOutInPart}
use Rattle.cm_image_dump.proofs.Leaving.{front_first, goes_none, on_ok, on_err, stops}
use Rattle.cm_image_dump.proofs.sending.DumpRoom.send_text.Goals as goal

pub returns-in_default-clause-err : goal.returns-in_default-clause-err
returns-in_default-clause-err g c =
    let text : List ℕ = text_of g.S.Sizes.n g.S.Sizes.cap c.args.machine.now.machine in
    stops (g.O.Sink.contents c.args.sink.now) (g.O.Sink.contents c.args.sink.now) text text
    (goes_none (g.O.Sink.contents c.args.sink.now) text)

pub returns-clause-ok : goal.returns-clause-ok
returns-clause-ok g c =
    let machine : Machine = c.args.machine.now.machine in
    let whole = front_first g.S.Sizes.n g.S.Sizes.cap machine c.args.self.now.text.items c.push_front.new.text.items
    c.requires.laid.empty c.in-Ok.ensures.ok in
    on_ok c.send_chips.result c.send_chips.ensures.ok
    (λ gone. subst (λ (xs : List ℕ). GoesOut (g.O.Sink.contents c.args.sink.now)
    (g.O.Sink.contents c.send_chips.new.sink) xs c.send_chips.new.text.items) whole gone)

pub returns-clause-err : goal.returns-clause-err
returns-clause-err g c =
    let machine : Machine = c.args.machine.now.machine in
    let whole = front_first g.S.Sizes.n g.S.Sizes.cap machine c.args.self.now.text.items c.push_front.new.text.items
    c.requires.laid.empty c.in-Ok.ensures.ok in
    on_err c.send_chips.result c.send_chips.ensures.err
    (λ cut. subst (λ (xs : List ℕ). GoesOutInPart (g.O.Sink.contents c.args.sink.now)
    (g.O.Sink.contents c.send_chips.new.sink) xs) whole cut)

pub returns-clause-memory : goal.returns-clause-memory
returns-clause-memory g c = λ large room.
    c.send_chips.ensures.memory
    (omega (arith, large, c.in-Ok.ensures.grows, ap length c.requires.laid.empty))
    (omega (arith, room, c.push_front.ensures.capacity))
