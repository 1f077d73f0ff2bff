use Rattle.std.proofs.Common.{ap, ◌∙◌}
use Rattle.std.proofs.lemmas.Result.{on_ok_weaker}
use Rattle.cm_bits.specs.Text.{words_of}
use Rattle.lab_front.specs.Front.{acts_line, after_accepted_acts}
use Rattle.lab_front.proofs.Saying.{forgotten, stays, said_ok, said_ok_answer, said_err, said_err_answer}
use Rattle.lab_front.proofs.front_end.FrontEnd.say.Goals as goal

pub returns-in-Err-clause-answer : goal.returns-in-Err-clause-answer
returns-in-Err-clause-answer g c =
    let forgot = c.forget_acts.ensures in
    on_ok_weaker c.refuse.result
    (λ tells. said_err_answer g.S.Sizes.n g.S.Sizes.cap c.args.machine.now.machine c.args.self.now c.forget_acts.new.self
    (words_of c.args.line.now) c.in-Err.kind c.in-Some.number c.refuse.new.text.items
    (forgotten c.self.inside.reader c.forget_acts.new.self c.args.self.now c.self.view_is forgot.fields forgot.context
    forgot.acts) c.in-Some.ensures.own c.in-Err.ensures.fault c.in-Some.ensures.value tells) c.refuse.ensures.ok

pub returns-in-Err-clause-front : goal.returns-in-Err-clause-front
returns-in-Err-clause-front g c =
    let forgot = c.forget_acts.ensures in
    on_ok_weaker c.refuse.result
    (λ tells. said_err g.S.Sizes.n g.S.Sizes.cap c.args.machine.now.machine c.args.self.now c.forget_acts.new.self _
    (words_of c.args.line.now) c.in-Err.kind
    (forgotten c.self.inside.reader c.forget_acts.new.self c.args.self.now c.self.view_is forgot.fields forgot.context
    forgot.acts) c.in-Some.ensures.own c.in-Err.ensures.fault
    (stays c.self.inside.reader c.forget_acts.new.self c.read_line.new.reader c.args.self.now c.self.view_is forgot.fields
    forgot.context c.in-Err.ensures.fields c.in-Err.ensures.context)) c.refuse.ensures.ok

pub returns-clause-answer : goal.returns-clause-answer
returns-clause-answer g c =
    let forgot = c.forget_acts.ensures in
    on_ok_weaker c.run_at_once.result
    (λ tells. said_ok_answer g.S.Sizes.n g.S.Sizes.cap c.args.machine.now.machine c.args.self.now c.forget_acts.new.self
    c.read_line.new.reader (words_of c.args.line.now) c.run_at_once.new.text.items
    (forgotten c.self.inside.reader c.forget_acts.new.self c.args.self.now c.self.view_is forgot.fields forgot.context
    forgot.acts) c.in_default.ensures.ok (tells ∙ ap (acts_line c.args.machine.now.machine) c.acts.ensures.value))
    c.run_at_once.ensures.answer

pub returns-clause-front : goal.returns-clause-front
returns-clause-front g c =
    let forgot = c.forget_acts.ensures in
    on_ok_weaker c.run_at_once.result
    (λ is. said_ok g.S.Sizes.n g.S.Sizes.cap c.args.machine.now.machine c.run_at_once.new.machine.machine c.args.self.now
    c.forget_acts.new.self c.read_line.new.reader (words_of c.args.line.now)
    (forgotten c.self.inside.reader c.forget_acts.new.self c.args.self.now c.self.view_is forgot.fields forgot.context
    forgot.acts) c.in_default.ensures.ok
    (is ∙ ap (after_accepted_acts g.S.Sizes.n g.S.Sizes.cap c.args.machine.now.machine) c.acts.ensures.value)) c.run_at_once.ensures.machine
