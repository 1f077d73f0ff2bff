use Rattle.std.proofs.Common.{◌≡◌, OnOk, ap, ◌∙◌, sym, subst}
use Rattle.std.proofs.lemmas.Result.{on_ok_weaker}
use Rattle.cm_model.specs.Machine.{Machine}
use Rattle.lab_front.specs.Front.{FrontAnswered, front_of}
use Rattle.lab_front.proofs.Saying.{after_said, after_for_all, after_asked}
use Rattle.lab_front.proofs.front_end.FrontEnd.tell.Goals as goal

pub returns-then-is_of_program-clause-answer : goal.returns-then-is_of_program-clause-answer
returns-then-is_of_program-clause-answer g c =
    subst (λ (a : FrontAnswered). OnOk c.say.result (c.say.new.text.items ≡ a.answer))
    (sym (after_said g.S.Sizes.n g.S.Sizes.cap (front_of c.args.machine.now.machine c.args.self.now) c.args.line.now
    (sym c.is_of_program.ensures.value ∙ c.if-is_of_program.true))) c.say.ensures.answer

pub returns-then-is_of_program-clause-front : goal.returns-then-is_of_program-clause-front
returns-then-is_of_program-clause-front g c =
    subst (λ (a : FrontAnswered). OnOk c.say.result (front_of c.say.new.machine.machine c.say.new.self ≡ a.front))
    (sym (after_said g.S.Sizes.n g.S.Sizes.cap (front_of c.args.machine.now.machine c.args.self.now) c.args.line.now
    (sym c.is_of_program.ensures.value ∙ c.if-is_of_program.true))) c.say.ensures.front

pub returns-then-is_for_all-clause-answer : goal.returns-then-is_for_all-clause-answer
returns-then-is_for_all-clause-answer g c =
    on_ok_weaker c.do_for_all.result
    (λ done. sym (ap (λ (a : FrontAnswered). a.answer)
    (after_for_all g.S.Sizes.n g.S.Sizes.cap (front_of c.args.machine.now.machine c.args.self.now) c.args.line.now
    (sym c.is_of_program.ensures.value ∙ c.if-is_of_program.false) (sym c.is_for_all.ensures.value ∙ c.if-is_for_all.true)
    ∙ done c.args.self.now))) c.do_for_all.ensures.done

pub returns-then-is_for_all-clause-front : goal.returns-then-is_for_all-clause-front
returns-then-is_for_all-clause-front g c =
    on_ok_weaker c.do_for_all.result
    (λ done. sym (ap (λ (a : FrontAnswered). a.front)
    (after_for_all g.S.Sizes.n g.S.Sizes.cap (front_of c.args.machine.now.machine c.args.self.now) c.args.line.now
    (sym c.is_of_program.ensures.value ∙ c.if-is_of_program.false) (sym c.is_for_all.ensures.value ∙ c.if-is_for_all.true)
    ∙ done c.args.self.now))) c.do_for_all.ensures.done

pub returns-else-is_for_all-clause-answer : goal.returns-else-is_for_all-clause-answer
returns-else-is_for_all-clause-answer g c =
    subst (λ (a : FrontAnswered). OnOk c.ask.result (c.ask.new.text.items ≡ a.answer))
    (sym (after_asked g.S.Sizes.n g.S.Sizes.cap (front_of c.args.machine.now.machine c.args.self.now) c.args.line.now
    (sym c.is_of_program.ensures.value ∙ c.if-is_of_program.false)
    (sym c.is_for_all.ensures.value ∙ c.if-is_for_all.false))) c.ask.ensures.answer

pub returns-else-is_for_all-clause-front : goal.returns-else-is_for_all-clause-front
returns-else-is_for_all-clause-front g c =
    on_ok_weaker c.ask.result
    (λ is. ap (λ (m : Machine). front_of m c.args.self.now) is
    ∙ sym (ap (λ (a : FrontAnswered). a.front)
    (after_asked g.S.Sizes.n g.S.Sizes.cap (front_of c.args.machine.now.machine c.args.self.now) c.args.line.now
    (sym c.is_of_program.ensures.value ∙ c.if-is_of_program.false)
    (sym c.is_for_all.ensures.value ∙ c.if-is_for_all.false)))) c.ask.ensures.machine
