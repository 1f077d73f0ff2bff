use Rattle.lab_front.proofs.Saying.{still}
use Rattle.lab_front.proofs.front_end.ask.Goals as goal

pub returns-clause-err : goal.returns-clause-err
returns-clause-err g c =
    still g.S.Sizes.n g.S.Sizes.cap _ _ _ c.answer.new.machine.machine
    c.in_ok-debugger.ensures.acts c.clock-clock.ensures.whole c.in-Err.ensures.goes.machine
