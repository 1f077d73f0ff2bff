use Rattle.cm_debug.proofs.Ending.{ends_known, ends_some, ends_within, of_acts}
use Rattle.cm_debug.proofs.sessions.session.Goals as goal

pub returns-clause-ends : goal.returns-clause-ends
returns-clause-ends g c =
    ends_known (g.I.Source.left c.args.commands.now) (g.I.Source.left c.answer_all.new.commands)
    (of_acts c.args.program.now.acts c.acts.ensures.value c.answer_all.ensures.ended)

pub returns-clause-heard : goal.returns-clause-heard
returns-clause-heard g c = ends_some (of_acts c.args.program.now.acts c.acts.ensures.value c.answer_all.ensures.ended)

pub returns-clause-within : goal.returns-clause-within
returns-clause-within g c = ends_within (of_acts c.args.program.now.acts c.acts.ensures.value c.answer_all.ensures.ended)
