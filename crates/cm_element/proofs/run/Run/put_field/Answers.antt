use Rattle.cm_element.proofs.Columns.{length-chips_of, has_word}
use Rattle.cm_element.proofs.run.Run.put_field.Goals as goal

pub put_field-requires-clause-place : goal.put_field-requires-clause-place
put_field-requires-clause-place c =
    has_word c.self.inside.memory c.self.inside.flags.items c.self.inside.stride c.self.inside.chips c.args.chip
    c.self.invariant (rw (← c.self.view_is) at c.requires.chip)

pub returns-clause-value : goal.returns-clause-value
returns-clause-value c =
    let run = c.self.inside in
    let here = rw (← c.self.view_is, length-chips_of run.memory run.flags.items run.stride run.chips) at c.requires.chip
    in
    rw (← c.self.view_is) (c.put_field.ensures.value run.flags.items run.chips c.self.invariant here)
