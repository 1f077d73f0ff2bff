use Rattle.std.proofs.Common.{sym}
use Rattle.cm_element.proofs.Columns.{length-chips_of}
use Rattle.cm_element.proofs.run.Run.chips.Goals as goal

pub returns : goal.returns
returns c = record {
  value = rw (← c.self.view_is) (sym (length-chips_of c.self.inside.memory c.self.inside.flags.items
      c.self.inside.stride c.self.inside.chips));
}
