use Rattle.cm_element.proofs.Columns.{length-chips_of}
use Rattle.cm_element.proofs.run.Run.send.Goals as goal

pub look_up_row-requires-clause-found : goal.look_up_row-requires-clause-found
look_up_row-requires-clause-found c =
    rw (
      ← c.self.view_is,
      length-chips_of c.self.inside.memory c.self.inside.flags.items c.self.inside.stride c.self.inside.chips,
    ) at c.requires.sent

pub returns : goal.returns
returns c = record {
  value = rw (← c.self.view_is, ← c.deref.ensures.value)
      (record { each = c.look_up_row.ensures.value.each });
}
