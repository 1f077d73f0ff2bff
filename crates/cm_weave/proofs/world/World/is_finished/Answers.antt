use Rattle.std.proofs.Common.{◌∙◌}
use Rattle.cm_weave.proofs.Finishing.{through_is}
use Rattle.cm_weave.proofs.world.World.is_finished.Goals as goal

pub returns : goal.returns
returns g c = record {
  value = through_is g.S.Sizes.n g.S.Sizes.cap c.self.inside.k c.self.inside.machine.machine c.self.inside.acts.items
      c.self.inside.rounds.items c.self.inside.blocks.items c.self.inside.stands.items c.self.inside.lanes.items
      c.self.invariant c.args.self.now c.self.view_is c.deref.result.now c.len.result c.deref.ensures.value
      (c.len.ensures ∙ c.self.inside.rounds.ok.0) c.are_through.ensures.value;
}
