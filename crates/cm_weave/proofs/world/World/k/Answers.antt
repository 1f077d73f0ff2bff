use Rattle.cm_weave.proofs.Telling.{on_its_way}
use Rattle.cm_weave.proofs.world.World.k.Goals as goal

pub returns-clause-way : goal.returns-clause-way
returns-clause-way g c =
    on_its_way g.S.Sizes.n g.S.Sizes.cap c.self.inside.k c.self.inside.machine.machine c.self.inside.acts.items
    c.self.inside.rounds.items c.self.inside.blocks.items c.self.inside.stands.items c.self.inside.lanes.items
    c.self.invariant c.args.self.now c.self.view_is
