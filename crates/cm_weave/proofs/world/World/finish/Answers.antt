use Rattle.std.proofs.Common.{◌∙◌, ap}
use Rattle.cm_model.specs.Machine.{run_of}
use Rattle.cm_weave.specs.Woven.{Woven}
use Rattle.cm_weave.proofs.Finishing.{whole_at_end, joined_at_end, finished_here}
use Rattle.cm_weave.proofs.world.World.finish.Goals as goal

pub join-requires : goal.join-requires
join-requires g c = record {
  whole = whole_at_end g.S.Sizes.n g.S.Sizes.cap c.self.inside.k c.self.inside.machine.machine c.self.inside.acts.items
      c.self.inside.rounds.items c.self.inside.blocks.items c.self.inside.stands.items c.self.inside.lanes.items
      c.self.invariant c.clock-clock.ensures.whole
      (finished_here g.S.Sizes.n g.S.Sizes.cap c.self.inside.k c.self.inside.machine.machine c.self.inside.acts.items
      c.self.inside.blocks.items c.self.inside.stands.items c.self.inside.lanes.items c.args.self c.self.view_is
      (c.is_finished.ensures.value.0 c.if-not-is_finished.false));
}

pub returns-clause-ok : goal.returns-clause-ok
returns-clause-ok g c =
    c.join.ensures.value
    ∙ joined_at_end g.S.Sizes.n g.S.Sizes.cap c.self.inside.k c.self.inside.machine.machine c.self.inside.acts.items
    c.self.inside.rounds.items c.self.inside.blocks.items c.self.inside.stands.items c.self.inside.lanes.items
    c.self.invariant c.clock-clock.ensures.whole
    (finished_here g.S.Sizes.n g.S.Sizes.cap c.self.inside.k c.self.inside.machine.machine c.self.inside.acts.items
    c.self.inside.blocks.items c.self.inside.stands.items c.self.inside.lanes.items c.args.self c.self.view_is
    (c.is_finished.ensures.value.0 c.if-not-is_finished.false))
    ∙ ap (λ (z : Woven). run_of g.S.Sizes.n g.S.Sizes.cap z.machine z.acts) c.self.view_is
