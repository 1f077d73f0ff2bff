use Rattle.std.proofs.Common.{◌∙◌, sym, arith}
use Rattle.cm_weave.proofs.Playing.{rounds_now, over_not, stage_not}
use Rattle.cm_weave.proofs.world.World.can_at.Goals as goal

pub returns-then-stand-len : goal.returns-then-stand-len
returns-then-stand-len g c =
    let count = rounds_now g.S.Sizes.n g.S.Sizes.cap c.self.inside.k c.self.inside.machine.machine c.self.inside.acts.items
    c.self.inside.rounds.items c.self.inside.blocks.items c.self.inside.stands.items c.self.inside.lanes.items
    c.self.invariant c.args.self.now c.self.view_is c.args.step in
    record {
      value = sym (over_not g.S.Sizes.n g.S.Sizes.cap c.args.self.now c.args.step c.args.stand c.requires.stands
          (omega (arith, count, c.if-stand-len.true, c.len.ensures, c.self.inside.rounds.ok.0)));
    }

pub returns-then-stand-stage : goal.returns-then-stand-stage
returns-then-stand-stage g c = record {
  value = sym (stage_not g.S.Sizes.n g.S.Sizes.cap c.args.self.now c.args.step c.args.stand c.requires.stands
      (λ e. c.if-stand-stage.true (e ∙ sym c.stage.ensures.value)));
}
