use Rattle.std.proofs.Common.{◌≡◌, ℕ, ◌∙◌, get_or, sym, ap, arith}
use Rattle.cm_exchange.specs.Steps.{block_of}
use Rattle.cm_weave.proofs.Playing.{stands_now, stand_now, possible_not}
use Rattle.cm_weave.proofs.world.World.can.Goals as goal

pub returns-then-b-len : goal.returns-then-b-len
returns-then-b-len g c =
    let count = stands_now g.S.Sizes.n g.S.Sizes.cap c.self.inside.k c.self.inside.machine.machine c.self.inside.acts.items
    c.self.inside.rounds.items c.self.inside.blocks.items c.self.inside.stands.items c.self.inside.lanes.items
    c.self.invariant c.args.self.now c.self.view_is c.args.step in
    record {
      value = sym (possible_not g.S.Sizes.n g.S.Sizes.cap c.args.self.now c.args.step
          (omega (
            arith,
            count,
            c.if-b-len.true,
            c.len.ensures,
            c.self.inside.stands.ok.0,
            c.from-b.ensures,
            c.block.ensures.value,
          )));
    }

pub can_at-requires : goal.can_at-requires
can_at-requires g c =
    let count = stands_now g.S.Sizes.n g.S.Sizes.cap c.self.inside.k c.self.inside.machine.machine c.self.inside.acts.items
    c.self.inside.rounds.items c.self.inside.blocks.items c.self.inside.stands.items c.self.inside.lanes.items
    c.self.invariant c.args.self.now c.self.view_is c.args.step in
    let b : c.from-b.result ≡ block_of c.args.step = omega (arith, c.from-b.ensures, c.block.ensures.value) in record {
      block = omega (
        arith,
        count,
        c.if-b-len.false,
        c.len.ensures,
        c.self.inside.stands.ok.0,
        c.from-b.ensures,
        c.block.ensures.value,
      );
      stands = stand_now g.S.Sizes.n g.S.Sizes.cap c.self.inside.k c.self.inside.machine.machine c.self.inside.acts.items
          c.self.inside.rounds.items c.self.inside.blocks.items c.self.inside.stands.items c.self.inside.lanes.items
          c.self.invariant c.args.self.now c.self.view_is c.args.step (block_of c.args.step) c.index.result.now
          (omega (
            arith,
            c.if-b-len.false,
            c.len.ensures,
            c.self.inside.stands.ok.0,
            c.from-b.ensures,
            c.block.ensures.value,
          ))
          (c.index.ensures ∙ ap (λ (z : ℕ). get_or c.self.inside.stands.items z c.index.result.now) b);
    }
