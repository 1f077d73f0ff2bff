use Rattle.std.proofs.Common.{ℕ, ◌<◌, ◌∙◌, sym, ap, subst}
use Rattle.cm_exchange.specs.Worlds.{lane_number}
use Rattle.cm_subcube.specs.Parcels.{CanBeOver}
use Rattle.cm_weave.specs.Kinds.{round_kind_number, mover}
use Rattle.cm_weave.proofs.Playing.{kind_asked, at_below_asked, free_asked}
use Rattle.cm_weave.proofs.world.World.is_free.Goals as goal

pub lane_moved-at-requires-clause-kind : goal.lane_moved-at-requires-clause-kind
lane_moved-at-requires-clause-kind g c =
    subst (λ (n : ℕ). CanBeOver n c.self.inside.k c.index.result.now.kind) (sym c.dims.ensures.value)
    (kind_asked g.S.Sizes.n g.S.Sizes.cap c.self.inside.k c.self.inside.machine.machine c.self.inside.acts.items
    c.self.inside.rounds.items c.self.inside.blocks.items c.self.inside.stands.items c.self.inside.lanes.items
    c.self.invariant c.args.self.now c.self.view_is c.args.step c.args.stand c.requires.block c.requires.stands
    c.requires.round c.index.result.now c.index.ensures)

pub index-requires-2 : goal.index-requires-2
index-requires-2 g c =
    subst (λ (n : ℕ). c.lane_moved-at.result < n) (sym c.self.inside.lanes.ok.0)
    (at_below_asked g.S.Sizes.n g.S.Sizes.cap c.self.inside.k c.self.inside.machine.machine c.self.inside.acts.items
    c.self.inside.rounds.items c.self.inside.blocks.items c.self.inside.stands.items c.self.inside.lanes.items
    c.self.invariant c.args.self.now c.self.view_is c.args.step c.args.stand c.requires.block c.requires.stands
    c.requires.round c.index.result.now c.lane_moved-at.result c.index.ensures
    (c.lane_moved-at.ensures.value
    ∙ ap (λ (n : ℕ). lane_number c.self.inside.k (round_kind_number n c.self.inside.k c.index.result.now.kind)
    (mover c.self.inside.k (round_kind_number n c.self.inside.k c.index.result.now.kind) c.args.step)) c.dims.ensures.value))

pub returns : goal.returns
returns g c = record {
  value = free_asked g.S.Sizes.n g.S.Sizes.cap c.self.inside.k c.self.inside.machine.machine c.self.inside.acts.items
      c.self.inside.rounds.items c.self.inside.blocks.items c.self.inside.stands.items c.self.inside.lanes.items
      c.self.invariant c.args.self.now c.self.view_is c.args.step c.args.stand c.requires.block c.requires.stands
      c.requires.round c.index.result.now c.lane_moved-at.result c.index-2.result.now c.is_ready.result
      c.requires.stage c.index.ensures
      (c.lane_moved-at.ensures.value
      ∙ ap (λ (n : ℕ). lane_number c.self.inside.k (round_kind_number n c.self.inside.k c.index.result.now.kind)
      (mover c.self.inside.k (round_kind_number n c.self.inside.k c.index.result.now.kind) c.args.step)) c.dims.ensures.value)
      c.index-2.ensures c.is_ready.ensures.value;
}
