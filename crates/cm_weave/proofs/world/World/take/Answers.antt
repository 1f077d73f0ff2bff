use Rattle.std.proofs.Common.{ℕ, List, ◌<◌, ◌∙◌, length, sym, ap, subst}
use Rattle.cm_model.specs.declared.act.Act.{Act}
use Rattle.cm_exchange.specs.Worlds.{lane_number}
use Rattle.cm_subcube.specs.Parcels.{CanBeOver}
use Rattle.cm_weave.specs.Kinds.{round_kind_number, mover}
use Rattle.cm_weave.specs.Moves.{CanWeave, HasWoven}
use Rattle.cm_weave.proofs.Playing.{taken_below, taken_in_stands, taken_in_blocks, taken_in_rounds, taken_few}
use Rattle.cm_weave.proofs.Playing.{taken_kind}
use Rattle.cm_weave.proofs.Playing.{taken_in_lanes, taken_can, taken_woven, taken_world}
use Rattle.cm_weave.proofs.world.World.take.Goals as goal

pub index-stand-requires : goal.index-stand-requires
index-stand-requires g c =
    subst (λ (n : ℕ). c.from-b.result < n) (sym c.self.inside.stands.ok.0)
    (subst (λ (n : ℕ). n < length c.self.inside.stands.items) (sym (c.from-b.ensures ∙ c.block.ensures.value))
    (taken_in_stands g.S.Sizes.n g.S.Sizes.cap c.self.inside.k c.self.inside.machine.machine c.self.inside.acts.items
    c.self.inside.rounds.items c.self.inside.blocks.items c.self.inside.stands.items c.self.inside.lanes.items
    c.self.invariant c.args.self.now c.self.view_is c.args.step c.requires.can))

pub index-requires : goal.index-requires
index-requires g c =
    subst (λ (n : ℕ). c.index-stand.result.now.round < n) (sym c.self.inside.rounds.ok.0)
    (taken_in_rounds g.S.Sizes.n g.S.Sizes.cap c.self.inside.k c.self.inside.machine.machine c.self.inside.acts.items
    c.self.inside.rounds.items c.self.inside.blocks.items c.self.inside.stands.items c.self.inside.lanes.items
    c.self.invariant c.args.self.now c.self.view_is c.args.step c.requires.can
    c.from-b.result c.index-stand.result.now (c.from-b.ensures ∙ c.block.ensures.value) c.index-stand.ensures)

pub lane_moved-at-requires-clause-block : goal.lane_moved-at-requires-clause-block
lane_moved-at-requires-clause-block g c =
    taken_below g.S.Sizes.n g.S.Sizes.cap c.self.inside.k c.self.inside.machine.machine c.self.inside.acts.items
    c.self.inside.rounds.items c.self.inside.blocks.items c.self.inside.stands.items c.self.inside.lanes.items
    c.self.invariant c.args.self.now c.self.view_is c.args.step c.requires.can

pub lane_moved-at-requires-clause-kind : goal.lane_moved-at-requires-clause-kind
lane_moved-at-requires-clause-kind g c =
    subst (λ (n : ℕ). CanBeOver n c.self.inside.k c.index.result.now.kind) (sym c.dims.ensures.value)
    (taken_kind g.S.Sizes.n g.S.Sizes.cap c.self.inside.k c.self.inside.machine.machine c.self.inside.acts.items
    c.self.inside.rounds.items c.self.inside.blocks.items c.self.inside.stands.items c.self.inside.lanes.items
    c.self.invariant c.args.self.now c.self.view_is c.args.step c.requires.can
    c.from-b.result c.index-stand.result.now c.index.result.now 0 (c.from-b.ensures
    ∙ c.block.ensures.value) c.index-stand.ensures c.index.ensures)

pub index_mut-requires : goal.index_mut-requires
index_mut-requires g c =
    subst (λ (n : ℕ). c.from-b.result < n) (sym c.self.inside.blocks.ok.0)
    (subst (λ (n : ℕ). n < length c.self.inside.blocks.items) (sym (c.from-b.ensures ∙ c.block.ensures.value))
    (taken_in_blocks g.S.Sizes.n g.S.Sizes.cap c.self.inside.k c.self.inside.machine.machine c.self.inside.acts.items
    c.self.inside.rounds.items c.self.inside.blocks.items c.self.inside.stands.items c.self.inside.lanes.items
    c.self.invariant c.args.self.now c.self.view_is c.args.step c.requires.can))

pub index_mut-requires-2 : goal.index_mut-requires-2
index_mut-requires-2 g c =
    subst (λ (n : ℕ). c.lane_moved-at.result < n) (sym c.self.inside.lanes.ok.0)
    (taken_in_lanes g.S.Sizes.n g.S.Sizes.cap c.self.inside.k c.self.inside.machine.machine c.self.inside.acts.items
    c.self.inside.rounds.items c.self.inside.blocks.items c.self.inside.stands.items c.self.inside.lanes.items
    c.self.invariant c.args.self.now c.self.view_is c.args.step c.requires.can
    c.from-b.result c.index-stand.result.now c.index.result.now c.lane_moved-at.result (c.from-b.ensures
    ∙ c.block.ensures.value) c.index-stand.ensures
    c.index.ensures
    (c.lane_moved-at.ensures.value
    ∙ ap (λ (n : ℕ). lane_number c.self.inside.k (round_kind_number n c.self.inside.k c.index.result.now.kind)
    (mover c.self.inside.k (round_kind_number n c.self.inside.k c.index.result.now.kind) c.args.step)) c.dims.ensures.value))

pub weave-requires : goal.weave-requires
weave-requires g c = record {
  can = subst (λ (acts : List Act). CanWeave acts c.args.step c.index.result.now c.index_mut.result.now
      c.index_mut-2.result.now) (sym c.deref.ensures.value)
      (taken_can g.S.Sizes.n g.S.Sizes.cap c.self.inside.k c.self.inside.machine.machine c.self.inside.acts.items
      c.self.inside.rounds.items c.self.inside.blocks.items c.self.inside.stands.items c.self.inside.lanes.items
      c.self.invariant c.args.self.now c.self.view_is c.args.step c.requires.can
      c.from-b.result c.index-stand.result.now c.index.result.now c.lane_moved-at.result (c.from-b.ensures
      ∙ c.block.ensures.value) c.index-stand.ensures
      c.index.ensures
      (c.lane_moved-at.ensures.value
      ∙ ap (λ (n : ℕ). lane_number c.self.inside.k (round_kind_number n c.self.inside.k c.index.result.now.kind)
      (mover c.self.inside.k (round_kind_number n c.self.inside.k c.index.result.now.kind) c.args.step)) c.dims.ensures.value)
      c.index_mut.result.now c.index_mut-2.result.now c.index_mut.ensures.value c.index_mut-2.ensures.value);
}

pub go_on-requires : goal.go_on-requires
go_on-requires g c = record {
  few = taken_few g.S.Sizes.n g.S.Sizes.cap c.self.inside.k c.self.inside.machine.machine c.self.inside.acts.items
      c.self.inside.rounds.items c.self.inside.blocks.items c.self.inside.stands.items c.self.inside.lanes.items
      c.self.invariant c.args.self.now c.self.view_is c.args.step c.requires.can
      c.from-b.result c.index-stand.result.now (c.from-b.ensures ∙ c.block.ensures.value) c.index-stand.ensures;
}

pub index_mut-requires-3 : goal.index_mut-requires-3
index_mut-requires-3 g c =
    subst (λ (n : ℕ). c.from-b.result < n) (sym c.self.inside.stands.ok.0)
    (subst (λ (n : ℕ). n < length c.self.inside.stands.items) (sym (c.from-b.ensures ∙ c.block.ensures.value))
    (taken_in_stands g.S.Sizes.n g.S.Sizes.cap c.self.inside.k c.self.inside.machine.machine c.self.inside.acts.items
    c.self.inside.rounds.items c.self.inside.blocks.items c.self.inside.stands.items c.self.inside.lanes.items
    c.self.invariant c.args.self.now c.self.view_is c.args.step c.requires.can))

pub invariant_of-self : goal.invariant_of-self
invariant_of-self g c =
    taken_woven g.S.Sizes.n g.S.Sizes.cap c.self.inside.k c.self.inside.machine.machine c.self.inside.acts.items
    c.self.inside.rounds.items c.self.inside.blocks.items c.self.inside.stands.items c.self.inside.lanes.items
    c.self.invariant c.args.self.now c.self.view_is c.args.step c.requires.can
    c.from-b.result c.index-stand.result.now c.index.result.now c.lane_moved-at.result (c.from-b.ensures
    ∙ c.block.ensures.value) c.index-stand.ensures
    c.index.ensures
    (c.lane_moved-at.ensures.value
    ∙ ap (λ (n : ℕ). lane_number c.self.inside.k (round_kind_number n c.self.inside.k c.index.result.now.kind)
    (mover c.self.inside.k (round_kind_number n c.self.inside.k c.index.result.now.kind) c.args.step)) c.dims.ensures.value)
    c.index_mut.result.now c.index_mut-2.result.now c.index_mut.ensures.value c.index_mut-2.ensures.value
    c.weave.new.block c.weave.new.lane c.go_on.result c.go_on.ensures.value
    (subst (λ (acts : List Act). HasWoven acts c.args.step c.index.result.now c.index_mut.result.now
    c.index_mut-2.result.now c.weave.new.block c.weave.new.lane) c.deref.ensures.value c.weave.ensures.value)

pub returns-clause-value : goal.returns-clause-value
returns-clause-value g c =
    taken_world g.S.Sizes.n g.S.Sizes.cap c.self.inside.k c.self.inside.machine.machine c.self.inside.acts.items
    c.self.inside.rounds.items c.self.inside.blocks.items c.self.inside.stands.items c.self.inside.lanes.items
    c.self.invariant c.args.self.now c.self.view_is c.args.step c.requires.can
    c.from-b.result c.index-stand.result.now c.index.result.now c.lane_moved-at.result (c.from-b.ensures
    ∙ c.block.ensures.value) c.index-stand.ensures
    c.index.ensures
    (c.lane_moved-at.ensures.value
    ∙ ap (λ (n : ℕ). lane_number c.self.inside.k (round_kind_number n c.self.inside.k c.index.result.now.kind)
    (mover c.self.inside.k (round_kind_number n c.self.inside.k c.index.result.now.kind) c.args.step)) c.dims.ensures.value)
    c.index_mut.result.now c.index_mut-2.result.now c.index_mut.ensures.value c.index_mut-2.ensures.value
    c.weave.new.block c.weave.new.lane c.go_on.result c.go_on.ensures.value
    (subst (λ (acts : List Act). HasWoven acts c.args.step c.index.result.now c.index_mut.result.now
    c.index_mut-2.result.now c.weave.new.block c.weave.new.lane) c.deref.ensures.value c.weave.ensures.value)
