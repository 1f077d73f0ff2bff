use Rattle.std.proofs.Common.{◌≡◌, ℕ, ◌<◌, ◌^◌, ◌∙◌, get_or, Some, None, sym, ap, subst, arith}
use Rattle.cm_exchange.specs.declared.stand.Stand.{Stand}
use Rattle.cm_exchange.specs.Worlds.{stand_of}
use Rattle.cm_exchange.specs.Steps.{step_at}
use Rattle.cm_weave.specs.Woven.{Woven}
use Rattle.cm_weave.proofs.Nexting.{HaveNone, next_none, next_some, none_more}
use Rattle.cm_weave.proofs.Playing.{stand_count, stand_now}
use Rattle.cm_weave.proofs.Telling.{on_its_way, next_told}
use Rattle.cm_weave.proofs.world.World.next.Goals as goal

pub loop-b-init : goal.loop-b-init
loop-b-init g c i l = absurd (omega (arith, l))

pub index-requires : goal.index-requires
index-requires g c =
    let many = stand_count g.S.Sizes.n g.S.Sizes.cap c.self.inside.k c.self.inside.machine.machine c.self.inside.acts.items
    c.self.inside.rounds.items c.self.inside.blocks.items c.self.inside.stands.items c.self.inside.lanes.items
    c.self.invariant in
    omega (
      arith,
      many,
      c.loop-b-test.true,
      c.from.ensures,
      c.block_count-count.ensures.value,
      c.self.inside.stands.ok.0,
    )

pub returns-then-can : goal.returns-then-can
returns-then-can g c =
    let many = stand_count g.S.Sizes.n g.S.Sizes.cap c.self.inside.k c.self.inside.machine.machine c.self.inside.acts.items
    c.self.inside.rounds.items c.self.inside.blocks.items c.self.inside.stands.items c.self.inside.lanes.items
    c.self.invariant in
    let k : c.self.inside.k ≡ c.args.self.now.k = ap (λ (z : Woven). z.k) c.self.view_is in
    let below : c.loop-b.b < 2 ^ c.args.self.now.k =
    subst (λ (z : ℕ). c.loop-b.b < 2 ^ z) k (omega (arith, c.loop-b-test.true, c.block_count-count.ensures.value)) in
    let stand : c.index.result.now ≡ stand_of c.args.self.now.world c.loop-b.b =
    stand_now g.S.Sizes.n g.S.Sizes.cap c.self.inside.k c.self.inside.machine.machine c.self.inside.acts.items
    c.self.inside.rounds.items c.self.inside.blocks.items c.self.inside.stands.items c.self.inside.lanes.items
    c.self.invariant c.args.self.now c.self.view_is c.at-step.result
    c.loop-b.b c.index.result.now (omega (arith, many, c.loop-b-test.true, c.block_count-count.ensures.value))
    (c.index.ensures ∙ ap (λ (z : ℕ). get_or c.self.inside.stands.items z c.index.result.now) c.from.ensures) in
    let is = sym (next_some g.S.Sizes.n g.S.Sizes.cap c.args.self.now c.loop-b.b c.at-step.result below c.loop-b.invariant
    (c.at-step.ensures.value ∙ ap (λ (z : Stand). step_at c.loop-b.b z.stage) stand)
    (sym c.can.ensures.value ∙ c.if-can.true)) in
    let all = next_told g.S.Sizes.n g.S.Sizes.cap c.args.self.now (Some c.at-step.result)
    (on_its_way g.S.Sizes.n g.S.Sizes.cap c.self.inside.k c.self.inside.machine.machine c.self.inside.acts.items
    c.self.inside.rounds.items c.self.inside.blocks.items c.self.inside.stands.items c.self.inside.lanes.items
    c.self.invariant c.args.self.now c.self.view_is) is in
    record { value = is; finished = all.0; possible = all.1 }

pub loop-b-preserved : goal.loop-b-preserved
loop-b-preserved g c =
    let many = stand_count g.S.Sizes.n g.S.Sizes.cap c.self.inside.k c.self.inside.machine.machine c.self.inside.acts.items
    c.self.inside.rounds.items c.self.inside.blocks.items c.self.inside.stands.items c.self.inside.lanes.items
    c.self.invariant in
    let stand : c.index.result.now ≡ stand_of c.args.self.now.world c.loop-b.b =
    stand_now g.S.Sizes.n g.S.Sizes.cap c.self.inside.k c.self.inside.machine.machine c.self.inside.acts.items
    c.self.inside.rounds.items c.self.inside.blocks.items c.self.inside.stands.items c.self.inside.lanes.items
    c.self.invariant c.args.self.now c.self.view_is c.at-step.result
    c.loop-b.b c.index.result.now (omega (arith, many, c.loop-b-test.true, c.block_count-count.ensures.value))
    (c.index.ensures ∙ ap (λ (z : ℕ). get_or c.self.inside.stands.items z c.index.result.now) c.from.ensures) in
    none_more g.S.Sizes.n g.S.Sizes.cap c.args.self.now c.loop-b.b c.at-step.result c.loop-b.invariant
    (c.at-step.ensures.value ∙ ap (λ (z : Stand). step_at c.loop-b.b z.stage) stand)
    (sym c.can.ensures.value ∙ c.if-can.false)

pub returns : goal.returns
returns g c =
    let k : c.self.inside.k ≡ c.args.self.now.k = ap (λ (z : Woven). z.k) c.self.view_is in
    let is = sym (next_none g.S.Sizes.n g.S.Sizes.cap c.args.self.now
    (subst (λ (z : ℕ). HaveNone g.S.Sizes.n g.S.Sizes.cap c.args.self.now (2 ^ z)) k
    (λ i l. c.loop-b.invariant i (omega (arith, l, c.loop-b-test.false, c.block_count-count.ensures.value))))) in
    let all = next_told g.S.Sizes.n g.S.Sizes.cap c.args.self.now None
    (on_its_way g.S.Sizes.n g.S.Sizes.cap c.self.inside.k c.self.inside.machine.machine c.self.inside.acts.items
    c.self.inside.rounds.items c.self.inside.blocks.items c.self.inside.stands.items c.self.inside.lanes.items
    c.self.invariant c.args.self.now c.self.view_is) is in
    record { value = is; finished = all.0; possible = all.1 }
