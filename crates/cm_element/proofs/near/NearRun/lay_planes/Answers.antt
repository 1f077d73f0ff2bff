use Rattle.std.proofs.Common.{◌≡◌, length, ap, sym, subst, ◌∙◌, arith}
use Rattle.cm_model.specs.Array.{Chips}
use Rattle.cm_element.specs.Laid.{AreLaid}
use Rattle.cm_element.specs.Near.{AreNear, with_near}
use Rattle.cm_element.specs.Runs.{chips_beside}
use Rattle.cm_element.proofs.Laying.{length-chips_beside, IsChip-chips_beside}
use Rattle.cm_element.proofs.Nearing.{length-with_near, far_laid, laid_is, gone_back, come}
use Rattle.cm_element.proofs.near.NearRun.lay_planes.Goals as goal

pub lay_planes-requires-clause-here : goal.lay_planes-requires-clause-here
lay_planes-requires-clause-here c =
    let run = c.self.inside in
    omega (
      arith,
      c.requires.here,
      ap length c.self.view_is,
      length-with_near run.far run.near run.first run.width run.chips c.self.invariant,
      c.self.invariant.far_count,
    )

pub lay_planes-requires-else-are_apart-clause-here : goal.lay_planes-requires-else-are_apart-clause-here
lay_planes-requires-else-are_apart-clause-here c =
    let run = c.self.inside in
    omega (
      arith,
      c.requires.here,
      ap length c.self.view_is,
      length-with_near run.far run.near run.first run.width run.chips c.self.invariant,
      c.self.invariant.far_count,
      c.lay.ensures.value.chips,
    )

pub returns-then-are_apart : goal.returns-then-are_apart
returns-then-are_apart c =
    let run = c.self.inside in
    let from : Chips = chips_beside c.args.memory.now c.args.flags.now c.args.count in
    let far : Chips = c.lay_planes.new.self in
    let laid : AreLaid c.args.at 0 c.args.count from c.args.self.now (with_near far run.near run.first) =
    subst (λ (chips : Chips). AreLaid c.args.at 0 c.args.count from chips (with_near far run.near run.first))
    c.self.view_is
    (far_laid run.far run.near far from run.first run.width run.chips c.args.at c.args.count c.self.invariant
    (c.are_apart.ensures.apart c.if-are_apart.true) c.lay_planes.ensures.value) in
    record {
      value = laid_is c.args.at c.args.count from c.args.self.now (with_near far run.near run.first)
          (length-chips_beside c.args.memory.now c.args.flags.now c.args.count) c.requires.here laid;
      whole = λ k h. IsChip-chips_beside c.args.memory.now c.args.flags.now c.args.count k h (c.requires.zero k h);
    }

pub returns-else-are_apart : goal.returns-else-are_apart
returns-else-are_apart c =
    let run = c.self.inside in
    let near = c.self.invariant in
    let count = c.args.count in
    let from : Chips = chips_beside c.args.memory.now c.args.flags.now count in
    let back : Chips = c.lay.new.self in
    let far : Chips = c.lay_planes-else-are_apart.new.self in
    let near_new : Chips = c.lay-else-are_apart.new.self in
    let is : AreNear far near_new run.first run.width run.chips = record {
      far_count = c.lay_planes-else-are_apart.ensures.value.chips ∙ (c.lay.ensures.value.chips ∙ near.far_count);
      near_count = c.lay-else-are_apart.ensures.value.chips ∙ near.near_count;
      within = near.within;
      some = near.some;
    } in
    let before : back ≡ c.args.self.now =
    sym (gone_back run.far run.near back run.first run.width run.chips near c.lay.ensures.value) ∙ c.self.view_is in
    let after : with_near far near_new run.first ≡ far =
    come far run.near near_new run.first run.width run.chips is c.lay-else-are_apart.ensures.value in
    let laid : AreLaid c.args.at 0 count from c.args.self.now (with_near far near_new run.first) =
    subst (λ (chips : Chips). AreLaid c.args.at 0 count from chips (with_near far near_new run.first)) before
    (subst (λ (chips : Chips). AreLaid c.args.at 0 count from back chips) (sym after)
    c.lay_planes-else-are_apart.ensures.value) in
    record {
      value = laid_is c.args.at count from c.args.self.now (with_near far near_new run.first)
          (length-chips_beside c.args.memory.now c.args.flags.now count) c.requires.here laid;
      whole = λ k h. IsChip-chips_beside c.args.memory.now c.args.flags.now count k h (c.requires.zero k h);
    }
