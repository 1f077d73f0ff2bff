use Rattle.std.proofs.Common.{◌≡◌, length, arith}
use Rattle.cm_model.specs.Array.{Chips}
use Rattle.cm_model.proofs.Each.{length-tabulate}
use Rattle.cm_element.specs.Runs.{chip_beside, chips_beside}
use Rattle.cm_array.specs.declared.chip_state.ChipState.{ChipState}
use Rattle.cm_array.specs.Building.{state_built}
use Rattle.cm_array.proofs.Building.{AreUnfinished-with_chips}
use Rattle.cm_array.proofs.builder.BuilderOf.chips.Goals as goal

pub lay_planes-requires-clause-here : goal.lay_planes-requires-clause-here
lay_planes-requires-clause-here g c = omega (arith, c.requires.chips, c.self.invariant.machine.chip_count)

pub invariant_of-self : goal.invariant_of-self
unfolding chips_beside
invariant_of-self g c =
    let parts : ChipState = state_built c.self.inside.run c.self.inside.state in
    let from : Chips = chips_beside c.args.memory.now c.args.flags.now c.args.count in
    let long : length from ≡ c.args.count =
    length-tabulate 0 c.args.count (chip_beside c.args.memory.now c.args.flags.now) in
    AreUnfinished-with_chips g.S.Sizes.n g.S.Sizes.cap parts c.lay_planes.new.self from c.args.first
    (omega (arith, long, c.requires.chips))
    (λ k h. c.lay_planes.ensures.whole k (omega (arith, h, long))) c.lay_planes.ensures.value c.self.invariant
