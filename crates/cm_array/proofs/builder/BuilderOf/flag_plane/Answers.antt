use Rattle.std.proofs.Common.{[], get_or}
use Rattle.cm_bits.specs.Bit.{bit}
use Rattle.cm_element.specs.Wide.{with_flag_plane}
use Rattle.cm_array.specs.declared.chip_state.ChipState.{ChipState}
use Rattle.cm_array.specs.Building.{state_built}
use Rattle.cm_array.proofs.Wholes.{IsChip-with_flag_plane}
use Rattle.cm_array.proofs.Building.{AreUnfinished-with_chip}
use Rattle.cm_array.proofs.builder.BuilderOf.flag_plane.Goals as goal

pub invariant_of-self : goal.invariant_of-self
invariant_of-self g c =
    let parts : ChipState = state_built c.self.inside.run c.self.inside.state in
    let chip = get_or parts.run c.args.chip [] in
    AreUnfinished-with_chip g.S.Sizes.n g.S.Sizes.cap parts c.poke_flag_plane.new.self c.args.chip
    (with_flag_plane chip c.args.number (bit c.args.plane))
    (IsChip-with_flag_plane chip c.args.number (bit c.args.plane) c.requires.other
    (c.self.invariant.machine.whole c.args.chip c.requires.chip)) c.poke_flag_plane.ensures.value c.self.invariant
