use Rattle.std.proofs.Common.{[], get_or}
use Rattle.cm_model.specs.Chip.{with_memory_bit}
use Rattle.cm_array.proofs.Wholes.{IsChip-with_memory_bit}
use Rattle.cm_array.proofs.Machines.{AreParts-with_chip}
use Rattle.cm_array.proofs.machine.MachineOf.poke.Goals as goal

pub invariant_of-self : goal.invariant_of-self
invariant_of-self g c =
    let parts = c.self.inside.state in
    let chip = get_or parts.run c.args.chip [] in
    AreParts-with_chip g.S.Sizes.n g.S.Sizes.cap parts c.poke.new.self c.args.chip
    (with_memory_bit chip c.args.proc c.args.at c.args.bit)
    (IsChip-with_memory_bit chip c.args.proc c.args.at c.args.bit
    (c.self.invariant.machine.whole c.args.chip c.requires.chip)) c.poke.ensures.value c.self.invariant
