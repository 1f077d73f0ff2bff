use Rattle.cm_array.proofs.Machines.{AreParts-poked_flag}
use Rattle.cm_array.proofs.machine.MachineOf.poke_flag.Goals as goal

pub invariant_of-self : goal.invariant_of-self
invariant_of-self g c =
    AreParts-poked_flag c.poke_flag.result g.S.Sizes.n g.S.Sizes.cap c.self.inside.state c.poke_flag.new.self c.args.chip
    c.args.proc c.args.number c.args.bit c.requires.chip c.poke_flag.ensures.zero_flag c.poke_flag.ensures.ok
    c.poke_flag.ensures.err c.self.invariant
