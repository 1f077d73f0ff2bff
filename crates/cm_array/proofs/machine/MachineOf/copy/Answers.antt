use Rattle.cm_array.proofs.Machines.{AreParts-copied}
use Rattle.cm_array.proofs.machine.MachineOf.copy.Goals as goal

pub invariant_of-result : goal.invariant_of-result
invariant_of-result g c =
    AreParts-copied g.S.Sizes.n g.S.Sizes.cap c.self.inside.state _ c.self.invariant c.in_ok-state.ensures.value
