use Rattle.std.proofs.Common.{◌^◌, ◌≤◌, lit<, arith}
use Rattle.std.proofs.Math.Nat.{pow-le-pow_right}
use Rattle.lab_machine.proofs.machine.LabMachine.chips.Goals as goal

pub returns-clause-most : goal.returns-clause-most
returns-clause-most c =
    let few : 2 ^ c.self.inside.shape.dims ≤ 4096 = pow-le-pow_right (lit< tt) c.self.inside.shape.bounds.dimension in
    omega (arith, few)
