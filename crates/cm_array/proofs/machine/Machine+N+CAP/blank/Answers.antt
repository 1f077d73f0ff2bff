use Rattle.std.proofs.Common.{◌≡◌, IfOk, subst}
use Rattle.cm_model.specs.Machine.{Machine}
use Rattle.cm_array.proofs.Machines.{blank_machine-from_zero}
use Rattle.cm_array.proofs.machine.Machine+N+CAP.blank.Goals as goal

pub returns-clause-value : goal.returns-clause-value
returns-clause-value g c = subst (λ (blank : Machine). IfOk c.blank_at.result (λ kept. kept.machine ≡ blank))
    (blank_machine-from_zero g.row.N) c.blank_at.ensures.value
