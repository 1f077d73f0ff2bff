use Rattle.std.proofs.Common.{◌^◌, ◌∙◌, ap, length}
use Rattle.cm_model.specs.Buffers.{machine_after_dimension}
use Rattle.cm_model.proofs.Each.{length-tabulate}
use Rattle.cm_plain.proofs.router.PlainRouter.cross.Goals as goal

pub invariant_of-self : goal.invariant_of-self
invariant_of-self g c = (
  c.self.invariant.0,
  ap length c.in_ok-buffers.ensures.value
      ∙ length-tabulate 0 (2 ^ g.row.N) _,
  c.self.invariant.2,
)

pub returns : goal.returns
unfolding machine_after_dimension
returns g c = record { ok = λ i. record (c.self.view_is i) { buffers = c.in_ok-buffers.ensures.value i } }
