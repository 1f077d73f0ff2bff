use Rattle.std.proofs.Common.{◌+◌, ◌^◌, ◌∙◌, ap, length}
use Rattle.cm_model.specs.Buffers.{machine_after_delivery}
use Rattle.cm_model.proofs.Each.{length-tabulate}
use Rattle.cm_plain.proofs.router.PlainRouter.deliver.Goals as goal

pub invariant_of-self : goal.invariant_of-self
invariant_of-self g c = (
  c.self.invariant.0,
  ap length c.in_ok-buffers.ensures.value ∙ length-tabulate 0 (2 ^ g.row.N) _,
  ap length c.in_ok-logs.ensures.value ∙ length-tabulate 0 (2 ^ g.row.N) _,
)

pub returns : goal.returns
unfolding machine_after_delivery
returns g c = record {
  ok = λ i. record {
    chips = c.in_ok-chips.ensures.value i;
    buffers = c.in_ok-buffers.ensures.value i;
    logs = c.in_ok-logs.ensures.value i;
    clock = (c.self.view_is i).clock + 1;
    routing = (c.self.view_is i).routing;
  };
}
