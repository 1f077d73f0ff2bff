use Rattle.std.proofs.Common.{ap, ◌∙◌}
use Rattle.cm_model.specs.Buffers.{machine_after_dimension}
use Rattle.cm_router.specs.Routes.{routing_of}
use Rattle.cm_petit.proofs.Cycling.{crossed_by_one_way}
use Rattle.lab_machine.specs.Machines.{LabView, lab_view}
use Rattle.lab_machine.proofs.machine.LabMachine.cross.Goals as goal

pub returns : goal.returns
unfolding machine_after_dimension
returns c =
    let was = c.self.inside in
    let is = c.gather.ensures.value ∙ c.cross.ensures.value
    ∙ crossed_by_one_way (routing_of was.routing) was.shape.dims was.shape.room c.args.dim was.engine.buffers in
    record {
      value = (λ i. lab_view was.shape.dims was.shape.room was.routing was.run (is i) was.logs.items was.clock)
          ∙ ap (λ (lab : LabView). record lab { machine = machine_after_dimension lab.n lab.cap c.args.dim lab.machine })
          c.self.view_is;
    }
