use Rattle.std.proofs.Common.{◌^◌, length, sym, ap, ◌∙◌}
use Rattle.cm_model.specs.declared.act.Act.TheVariants as act
use Rattle.cm_model.specs.Array.{after_nano, incoming, chip_at}
use Rattle.cm_model.specs.Chip.{chip_after}
use Rattle.cm_model.proofs.Each.{length-tabulate}
use Rattle.cm_model.proofs.Runs.{run_of-one}
use Rattle.lab_machine.specs.Machines.{LabView, lab_view, lab_after}
use Rattle.lab_machine.proofs.machine.LabMachine.step.Goals as goal

pub invariant_of-self : goal.invariant_of-self
unfolding after_nano
invariant_of-self c =
    let n = c.self.inside.shape.dims in
    let nano = c.args.nano.now in
    let old = c.self.inside.run in
    let is = c.self.invariant in
    record {
      routers = record {
        chip_count = ap length c.step.ensures.value
            ∙ length-tabulate 0 (2 ^ n) (λ k. chip_after nano (incoming n nano old k) (chip_at old k));
        buffer_count = is.routers.buffer_count;
        log_count = is.routers.log_count;
        within = is.routers.within;
      };
      cube = is.cube;
      early = is.early;
      joined = is.joined;
    }

pub returns : goal.returns
returns c =
    let was = c.self.inside in
    let lab = lab_view was.shape.dims was.shape.room was.routing was.run was.engine.buffers was.logs.items was.clock in
    record {
      value = (λ i. lab_view was.shape.dims was.shape.room was.routing (c.step.ensures.value i) was.engine.buffers
          was.logs.items was.clock)
          ∙ (λ i. record lab {
            machine = sym (run_of-one lab.n lab.cap lab.machine (act.Nano c.args.nano.now)
                c.self.invariant.routers.buffer_count) i;
          })
          ∙ ap (λ (l : LabView). lab_after l (act.Nano c.args.nano.now)) c.self.view_is;
    }
