use Rattle.std.proofs.Common.{refl, sym, ◌∙◌}
use Rattle.cm_model.specs.declared.act.Act.TheVariants as act
use Rattle.cm_model.proofs.Runs.{run_of-one}
use Rattle.lab_machine.specs.Machines.{lab_after}
use Rattle.lab_machine.proofs.machine.LabMachine.go_on.Goals as goal

pub returns-in-Sense : goal.returns-in-Sense
returns-in-Sense c =
    let lab = c.args.self.now in
    record {
      ok = sym ((λ i. lab_after lab (c.in-Sense.is i))
          ∙ (λ i. record lab { machine = run_of-one lab.n lab.cap lab.machine act.Sense c.dims-dims.ensures.buffers i }));
      sense = λ looks. refl;
      err = tt;
    }
