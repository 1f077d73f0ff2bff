use Rattle.std.proofs.Common.{◌≡◌, ℕ, ◌++◌, sym, ap, ◌∙◌, arith}
use Rattle.std.specs.Option.{option_to_list}
use Rattle.cm_model.specs.declared.act.Act.TheVariants as act
use Rattle.cm_model.specs.Machine.{Machine}
use Rattle.cm_model.specs.Buffers.{machine_after_injection, machine_after_dimension, machine_after_delivery}
use Rattle.cm_model.proofs.Cycles.{after_crossings-more, after_cycle-is}
use Rattle.cm_model.proofs.Runs.{run_of-one}
use Rattle.lab_machine.specs.Machines.{LabView}
use Rattle.lab_route.specs.Waits.{machine_in_cycle, crossing_wait, delivery_wait, crossing_waits, waits_in}
use Rattle.lab_study.proofs.Sums.{flat_map-more}
use Rattle.lab_route.proofs.waits.cycle_with_waits.Goals as goal

pub loop-dim-preserved : goal.loop-dim-preserved
loop-dim-preserved c =
    let old = c.args.machine.now in
    let d = c.loop-dim.dim in
    let was = c.loop-dim.invariant.machine in
    let told = λ (k : ℕ). option_to_list
    (crossing_wait old.n old.cap k c.args.tag.now (machine_in_cycle old.n old.cap old.machine k)) in
    record {
      machine = c.cross.ensures.value
          ∙ ap (λ (lab : LabView). record lab { machine = machine_after_dimension lab.n lab.cap d lab.machine }) was
          ∙ ap (λ (m : Machine). record old { machine = m })
          (sym (after_crossings-more old.n old.cap (machine_after_injection old.n old.cap old.machine) d));
      waits = c.in_ok-push_wait.ensures.ok
          ∙ (λ i. c.loop-dim.invariant.waits i ++ option_to_list (c.crossing_wait.ensures.value i))
          ∙ ap (λ (lab : LabView). crossing_waits old.n old.cap c.args.tag.now old.machine d
          ++ option_to_list (crossing_wait lab.n lab.cap d c.args.tag.now lab.machine)) was
          ∙ sym (flat_map-more told d);
    }

pub returns : goal.returns
unfolding waits_in
returns c =
    let old = c.args.machine.now in
    let all : c.loop-dim.dim ≡ old.n = omega (arith, c.loop-dim-test.false, c.loop-dim.auto.dim-end, c.dims-dims.ensures.value) in
    let was = c.loop-dim.invariant.machine
    ∙ ap (λ (k : ℕ). record old { machine = machine_in_cycle old.n old.cap old.machine k }) all in
    record {
      machine = c.in_ok-deliver.ensures.ok
          ∙ ap (λ (lab : LabView). record lab { machine = machine_after_delivery lab.n lab.machine }) was
          ∙ ap (λ (m : Machine). record old { machine = m })
          (sym (run_of-one old.n old.cap old.machine act.Cycle c.dims-dims.ensures.buffers ∙ after_cycle-is old.n old.cap old.machine));
      value = c.in_ok-push_wait-2.ensures.ok
          ∙ (λ i. c.loop-dim.invariant.waits i ++ option_to_list (c.delivery_wait.ensures.value i))
          ∙ (λ i. crossing_waits old.n old.cap c.args.tag.now old.machine (all i)
          ++ option_to_list (delivery_wait (was i).n c.args.tag.now (was i).machine));
    }
