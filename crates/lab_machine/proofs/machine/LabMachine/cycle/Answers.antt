use Rattle.std.proofs.Common.{◌≡◌, ◌+◌, refl, sym, ap, ◌∙◌, length}
use Rattle.cm_model.specs.declared.act.Act.TheVariants as act
use Rattle.cm_model.specs.Buffers.{machine_after_injection, machine_after_delivery}
use Rattle.cm_model.proofs.Runs.{run_of-one}
use Rattle.cm_router.specs.Routes.{routing_of}
use Rattle.cm_petit.specs.Routers.{machine_from, events_of}
use Rattle.cm_petit.proofs.Cycling.{injected_whole, delivered_whole, cycle_is}
use Rattle.lab_machine.specs.Machines.{LabView, lab_after}
use Rattle.lab_machine.proofs.Lent.{lent, lent_twice, lent_thrice}
use Rattle.lab_machine.proofs.machine.LabMachine.cycle.Goals as goal

pub returns : goal.returns
returns c =
    let was = c.self.inside in
    let n = was.shape.dims in
    let cap = was.shape.room in
    let routing = routing_of was.routing in
    let chips = c.self.invariant.routers.chip_count in
    let roomy = c.make_room.new.logs in
    let begun = c.inject.new in
    let now = c.deliver.new in
    let first : length roomy ≡ length was.logs.items =
    c.make_room.auto.logs ∙ ap length c.deref_mut.ensures.value in
    let again = c.deref_mut-2.ensures.value ∙ lent was.logs roomy first in
    let second : length begun.logs ≡ length roomy = c.inject.auto.logs ∙ ap length again in
    let last = c.deref_mut-3.ensures.value ∙ lent_twice was.logs roomy begun.logs first second in
    let third : length now.logs ≡ length begun.logs = c.deliver.auto.logs ∙ ap length last in
    let told = lent_thrice was.logs roomy begun.logs now.logs first second third in
    let same = ap events_of again ∙ c.make_room.ensures.events ∙ ap events_of c.deref_mut.ensures.value in
    let old = machine_from routing was.run was.engine.buffers (events_of was.logs.items) was.clock in
    let lab : LabView = record { n = n; cap = cap; machine = old } in
    let injected = injected_whole n cap _ refl chips (c.inject.ensures.value routing)
    ∙ (λ i. machine_after_injection n cap (machine_from routing was.run was.engine.buffers (same i) was.clock)) in
    let delivered = (λ i. machine_from routing now.run (c.gather.ensures.value i) (events_of (told i)) (was.clock + 1))
    ∙ delivered_whole n cap _ refl (c.inject.ensures.routers.chip_count ∙ chips)
    (c.deliver.ensures.value routing was.clock)
    ∙ (λ i. machine_after_delivery n
    (machine_from routing begun.run c.cross_all.new.crossing.buffers (events_of (last i)) was.clock)) in
    let is = cycle_is n cap old injected
    (c.cross_all.ensures.value begun.run (events_of begun.logs) was.clock) delivered
    ∙ sym (run_of-one n cap old act.Cycle c.self.invariant.routers.buffer_count) in
    record {
      ok = (λ i. record lab { machine = is i }) ∙ ap (λ (l : LabView). lab_after l act.Cycle) c.self.view_is;
      err = tt;
    }
