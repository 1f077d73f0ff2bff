use Rattle.std.proofs.Common.{◌≡◌, ◌+◌, refl, ap, ◌∙◌, length}
use Rattle.cm_model.specs.Buffers.{machine_after_delivery}
use Rattle.cm_router.specs.Routes.{routing_of}
use Rattle.cm_petit.specs.Routers.{machine_from, events_of}
use Rattle.cm_petit.proofs.Cycling.{delivered_whole}
use Rattle.lab_machine.specs.Machines.{LabView}
use Rattle.lab_machine.proofs.Lent.{lent, lent_twice}
use Rattle.lab_machine.proofs.machine.LabMachine.deliver.Goals as goal

pub returns : goal.returns
returns c =
    let was = c.self.inside in
    let n = was.shape.dims in
    let cap = was.shape.room in
    let routing = routing_of was.routing in
    let roomy = c.make_room.new.logs in
    let now = c.deliver.new in
    let first : length roomy ≡ length was.logs.items =
    c.make_room.auto.logs ∙ ap length c.deref_mut.ensures.value in
    let again = c.deref_mut-2.ensures.value ∙ lent was.logs roomy first in
    let second : length now.logs ≡ length roomy = c.deliver.auto.logs ∙ ap length again in
    let told = lent_twice was.logs roomy now.logs first second in
    let same = ap events_of again ∙ c.make_room.ensures.events ∙ ap events_of c.deref_mut.ensures.value in
    let old = machine_from routing was.run was.engine.buffers (events_of was.logs.items) was.clock in
    let lab : LabView = record { n = n; cap = cap; machine = old } in
    let is = (λ i. machine_from routing now.run (c.gather.ensures.value i) (events_of (told i)) (was.clock + 1))
    ∙ delivered_whole n cap _ refl c.self.invariant.routers.chip_count (c.deliver.ensures.value routing was.clock)
    ∙ (λ i. machine_after_delivery n (machine_from routing was.run was.engine.buffers (same i) was.clock)) in
    record {
      ok = (λ i. record lab { machine = is i })
          ∙ ap (λ (l : LabView). record l { machine = machine_after_delivery l.n l.machine }) c.self.view_is;
      err = tt;
    }
