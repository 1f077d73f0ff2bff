use Rattle.std.proofs.Common.{◌+◌, ◌^◌, ◌<◌, [], ◌∷◌, length, sym, ap, ◌∙◌, refl, subst, arith}
use Rattle.std.specs.Vec.{with_items}
use Rattle.cm_model.specs.declared.act.Act.{Act}
use Rattle.cm_model.specs.declared.act.Act.TheVariants.{Cycle}
use Rattle.cm_model.specs.Buffers.{after_act}
use Rattle.cm_petit.specs.Routers.{events_of}
use Rattle.cm_array.specs.Parts.{machine_of}
use Rattle.cm_array.specs.Acts.{cycles_in}
use Rattle.cm_array.proofs.Lists.{items-lent}
use Rattle.cm_array.proofs.Machines.{AreUnderWay-instructed, AreUnderWay-after_act, HaveBuffers-parts, length-events}
use Rattle.cm_array.proofs.chip_state.ChipState.run_one.Goals as goal

pub returns-in-Nano-clause-state : goal.returns-in-Nano-clause-state
returns-in-Nano-clause-state c =
    let before = c.args.self.now in
    let now = c.step.new in
    let sent = c.step.auto.sent ∙ ap length c.deref_mut.ensures.value in
    let incoming = c.step.auto.incoming ∙ ap length c.deref_mut-in-Nano.ensures.value in
    AreUnderWay-instructed c.args.self.now.shape.dims c.args.self.now.shape.room c.in-Nano.nano before now.run
    (with_items before.sent now.sent) (with_items before.incoming now.incoming) c.requires.state c.step.ensures.value
    (ap length (items-lent before.sent now.sent sent) ∙ sent)
    (ap length (items-lent before.incoming now.incoming incoming) ∙ incoming)

pub cycle-requires-clause-buffers : goal.cycle-requires-clause-buffers
cycle-requires-clause-buffers c =
    HaveBuffers-parts c.args.self.now.shape.dims c.args.self.now.shape.room c.args.self.now c.requires.state

pub returns-in-Cycle-clause-state : goal.returns-in-Cycle-clause-state
returns-in-Cycle-clause-state c =
    let before = c.args.self.now in
    let counted : before.clock + cycles_in (Cycle ∷ []) < 2 ^ 63 =
    subst (λ (a : Act). before.clock + cycles_in (a ∷ []) < 2 ^ 63) c.in-Cycle.is c.requires.clock in
    AreUnderWay-after_act c.args.self.now.shape.dims c.args.self.now.shape.room Cycle before _ c.requires.state
    (c.cycle.ensures.value (events_of before.logs.items)
    (length-events c.args.self.now.shape.dims c.args.self.now.shape.room before c.requires.state))
    refl refl refl refl (omega (arith, counted, c.cycle.ensures.counter))

pub returns-in-Cycle-clause-value : goal.returns-in-Cycle-clause-value
returns-in-Cycle-clause-value c =
    let before = c.args.self.now in
    c.cycle.ensures.value (events_of before.logs.items)
    (length-events c.args.self.now.shape.dims c.args.self.now.shape.room before c.requires.state)
    ∙ ap (after_act c.args.self.now.shape.dims c.args.self.now.shape.room (machine_of before)) (sym c.in-Cycle.is)
