use Rattle.std.proofs.Common.{ap, sym, subst, ◌∙◌}
use Rattle.cm_model.specs.Array.{Chips}
use Rattle.cm_array.specs.declared.chip_state.ChipState.{ChipState}
use Rattle.cm_array.specs.Parts.{MachineView}
use Rattle.cm_array.specs.Building.{AreUnfinished}
use Rattle.cm_array.proofs.Building.{AreUnfinished-blank}
use Rattle.cm_array.proofs.builder.BuilderOf.start_of.Goals as goal

pub invariant_of-result : goal.invariant_of-result
invariant_of-result g c =
    let state : ChipState = c.machine.inside.state in
    let same = c.in_ok-run.ensures.value in
    subst (λ (run : Chips). AreUnfinished g.S.Sizes.n g.S.Sizes.cap (record state { run = run })) (sym same)
    (AreUnfinished-blank g.S.Sizes.n g.S.Sizes.cap c.args.clock state c.machine.invariant
    (ap (λ (kept : MachineView). kept.machine) c.machine.view_is ∙ c.in_ok-machine.ensures.value))
