use Rattle.std.proofs.Common.{◌≡◌, false, List, sym, ap, subst, ◌∙◌}
use Rattle.std.specs.List.{flat_map}
use Rattle.cm_model.specs.declared.message.Message.{Message}
use Rattle.cm_model.specs.Array.{Chips}
use Rattle.cm_model.specs.Unlogged.{standing_messages, has_tag_twice}
use Rattle.cm_array.specs.declared.chip_state.ChipState.{ChipState}
use Rattle.cm_array.specs.Parts.{machine_of}
use Rattle.cm_array.specs.Building.{state_built, AreUnfinished}
use Rattle.cm_array.proofs.Building.{AreParts-finished}
use Rattle.cm_array.proofs.builder.BuilderOf.done.Goals as goal

pub invariant_of-result : goal.invariant_of-result
invariant_of-result g c =
    let built : ChipState = state_built c.self.inside.run c.self.inside.state in
    let same : c.into_run.result ≡ built.run = c.into_run.ensures.value in
    let state : ChipState = record built { run = c.into_run.result } in
    let unfinished : AreUnfinished g.S.Sizes.n g.S.Sizes.cap state =
    subst (λ (run : Chips). AreUnfinished g.S.Sizes.n g.S.Sizes.cap (record built { run = run })) (sym same) c.self.invariant in
    let apart : has_tag_twice (standing_messages (machine_of state)) ≡ false =
    ap (λ (buffers : List (List Message)). has_tag_twice (flat_map (λ buffer. buffer) buffers))
    (sym c.gather.ensures.value)
    ∙ c.in_ok-refuse_tag_twice.ensures.ok in
    AreParts-finished g.S.Sizes.n g.S.Sizes.cap state c.gather.new.self unfinished c.gather.ensures.value
    c.gather.ensures.gathered apart
