use Rattle.std.proofs.Common.{length, ap, ◌∙◌}
use Rattle.cm_model.specs.Steps.{Cross}
use Rattle.cm_model.proofs.Each.{length-tabulate}
use Rattle.cm_blocks.specs.Parcels.{Mail}
use Rattle.cm_blocks.specs.Steps.{absorbed}
use Rattle.cm_array.specs.Cuts.{PartView, part_view}
use Rattle.cm_array.proofs.Halving.{absorbed-Cross, view_crossed, IsPart-crossed}
use Rattle.cm_array.proofs.part.Part.take_in.Goals as goal

pub invariant_of-self : goal.invariant_of-self
invariant_of-self c =
    let inside = c.self.inside in
    IsPart-crossed inside.first inside.state c.take_in.new.self c.self.invariant
    (ap length c.take_in.ensures.value ∙ length-tabulate _ _ _) c.take_in.ensures.within

pub returns-clause-value : goal.returns-clause-value
returns-clause-value c = λ dim.
    let inside = c.self.inside in
    let before : PartView = part_view inside.first inside.state in
    let mail = Mail c.args.leavers.now in
    view_crossed inside.first inside.state c.args.self.now c.take_in.new.self
    (λ k. absorbed k.dims k.room (Cross dim) mail k.part) c.self.view_is
    (absorbed-Cross before.dims before.room dim before.part c.args.leavers.now c.take_in.new.self.buffers
    c.self.invariant.buffer_count c.take_in.ensures.value)
