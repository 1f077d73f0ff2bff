use Rattle.std.proofs.Common.{◌≡◌, length, ap, ◌∙◌, subst}
use Rattle.cm_model.specs.Steps.{Cross}
use Rattle.cm_model.proofs.Each.{length-tabulate}
use Rattle.cm_blocks.specs.Parcels.{Mail, due}
use Rattle.cm_blocks.specs.Steps.{less}
use Rattle.cm_array.specs.Cuts.{PartView, part_view}
use Rattle.cm_array.proofs.Halving.{less-Cross, due-Cross, view_crossed, IsPart-crossed}
use Rattle.cm_array.proofs.part.Part.leave.Goals as goal

pub invariant_of-self : goal.invariant_of-self
invariant_of-self c =
    let inside = c.self.inside in
    IsPart-crossed inside.first inside.state c.leave.new.self c.self.invariant
    (ap length c.leave.ensures.value ∙ length-tabulate _ _ _) c.leave.ensures.within

pub returns-clause-value : goal.returns-clause-value
returns-clause-value c =
    let inside = c.self.inside in
    let before : PartView = part_view inside.first inside.state in
    view_crossed inside.first inside.state c.args.self.now c.leave.new.self
    (λ k. less k.room (Cross c.args.dim) k.part) c.self.view_is
    (less-Cross before.room c.args.dim before.part c.leave.new.self.buffers c.self.invariant.buffer_count
    c.leave.ensures.value)

pub returns-clause-going : goal.returns-clause-going
returns-clause-going c =
    let inside = c.self.inside in
    let before : PartView = part_view inside.first inside.state in
    let dim = c.args.dim in
    subst (λ (k : PartView). Mail c.leave.new.leavers ≡ due k.dims k.room (Cross dim) k.part) c.self.view_is
    (due-Cross before.dims before.room dim before.part c.leave.new.leavers c.self.invariant.buffer_count
    c.leave.ensures.going)
