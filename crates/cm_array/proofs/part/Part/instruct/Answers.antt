use Rattle.std.proofs.Common.{length, ap, ◌∙◌}
use Rattle.std.specs.Vec.{with_items}
use Rattle.cm_array.proofs.Banding.{kept_instructed, IsPart-instructed}
use Rattle.cm_array.proofs.Lists.{items-lent}
use Rattle.cm_array.proofs.part.Part.instruct.Goals as goal

pub invariant_of-self : goal.invariant_of-self
invariant_of-self c =
    let inside = c.self.inside in
    let parts = inside.state in
    let now = c.step_in_band.new in
    let sent = c.step_in_band.auto.sent ∙ ap length c.deref_mut.ensures.value in
    let incoming = c.step_in_band.auto.incoming ∙ ap length c.deref_mut-2.ensures.value in
    IsPart-instructed inside.first parts c.args.self.now
    c.args.nano.now c.args.edge.now now.run
    (with_items parts.sent now.sent) (with_items parts.incoming now.incoming) c.self.view_is c.self.invariant
    c.requires.band c.step_in_band.ensures.value
    (ap length (items-lent parts.sent now.sent sent) ∙ sent ∙ c.self.invariant.sized.sent_count)
    (ap length (items-lent parts.incoming now.incoming incoming) ∙ incoming ∙ c.self.invariant.sized.incoming_count)

pub returns : goal.returns
returns c =
    let inside = c.self.inside in
    let parts = inside.state in
    let now = c.step_in_band.new in
    record {
      value = kept_instructed inside.first parts c.args.self.now c.args.nano.now c.args.edge.now
          now.run (with_items parts.sent now.sent) (with_items parts.incoming now.incoming) c.self.view_is
          c.self.invariant c.requires.band c.step_in_band.ensures.value;
    }
