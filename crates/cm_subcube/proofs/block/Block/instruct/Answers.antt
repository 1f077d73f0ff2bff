use Rattle.std.proofs.Common.{[], ◌∷◌, ◌∙◌}
use Rattle.cm_model.specs.Steps.{Instruct}
use Rattle.cm_blocks.specs.Counts.{events_in}
use Rattle.cm_router.proofs.Rooms.{lost_nothing}
use Rattle.cm_array.specs.Cuts.{PartView}
use Rattle.cm_subcube.proofs.Exchanging.{IsBand-block}
use Rattle.cm_subcube.proofs.Going.{no_edge, IsBlock-stepped, HasGone-one}
use Rattle.cm_subcube.proofs.block.Block.instruct.Goals as goal

pub instruct-requires-clause-band : goal.instruct-requires-clause-band
instruct-requires-clause-band c = IsBand-block c.self.inside.k c.self.inside.part c.self.invariant

pub invariant_of-self : goal.invariant_of-self
invariant_of-self c =
    let old : PartView = c.self.inside.part in
    IsBlock-stepped _ (Instruct c.args.nano.now) old.log_rooms old.gathered old _
    (c.instruct.ensures.value ∙ λ t. record old { part = no_edge old.dims old.room c.args.nano.now old.part t })
    c.self.invariant

pub returns : goal.returns
returns c =
    let old : PartView = c.self.inside.part in
    let nano = c.args.nano.now in
    record {
      gone = HasGone-one c.self.inside.k (Instruct nano) old.log_rooms old.gathered old _ c.args.self.now c.self.view_is
          (c.instruct.ensures.value ∙ λ t. record old { part = no_edge old.dims old.room nano old.part t })
          (lost_nothing (events_in old.room (Instruct nano ∷ [])) old.log_rooms);
    }
