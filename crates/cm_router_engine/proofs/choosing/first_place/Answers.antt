use Rattle.std.proofs.Common.{sym, ◌∙◌}
use Rattle.cm_model.specs.Array.{nth_or_nil}
use Rattle.cm_model.specs.Router.{has_to_cross}
use Rattle.cm_model.proofs.Leaving.{position-map}
use Rattle.cm_router_engine.specs.Standing.{message_of_ticket}
use Rattle.cm_router_engine.proofs.choosing.first_place.Goals as goal

pub returns-in-First-clause-value : goal.returns-in-First-clause-value
returns-in-First-clause-value c =
    rw c.in-First.is
    (c.first_to_cross.ensures.value
    ∙ sym (position-map (message_of_ticket c.args.row.now) (has_to_cross c.args.dim) (nth_or_nil c.args.slots.now c.args.chip)))
