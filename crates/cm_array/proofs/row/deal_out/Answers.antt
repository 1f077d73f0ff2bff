use Rattle.std.proofs.Common.{List, ap, ◌∙◌, take}
use Rattle.cm_model.specs.declared.message.Event.{Event}
use Rattle.cm_petit.specs.Routers.{events_of}
use Rattle.cm_array.specs.Rows.{dealt}
use Rattle.cm_array.proofs.Dealing.{some_dealt}
use Rattle.cm_array.proofs.row.deal_out.Goals as goal

pub returns-then-is_empty-clause-value : goal.returns-then-is_empty-clause-value
returns-then-is_empty-clause-value c =
    some_dealt (events_of c.args.logs.now) (events_of c.deal-told.new.logs) c.args.row.now.items
    c.remove_front.new.row.items c.deal-told.result
    (c.deal-told.ensures.value
    ∙ ap (λ (row : List Event). dealt 0 (events_of c.args.logs.now) (take c.deal-told.result row)) c.deref.ensures.value)
    c.remove_front.ensures.items

pub returns-else-is_empty-clause-value : goal.returns-else-is_empty-clause-value
returns-else-is_empty-clause-value c =
    some_dealt (events_of c.args.logs.now) (events_of c.deal-told.new.logs) c.args.row.now.items
    c.remove_front.new.row.items c.deal-told.result
    (c.deal-told.ensures.value
    ∙ ap (λ (row : List Event). dealt 0 (events_of c.args.logs.now) (take c.deal-told.result row)) c.deref.ensures.value)
    c.remove_front.ensures.items
