use Rattle.std.proofs.Common.{◌≡◌, None, sym, ◌∙◌, subst}
use Rattle.std.proofs.lemmas.List.{take_all}
use Rattle.cm_model.specs.declared.message.Event.{Event}
use Rattle.cm_model.specs.Found.{delivery_place}
use Rattle.std.proofs.lemmas.List.Elements.{All-more}
use Rattle.std.specs.List.{All}
use Rattle.cm_array.proofs.finding.delivered_in.Goals as goal

pub loop-event-preserved : goal.loop-event-preserved
loop-event-preserved c =
    let none = λ (e : Event). delivery_place c.args.tag.now e ≡ None in
    All-more none c.args.log.now c.loop-event.event-index c.event-item.result c.loop-event-test.true
    c.loop-event.invariant (subst none c.event-item.is (sym c.delivery_place.ensures.value ∙ c.in_default.is))

pub returns-clause-none : goal.returns-clause-none
returns-clause-none c = λ none. subst (All (λ (e : Event). delivery_place c.args.tag.now e ≡ None))
    (take_all c.loop-event.event-index c.args.log.now c.loop-event-test.false) c.loop-event.invariant
