use Rattle.std.proofs.Common.{◌≡◌, ◌<◌, None, sym, ◌∙◌, subst, arith}
use Rattle.std.proofs.lemmas.List.{take_all}
use Rattle.std.proofs.lemmas.List.Elements.{All-more}
use Rattle.std.specs.List.{All}
use Rattle.cm_model.specs.declared.message.Event.{Event}
use Rattle.cm_model.specs.Found.{delivery_place}
use Rattle.cm_router.specs.Rows.{logging_chip}
use Rattle.cm_array.proofs.Searching.{place_of_teller}
use Rattle.cm_array.proofs.finding.told_in.Goals as goal
use Rattle.cm_array.proofs.finding.told_in.Goals.{in-Some+else-from-chips, in_default}

pub loop-event-preserved : goal.loop-event-preserved
loop-event-preserved c =
    let tag = c.args.tag.now in
    let e = c.event-item.result in
    let here : logging_chip e < c.args.chips → delivery_place tag e ≡ None =
    λ below. elim c.match-delivery_place.branch [
      | in-Some+else-from-chips w ↦
          let of = place_of_teller tag w.in-Some.place e (sym c.delivery_place.ensures.value ∙ w.in-Some.is) in
          absurd (omega (arith, below, of, w.from.ensures, w.if-from-chips.false))
      | in_default w ↦ sym c.delivery_place.ensures.value ∙ w.in_default.is
    ] in
    let none = λ (x : Event). logging_chip x < c.args.chips → delivery_place tag x ≡ None in
    All-more none c.args.row.now c.loop-event.event-index e c.loop-event-test.true c.loop-event.invariant
    (subst none c.event-item.is here)

pub returns-clause-none : goal.returns-clause-none
returns-clause-none c = λ none. subst
    (All (λ (x : Event). logging_chip x < c.args.chips → delivery_place c.args.tag.now x ≡ None))
    (take_all c.loop-event.event-index c.args.row.now c.loop-event-test.false) c.loop-event.invariant
