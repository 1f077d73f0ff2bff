use Rattle.std.proofs.Common.{◌≡◌, ◌<◌, ◌^◌, ℕ, Some, None, List, sym, ◌∙◌, ap, arith}
use Rattle.std.specs.Prelude.{slice_get}
use Rattle.std.specs.List.{filter_map}
use Rattle.cm_model.specs.declared.message.Event.{Event}
use Rattle.cm_model.specs.Found.{delivery_place}
use Rattle.lab_study.specs.Counts.{events_behind}
use Rattle.lab_route.proofs.Searching.{first_next, first_here}
use Rattle.lab_route.proofs.whereabouts.delivery_in.Goals as goal

pub returns-in-Some : goal.returns-in-Some
returns-in-Some c =
    let chip = c.loop-chip.chip in
    let places = λ (es : List Event). filter_map (delivery_place c.args.tag.now) es in
    let at = λ (k : ℕ). places (events_behind c.args.before.now c.args.machine.now.machine k) in
    let inside : chip < 2 ^ c.args.machine.now.n = omega (arith, c.loop-chip-test.true, c.chips-chip-end.ensures.value) in
    let here : slice_get (at chip) 0 ≡ Some c.in-Some.place =
    ap (λ es. slice_get (places es) 0) (sym c.events_behind-events.ensures.value) ∙ sym c.in-Some.ensures.value in
    record { value = sym (c.loop-chip.invariant ∙ first_here at chip (2 ^ c.args.machine.now.n) c.in-Some.place inside here) }

pub loop-chip-preserved : goal.loop-chip-preserved
loop-chip-preserved c =
    let chip = c.loop-chip.chip in
    let places = λ (es : List Event). filter_map (delivery_place c.args.tag.now) es in
    let at = λ (k : ℕ). places (events_behind c.args.before.now c.args.machine.now.machine k) in
    let inside : chip < 2 ^ c.args.machine.now.n = omega (arith, c.loop-chip-test.true, c.chips-chip-end.ensures.value) in
    let here : slice_get (at chip) 0 ≡ None =
    ap (λ es. slice_get (places es) 0) (sym c.events_behind-events.ensures.value) ∙ sym c.delivery_among.ensures.value ∙ c.in_default.is in
    c.loop-chip.invariant ∙ first_next at chip (2 ^ c.args.machine.now.n) inside here
