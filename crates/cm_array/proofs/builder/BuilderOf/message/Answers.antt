use Rattle.std.proofs.Common.{◌≡◌, ◌<◌, ◌^◌, ℕ, length, sym, ap, ◌∙◌, arith, subst}
use Rattle.cm_model.specs.Array.{nth_or_nil}
use Rattle.cm_model.specs.Machine.{Machine}
use Rattle.cm_array.specs.declared.chip_state.ChipState.{ChipState}
use Rattle.cm_array.specs.Building.{state_built}
use Rattle.cm_array.specs.Parts.{machine_of}
use Rattle.cm_array.specs.Pokes.{machine_with_message}
use Rattle.cm_array.proofs.Building.{machine_of-with_message, AreUnfinished-with_message}
use Rattle.cm_array.proofs.builder.BuilderOf.message.Goals as goal

pub invariant_of-self : goal.invariant_of-self
invariant_of-self g c =
    let parts : ChipState = state_built c.self.inside.run c.self.inside.state in
    let below : c.from.result < 2 ^ g.S.Sizes.n = omega arith in
    let is : machine_of parts ≡ c.args.self.now = c.self.view_is in
    let place : c.from.result ≡ c.args.chip = c.from.ensures in
    let room : length (nth_or_nil (machine_of parts).buffers c.args.chip) < g.S.Sizes.cap =
    subst (λ (m : Machine). length (nth_or_nil m.buffers c.args.chip) < g.S.Sizes.cap) (sym is) c.requires.room in
    let born : c.args.message.tag.birth < (machine_of parts).clock =
    subst (λ (m : Machine). c.args.message.tag.birth < m.clock) (sym is) c.requires.born in
    AreUnfinished-with_message g.S.Sizes.n g.S.Sizes.cap parts c.from.result c.arrive.new.self c.args.message c.self.invariant
    below c.arrive.ensures.value
    (subst (λ (i : ℕ). length (nth_or_nil (machine_of parts).buffers i) < g.S.Sizes.cap) (sym place) room)
    c.look_at.ensures.message born

pub returns : goal.returns
returns g c =
    let parts : ChipState = state_built c.self.inside.run c.self.inside.state in
    record {
      value =
          machine_of-with_message parts c.from.result c.arrive.new.self c.args.message c.arrive.ensures.value
          ∙ ap (λ (i : ℕ). machine_with_message (machine_of parts) i c.args.message) c.from.ensures
          ∙ ap (λ (machine : Machine). machine_with_message machine c.args.chip c.args.message) c.self.view_is;
    }
