use Rattle.std.proofs.Common.{◌≡◌, ◌<◌, ◌^◌, ℕ, Some, None, List, sym, ◌∙◌, ap, arith}
use Rattle.std.specs.Prelude.{slice_get}
use Rattle.cm_model.specs.declared.message.Message.{Message}
use Rattle.cm_model.specs.Array.{nth_or_nil}
use Rattle.lab_route.specs.Whereabouts.{stands_among}
use Rattle.lab_route.proofs.Searching.{first_next, first_here}
use Rattle.lab_route.proofs.whereabouts.stand_in.Goals as goal

pub returns-in-Some : goal.returns-in-Some
returns-in-Some c =
    let tag = c.args.tag.now in
    let chip = c.loop-chip.chip in
    let at = λ (k : ℕ). stands_among tag k (nth_or_nil c.args.machine.now.machine.buffers k) in
    let inside : chip < 2 ^ c.args.machine.now.n = omega (arith, c.loop-chip-test.true, c.chips-chip-end.ensures.value) in
    let here : slice_get (at chip) 0 ≡ Some c.in-Some.stand =
    ap (λ (ms : List Message). slice_get (stands_among tag chip ms) 0) (sym c.buffer.ensures.value)
    ∙ sym c.in-Some.ensures.value in
    record {
      value = sym (c.loop-chip.invariant ∙ first_here at chip (2 ^ c.args.machine.now.n) c.in-Some.stand inside here);
      chip = omega (arith, c.in-Some.ensures.chip, inside);
    }

pub loop-chip-preserved : goal.loop-chip-preserved
loop-chip-preserved c =
    let tag = c.args.tag.now in
    let chip = c.loop-chip.chip in
    let at = λ (k : ℕ). stands_among tag k (nth_or_nil c.args.machine.now.machine.buffers k) in
    let inside : chip < 2 ^ c.args.machine.now.n = omega (arith, c.loop-chip-test.true, c.chips-chip-end.ensures.value) in
    let here : slice_get (at chip) 0 ≡ None =
    ap (λ (ms : List Message). slice_get (stands_among tag chip ms) 0) (sym c.buffer.ensures.value)
    ∙ sym c.stand_at.ensures.value ∙ c.in_default.is in
    c.loop-chip.invariant ∙ first_next at chip (2 ^ c.args.machine.now.n) inside here
