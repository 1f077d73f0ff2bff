use Rattle.std.proofs.Common.{◌≡◌, ℕ, ◌+◌, ◌-◌, ◌*◌, length, get_or, refl, ap, sym, ◌∙◌, arith, drop, length-drop}
use Rattle.std.proofs.Common.{length-take}
use Rattle.cm_element.proofs.Laying.{get_or-part}
use Rattle.cm_element.proofs.Spreading.{same_stride, get_or-row, row_inside}
use Rattle.cm_element.proofs.run.memory.MemoryRows.write_eights.Goals as goal

pub offset_bounds-deref-there : goal.offset_bounds-deref-there
offset_bounds-deref-there c =
    let rows = c.self.inside in
    let same : rows.stride ≡ c.args.there.stride =
    same_stride rows.words.items rows.slots.items rows.stride c.args.there.stride
    (rw c.self.view_is c.requires.words) in
    record { fits = omega (arith, same, c.requires.there, c.self.invariant.few) }

pub slice_bounds-from-count : goal.slice_bounds-from-count
slice_bounds-from-count c =
    let rows = c.self.inside in
    let same : rows.stride ≡ c.args.there.stride =
    same_stride rows.words.items rows.slots.items rows.stride c.args.there.stride
    (rw c.self.view_is c.requires.words) in
    let inside =
    row_inside rows.words.items rows.slots.items _ rows.used rows.stride 0 c.self.invariant (omega arith) in
    omega (arith, same, c.requires.there, inside, ap length c.deref.ensures.value)

pub slice_bounds-from-start : goal.slice_bounds-from-start
slice_bounds-from-start c =
    let rows = c.self.inside in
    let same : rows.stride ≡ c.args.there.stride =
    same_stride rows.words.items rows.slots.items rows.stride c.args.there.stride
    (rw c.self.view_is c.requires.words) in
    let inside =
    row_inside rows.words.items rows.slots.items _ rows.used rows.stride 0 c.self.invariant (omega arith) in
    omega (arith, same, c.requires.there, inside, ap length c.deref.ensures.value)

pub turn_eights-requires-clause-rows : goal.turn_eights-requires-clause-rows
turn_eights-requires-clause-rows c =
    let rows = c.self.inside in
    let first : ℕ = c.args.there.first in
    let same : rows.stride ≡ c.args.there.stride =
    same_stride rows.words.items rows.slots.items rows.stride c.args.there.stride
    (rw c.self.view_is c.requires.words) in
    rw (c.deref.ensures.value, c.deref-2.ensures.value) (λ i below.
    let inside = row_inside rows.words.items rows.slots.items _ rows.used rows.stride i c.self.invariant below in
    omega (
      arith,
      same,
      inside,
      c.requires.there,
      length-drop first rows.words.items,
      length-take (length rows.words.items - first) (drop first rows.words.items),
    ))

pub returns : goal.returns
returns c =
    let rows = c.self.inside in
    let words = rows.words.items in
    let slots = rows.slots.items in
    let first : ℕ = c.args.there.first in
    let same : rows.stride ≡ c.args.there.stride =
    same_stride words slots rows.stride c.args.there.stride (rw c.self.view_is c.requires.words) in
    let turned = rw (c.deref.ensures.value, c.deref-2.ensures.value) at c.turn_eights.ensures.value in
    rw (← c.self.view_is) (record {
      value = λ i p below few.
          let start : ℕ = get_or slots i 0 * rows.stride in
          let inside = row_inside words slots _ rows.used rows.stride i c.self.invariant below in
          let place : first + (start + p) ≡ start + (first + p) = omega arith in
          turned i p below few
          ∙ get_or-part words first (length words) (length words - first) (start + p) refl
          (omega (arith, same, inside, few, c.requires.there))
          ∙ ap (λ (n : ℕ). get_or words n 0) place
          ∙ sym (get_or-row words slots rows.stride c.args.there.stride i (first + p) start below
          (omega (arith, same, few, c.requires.there)) refl same);
    })
