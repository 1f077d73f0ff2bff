use Rattle.std.proofs.Common.{◌≡◌, ℕ, ◌*◌, List, length, ap, sym, subst, ◌∙◌, arith}
use Rattle.std.specs.Vec.{with_items}
use Rattle.std.proofs.lemmas.List.{with_items_is}
use Rattle.cm_element.specs.Sparse.{spread, AreMemorySlots}
use Rattle.cm_element.specs.Steps.{IsStored}
use Rattle.cm_element.proofs.Spreading.{same_stride, length-spread, slots_kept}
use Rattle.cm_element.proofs.Filling.{row_stored, stored_changed, retold}
use Rattle.cm_element.proofs.run.memory.MemoryRows.store.Goals as goal

pub store_row-requires-clause-within : goal.store_row-requires-clause-within
store_row-requires-clause-within c =
    let rows = c.self.inside in
    let same : rows.stride ≡ c.args.stride =
    same_stride rows.words.items rows.slots.items rows.stride c.args.stride (rw c.self.view_is c.requires.words) in
    omega (arith, same, c.start-here.ensures.within, c.requires.count, ap length c.deref_mut.ensures.value)

pub invariant_of-self : goal.invariant_of-self
invariant_of-self c =
    let rows = c.self.inside in
    let words = c.own-self-inside.new.words in
    let slots = c.own-self-inside.new.slots in
    let new : List ℕ = c.store_row.new.rows in
    let same : rows.stride ≡ c.args.stride =
    same_stride rows.words.items rows.slots.items rows.stride c.args.stride (rw c.self.view_is c.requires.words) in
    let lent = c.deref_mut.ensures in
    let is = with_items_is words new (omega (arith, c.store_row.auto.rows, ap length lent.value, lent.len)) in
    let stored = rw (lent.value, c.start-here.ensures.value) at c.store_row.ensures.value in
    subst (λ (ms : List ℕ). AreMemorySlots ms words.cap slots.items c.own-self-inside.result rows.stride) (sym is)
    (slots_kept words.items slots.items _ c.own-self-inside.result rows.stride c.args.at 0 (length c.args.planes.now)
    new _ c.own-self-inside.ensures.slots (omega (arith, same, c.requires.count)) c.requires.at
    c.own-self-inside.ensures.own (stored_changed _ _ _ _ _ stored)
    (omega (arith, c.store_row.auto.rows, ap length lent.value)) (omega arith))

pub returns-clause-value : goal.returns-clause-value
returns-clause-value c =
    let rows = c.self.inside in
    let words = c.own-self-inside.new.words in
    let slots = c.own-self-inside.new.slots in
    let new : List ℕ = c.store_row.new.rows in
    let same : rows.stride ≡ c.args.stride =
    same_stride rows.words.items rows.slots.items rows.stride c.args.stride (rw c.self.view_is c.requires.words) in
    let lent = c.deref_mut.ensures in
    let is = with_items_is words new (omega (arith, c.store_row.auto.rows, ap length lent.value, lent.len)) in
    let stored = rw (lent.value, c.start-here.ensures.value) at c.store_row.ensures.value in
    retold (λ old now. IsStored (c.args.at * c.args.stride) c.args.holds.now c.args.planes.now old now)
    words.items slots.items (with_items words new).items new c.args.self.now rows.stride
    (c.own-self-inside.ensures.value ∙ c.self.view_is) is
    (subst (λ (n : ℕ). IsStored (c.args.at * n) c.args.holds.now c.args.planes.now
    (spread words.items slots.items rows.stride) (spread new slots.items rows.stride)) same
    (row_stored words.items slots.items new c.args.holds.now c.args.planes.now _ c.own-self-inside.result rows.stride
    c.args.at c.own-self-inside.ensures.slots c.requires.at c.own-self-inside.ensures.own
    (omega (arith, same, c.requires.count)) stored))

pub returns-clause-words : goal.returns-clause-words
returns-clause-words c =
    let rows = c.self.inside in
    let same : rows.stride ≡ c.args.stride =
    same_stride rows.words.items rows.slots.items rows.stride c.args.stride (rw c.self.view_is c.requires.words) in
    length-spread _ _ rows.stride ∙ ap (λ (n : ℕ). 4096 * n) same ∙ sym c.requires.words
