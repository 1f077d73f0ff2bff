use Rattle.std.proofs.Common.{◌≡◌, ℕ, ◌+◌, ◌*◌, List, length, get_or, ap, sym, subst, ◌∙◌, arith}
use Rattle.std.specs.Vec.{with_items}
use Rattle.std.proofs.lemmas.List.{with_items_is}
use Rattle.cm_element.specs.Laid.{IsRowLaid}
use Rattle.cm_element.specs.Sparse.{spread, AreMemorySlots}
use Rattle.cm_element.proofs.Spreading.{same_stride, length-spread, slots_kept, IsChangedAt}
use Rattle.cm_element.proofs.Filling.{row_filled, retold}
use Rattle.cm_element.proofs.run.memory.MemoryRows.fill.Goals as goal

pub overflow_add-place : goal.overflow_add-place
overflow_add-place c =
    let rows = c.self.inside in
    let same : rows.stride ≡ c.args.here.stride =
    same_stride rows.words.items rows.slots.items rows.stride c.args.here.stride (rw c.self.view_is c.requires.to) in
    record {
      fits = omega (
        arith,
        same,
        c.start.ensures.within,
        c.requires.here,
        c.own-self-inside.new.words.ok.0,
        c.own-self-inside.new.words.small,
      );
    }

pub put_row-requires : goal.put_row-requires
put_row-requires c =
    let rows = c.self.inside in
    let same : rows.stride ≡ c.args.here.stride =
    same_stride rows.words.items rows.slots.items rows.stride c.args.here.stride (rw c.self.view_is c.requires.to) in
    record {
      within = omega (arith, same, c.start.ensures.within, c.requires.here, ap length c.deref_mut.ensures.value);
    }

-- the words that were changed
changed : (c : goal.After-self-2-1) → IsChangedAt
    (get_or c.own-self-inside.new.slots.items c.args.row 0 * c.self.inside.stride) c.args.here.first
    (c.args.here.first + length c.args.words.now) c.own-self-inside.new.words.items c.put_row.new.rows
changed c =
    let below = rw c.deref_mut.ensures.value at c.put_row.ensures.below in
    let above = rw c.deref_mut.ensures.value at c.put_row.ensures.above in
    record {
      below = λ i h. below i (omega (arith, h, c.start.ensures.value));
      above = λ i h. above i (omega (arith, h, c.start.ensures.value));
    }

pub invariant_of-self : goal.invariant_of-self
invariant_of-self c =
    let rows = c.self.inside in
    let words = c.own-self-inside.new.words in
    let slots = c.own-self-inside.new.slots in
    let new : List ℕ = c.put_row.new.rows in
    let same : rows.stride ≡ c.args.here.stride =
    same_stride rows.words.items rows.slots.items rows.stride c.args.here.stride (rw c.self.view_is c.requires.to) in
    let lent = c.deref_mut.ensures in
    let is = with_items_is words new (omega (arith, c.put_row.auto.rows, ap length lent.value, lent.len)) in
    subst (λ (ms : List ℕ). AreMemorySlots ms words.cap slots.items c.own-self-inside.result rows.stride) (sym is)
    (slots_kept words.items slots.items _ c.own-self-inside.result rows.stride c.args.row c.args.here.first
    (c.args.here.first + length c.args.words.now) new _ c.own-self-inside.ensures.slots
    (omega (arith, same, c.requires.here)) c.requires.row c.own-self-inside.ensures.own (changed c)
    (omega (arith, c.put_row.auto.rows, ap length lent.value)) (omega arith))

pub returns-clause-value : goal.returns-clause-value
returns-clause-value c =
    let rows = c.self.inside in
    let words = c.own-self-inside.new.words in
    let slots = c.own-self-inside.new.slots in
    let new : List ℕ = c.put_row.new.rows in
    let same : rows.stride ≡ c.args.here.stride =
    same_stride rows.words.items rows.slots.items rows.stride c.args.here.stride (rw c.self.view_is c.requires.to) in
    let lent = c.deref_mut.ensures in
    let is = with_items_is words new (omega (arith, c.put_row.auto.rows, ap length lent.value, lent.len)) in
    let start : c.start.result + c.args.here.first ≡ get_or slots.items c.args.row 0 * rows.stride + c.args.here.first =
    ap (λ (n : ℕ). n + c.args.here.first) c.start.ensures.value in
    retold (λ old now. IsRowLaid (c.args.row * c.args.here.stride + c.args.here.first) 0 (length c.args.words.now)
    c.args.words.now old now)
    words.items slots.items (with_items words new).items new c.args.self.now rows.stride
    (c.own-self-inside.ensures.value ∙ c.self.view_is) is
    (subst (λ (n : ℕ). IsRowLaid (c.args.row * n + c.args.here.first) 0 (length c.args.words.now) c.args.words.now
    (spread words.items slots.items rows.stride) (spread new slots.items rows.stride)) same
    (row_filled words.items slots.items new c.args.words.now _ c.own-self-inside.result rows.stride
    c.args.row c.args.here.first (length c.args.words.now) (c.start.result + c.args.here.first)
    c.own-self-inside.ensures.slots c.requires.row c.own-self-inside.ensures.own
    (omega (arith, same, c.requires.here)) start c.put_row.ensures.value (changed c)))

pub returns-clause-words : goal.returns-clause-words
returns-clause-words c =
    let rows = c.self.inside in
    let same : rows.stride ≡ c.args.here.stride =
    same_stride rows.words.items rows.slots.items rows.stride c.args.here.stride (rw c.self.view_is c.requires.to) in
    length-spread _ _ rows.stride ∙ ap (λ (n : ℕ). 4096 * n) same ∙ sym c.requires.to
