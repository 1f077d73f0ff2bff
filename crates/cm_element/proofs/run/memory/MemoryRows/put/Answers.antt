use Rattle.std.proofs.Common.{◌≡◌, ◌≢◌, ℕ, ◌+◌, ◌*◌, ◌<◌, get_or, set, ap, sym, ◌∙◌, arith}
use Rattle.std.proofs.Common.{get_or-set_other, length-set}
use Rattle.std.proofs.lemmas.List.{get_or_read}
use Rattle.cm_element.specs.Sparse.{spread}
use Rattle.cm_element.proofs.Spreading.{same_stride, slots_kept, spread-set, spread-zero, IsChangedAt}
use Rattle.cm_element.proofs.run.memory.MemoryRows.put.Goals as goal

pub returns-else-word-ne0 : goal.returns-else-word-ne0
returns-else-word-ne0 c =
    let rows = c.self.inside in
    let same : rows.stride ≡ c.args.stride =
    same_stride rows.words.items rows.slots.items rows.stride c.args.stride (rw c.self.view_is c.requires.words) in
    let none : get_or rows.slots.items c.args.at 0 ≡ 0 =
    sym (get_or_read rows.slots.items c.args.at c.index.result.now
    (omega (arith, c.self.invariant.count, c.requires.at)) c.index.ensures 0) ∙ c.if-index-eq0.true in
    let zero : c.args.word ≡ 0 = omega (arith, c.if-word-ne0.false) in
    record {
      value = rw (← c.self.view_is, zero)
          (spread-zero rows.words.items rows.slots.items _ rows.used rows.stride c.args.at c.args.place
          c.self.invariant c.requires.at none (omega (arith, same, c.requires.place))
          ∙ ap (λ (n : ℕ). set (spread rows.words.items rows.slots.items rows.stride)
          (c.args.at * n + c.args.place) 0) same);
    }

pub index_mut-requires : goal.index_mut-requires
index_mut-requires c =
    let rows = c.self.inside in
    let same : rows.stride ≡ c.args.stride =
    same_stride rows.words.items rows.slots.items rows.stride c.args.stride (rw c.self.view_is c.requires.words) in
    omega (arith, same, c.start.ensures.within, c.from.ensures, c.requires.place, rows.words.ok.0)

pub invariant_of-self : goal.invariant_of-self
invariant_of-self c =
    let rows = c.self.inside in
    let words = rows.words in
    let slots = rows.slots in
    let index : ℕ = c.start.result + c.from.result in
    let own : 0 < get_or slots.items c.args.at 0 = omega (
      arith,
      c.if-index-eq0.false,
      get_or_read slots.items
          c.args.at c.index.result.now (omega (arith, c.self.invariant.count, c.requires.at)) c.index.ensures 0,
    ) in
    let same : rows.stride ≡ c.args.stride =
    same_stride words.items slots.items rows.stride c.args.stride (rw c.self.view_is c.requires.words) in
    let place : index ≡ get_or slots.items c.args.at 0 * rows.stride + c.args.place =
    omega (arith, c.start.ensures.value, c.from.ensures) in
    let changed : IsChangedAt (get_or slots.items c.args.at 0 * rows.stride) c.args.place (c.args.place + 1) words.items
    (set words.items index c.args.word) = record {
      below = λ n h. let other : n ≢ index = omega (arith, h, place) in
          get_or-set_other words.items index n c.args.word 0 other;
      above = λ n h. let other : n ≢ index = omega (arith, h, place) in
          get_or-set_other words.items index n c.args.word 0 other;
    } in
    slots_kept words.items slots.items _ rows.used rows.stride c.args.at c.args.place (c.args.place + 1)
    (set words.items index c.args.word) _ c.self.invariant (omega (arith, same, c.requires.place))
    c.requires.at own changed (length-set words.items index c.args.word) (omega arith)

pub returns : goal.returns
returns c =
    let rows = c.self.inside in
    let words = rows.words in
    let slots = rows.slots in
    let index : ℕ = c.start.result + c.from.result in
    let own : 0 < get_or slots.items c.args.at 0 = omega (
      arith,
      c.if-index-eq0.false,
      get_or_read slots.items
          c.args.at c.index.result.now (omega (arith, c.self.invariant.count, c.requires.at)) c.index.ensures 0,
    ) in
    let same : rows.stride ≡ c.args.stride =
    same_stride words.items slots.items rows.stride c.args.stride (rw c.self.view_is c.requires.words) in
    let place : index ≡ get_or slots.items c.args.at 0 * rows.stride + c.args.place =
    omega (arith, c.start.ensures.value, c.from.ensures) in
    record {
      value = ap (λ (n : ℕ). spread (set words.items n c.args.word) slots.items rows.stride) place
          ∙ spread-set words.items slots.items _ rows.used rows.stride c.args.at c.args.place c.args.word
          c.self.invariant c.requires.at own (omega (arith, same, c.requires.place))
          ∙ (λ j. set (c.self.view_is j) (c.args.at * same j + c.args.place) c.args.word);
    }
