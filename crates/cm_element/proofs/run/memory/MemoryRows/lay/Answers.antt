use Rattle.std.proofs.Common.{◌≡◌, ◌≤◌, ℕ, List, ◌+◌, ◌*◌, drop, length, get_or, refl, ap, sym, ◌∙◌, inl, inr, ⊎_elim, arith}
use Rattle.std.proofs.lemmas.List.{get_or-drop}
use Rattle.cm_element.proofs.Laying.{laid_more, laid_over, others_more, IsPutAt}
use Rattle.cm_element.proofs.Spreading.{same_stride, none_in_use, zero_read, blank_rows}
use Rattle.cm_element.proofs.run.memory.MemoryRows.lay.Goals as goal

pub returns-then-from-eq1-clause-value : goal.returns-then-from-eq1-clause-value
returns-then-from-eq1-clause-value c =
    let rows = c.self.inside in
    let from = c.from.inside in
    let here = c.args.here in
    let there = c.args.there in
    let same : rows.stride ≡ here.stride =
    same_stride rows.words.items rows.slots.items rows.stride here.stride (rw c.self.view_is c.requires.to) in
    let same_from : from.stride ≡ there.stride =
    same_stride from.words.items from.slots.items from.stride there.stride (rw c.from.view_is c.requires.from) in
    record {
      laid = rw (← c.self.view_is, ← c.from.view_is) (λ i k below h.
          zero_read rows.words.items rows.slots.items _ rows.used rows.stride here.stride i (here.first + k)
          c.self.invariant below
          (none_in_use rows.slots.items i (omega (arith, c.self.invariant.counted, c.if-self-eq1.true)))
          (omega (arith, same, c.requires.here, h)) same
          ∙ sym (zero_read from.words.items from.slots.items _ from.used from.stride there.stride i (there.first + k)
          c.from.invariant below
          (none_in_use from.slots.items i (omega (arith, c.from.invariant.counted, c.if-from-eq1.true)))
          (omega (arith, same_from, c.requires.there, h)) same_from));
      others = λ i k below h beside. refl;
    }

pub loop-row-init : goal.loop-row-init
loop-row-init c =
    let rows = c.self.inside in
    let from = c.from.inside in
    let here = c.args.here in
    let there = c.args.there in
    let end : ℕ = c.next_in_use-row.result in
    record {
      most = c.next_in_use-row.ensures.most;
      words = c.requires.to;
      laid = laid_over here there 0 end c.args.count c.args.from.now c.args.self.now c.requires.here c.requires.there
          (blank_rows rows.words.items rows.slots.items c.args.self.now _ rows.used rows.stride here.stride 0 end
          c.self.view_is c.self.invariant c.requires.to c.next_in_use-row.ensures.most
          (λ i l h. ap (λ (xs : List ℕ). get_or xs i 0) (sym c.deref.ensures.value) ∙ c.next_in_use-row.ensures.none i l h))
          (blank_rows from.words.items from.slots.items c.args.from.now _ from.used from.stride there.stride 0 end
          c.from.view_is c.from.invariant c.requires.from c.next_in_use-row.ensures.most
          (λ i l h. ap (λ (xs : List ℕ). get_or xs i 0) (sym c.deref-2.ensures.value)
          ∙ c.next_in_use-row.ensures.none_there i l h))
          (λ i k l few. absurd (omega (arith, l)));
      others = λ i k below beside. refl;
    }

pub loop-row-preserved : goal.loop-row-preserved
loop-row-preserved c =
    let rows = c.self-in-loop-row.inside in
    let from = c.from.inside in
    let here = c.args.here in
    let there = c.args.there in
    let source : List ℕ = c.args.from.now in
    let now : List ℕ = c.lay_row.new.self in
    let row : ℕ = c.loop-row.row in
    let end : ℕ = c.next_in_use-row-in-loop-row.result in
    let next = c.next_in_use-row-in-loop-row.ensures in
    let place : ℕ = row * there.stride + there.first in
    let part : List ℕ = drop place source in
    let put : IsPutAt (row * here.stride + here.first) c.args.count part c.loop-row.self now = record {
      value = λ k h. c.lay_row.ensures.value.laid k h ∙ sym (get_or-drop place source k 0);
      below = c.lay_row.ensures.value.below;
      above = c.lay_row.ensures.value.above;
    } in
    let words : length now ≡ 4096 * here.stride = c.lay_row.ensures.words ∙ c.loop-row.invariant.words in
    record {
      most = next.most;
      words = words;
      laid = laid_over here there (row + 1) end c.args.count source now c.requires.here c.requires.there
          (blank_rows rows.words.items rows.slots.items now _ rows.used rows.stride here.stride (row + 1) end
          c.self-in-loop-row.view_is c.self-in-loop-row.invariant words next.most
          (λ i l h. ap (λ (xs : List ℕ). get_or xs i 0) (sym c.deref-in-loop-row.ensures.value) ∙ next.none i l h))
          (blank_rows from.words.items from.slots.items source _ from.used from.stride there.stride (row + 1) end
          c.from.view_is c.from.invariant c.requires.from next.most
          (λ i l h. ap (λ (xs : List ℕ). get_or xs i 0) (sym c.deref-in-loop-row-2.ensures.value)
          ∙ next.none_there i l h))
          (laid_more here there row c.args.count source c.loop-row.self now part c.requires.here put
          (λ k h. get_or-drop place source k 0) c.loop-row.invariant.laid);
      others = λ i k inside out. others_more here row c.args.count c.args.self.now c.loop-row.self now part
          c.requires.here put c.loop-row.invariant.others i k inside
          (⊎_elim (λ (l : end ≤ i). inl (omega (arith, next.from))) (λ beside. inr beside) out);
    }
