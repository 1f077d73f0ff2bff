use Rattle.std.proofs.Common.{◌≡◌, ℕ, ◌+◌, ◌-◌, sym, ◌∙◌, arith}
use Rattle.cm_element.proofs.Laying.{get_or-part}
use Rattle.cm_element.proofs.Spreading.{same_stride, get_or-row}
use Rattle.cm_element.proofs.run.memory.MemoryRows.row.Goals as goal

pub overflow_add-result : goal.overflow_add-result
overflow_add-result c =
    let rows = c.self.inside in
    let same : rows.stride ≡ c.args.stride =
    same_stride rows.words.items rows.slots.items rows.stride c.args.stride (rw c.self.view_is c.requires.words) in
    record {
      fits = omega (
        arith,
        same,
        c.start-first.ensures.within,
        c.requires.count,
        c.deref.ensures.len,
        rows.words.ok.0,
        c.deref.type_inv,
      );
    }

pub slice_bounds-result-end : goal.slice_bounds-result-end
slice_bounds-result-end c =
    let rows = c.self.inside in
    let same : rows.stride ≡ c.args.stride =
    same_stride rows.words.items rows.slots.items rows.stride c.args.stride (rw c.self.view_is c.requires.words) in
    omega (arith, same, c.start-first.ensures.within, c.requires.count, c.deref.ensures.len, rows.words.ok.0)

pub returns-clause-value : goal.returns-clause-value
returns-clause-value c =
    let rows = c.self.inside in
    let first : ℕ = c.start-first.result in
    let few : first + c.args.count - first ≡ c.args.count = omega arith in
    let same : rows.stride ≡ c.args.stride =
    same_stride rows.words.items rows.slots.items rows.stride c.args.stride (rw c.self.view_is c.requires.words) in
    rw (← c.self.view_is, c.deref.ensures.value) (λ k h.
    get_or-part rows.words.items first (first + c.args.count) c.args.count k few h
    ∙ sym (get_or-row rows.words.items rows.slots.items rows.stride c.args.stride c.args.at k first c.requires.at
    (omega (arith, same, h, c.requires.count)) c.start-first.ensures.value same))
