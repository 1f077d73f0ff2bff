use Rattle.std.proofs.Common.{◌≡◌, ℕ, ◌*◌, List, length, ap, sym, subst, ◌∙◌, arith}
use Rattle.std.specs.Vec.{with_items}
use Rattle.std.proofs.lemmas.List.{with_items_is}
use Rattle.cm_element.specs.Sparse.{spread, AreMemorySlots}
use Rattle.cm_element.proofs.Filling.{retold}
use Rattle.cm_element.proofs.Putting.{IsFieldPut}
use Rattle.cm_element.proofs.Spreading.{same_stride, length-spread}
use Rattle.cm_element.proofs.run.memory.MemoryRows.put_field.Goals as goal

pub put_bits-requires-clause-place : goal.put_bits-requires-clause-place
put_bits-requires-clause-place c =
    let rows = c.self.inside in
    let same : rows.stride ≡ c.args.stride =
    same_stride rows.words.items rows.slots.items rows.stride c.args.stride (rw c.self.view_is c.requires.words) in
    omega (arith, same, c.requires.place)

pub invariant_of-self : goal.invariant_of-self
invariant_of-self c =
    let rows = c.self.inside in
    let new : List ℕ = c.put_bits.new.words in
    let lent = c.deref_mut.ensures in
    let is = with_items_is rows.words new (omega (arith, c.put_bits.ensures.words, ap length lent.value, lent.len)) in
    subst (λ (ms : List ℕ). AreMemorySlots ms rows.words.cap rows.slots.items rows.used rows.stride) (sym is)
    ((rw (c.deref_mut.ensures.value, c.deref.ensures.value) at c.put_bits.ensures.value).kept _ _ c.self.invariant)

pub returns-clause-value : goal.returns-clause-value
returns-clause-value c =
    let rows = c.self.inside in
    let new : List ℕ = c.put_bits.new.words in
    let same : rows.stride ≡ c.args.stride =
    same_stride rows.words.items rows.slots.items rows.stride c.args.stride (rw c.self.view_is c.requires.words) in
    let lent = c.deref_mut.ensures in
    let is = with_items_is rows.words new (omega (arith, c.put_bits.ensures.words, ap length lent.value, lent.len)) in
    retold (λ old now. IsFieldPut old now c.args.stride c.args.place c.args.proc c.args.field.at c.put_bits.result
    c.args.value) rows.words.items rows.slots.items (with_items rows.words new).items new c.args.self.now rows.stride
    c.self.view_is is
    (subst (λ (n : ℕ). IsFieldPut (spread rows.words.items rows.slots.items rows.stride)
    (spread new rows.slots.items rows.stride) n c.args.place c.args.proc c.args.field.at c.put_bits.result c.args.value)
    same ((rw (c.deref_mut.ensures.value, c.deref.ensures.value) at c.put_bits.ensures.value).value _ _ c.self.invariant))

pub returns-clause-words : goal.returns-clause-words
returns-clause-words c =
    let rows = c.self.inside in
    let same : rows.stride ≡ c.args.stride =
    same_stride rows.words.items rows.slots.items rows.stride c.args.stride (rw c.self.view_is c.requires.words) in
    length-spread _ _ rows.stride ∙ ap (λ (n : ℕ). 4096 * n) same ∙ sym c.requires.words
