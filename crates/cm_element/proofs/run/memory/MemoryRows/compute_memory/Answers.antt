use Rattle.std.proofs.Common.{◌≡◌, ℕ, refl, ◌*◌, false, List, length, get_or, ap, sym, subst, ◌∙◌, arith}
use Rattle.std.specs.Vec.{with_items}
use Rattle.std.proofs.lemmas.List.{with_items_is}
use Rattle.cm_model.specs.declared.act.Nano.{Nano}
use Rattle.cm_rows.specs.Rows.{IsComputed}
use Rattle.cm_element.specs.Sparse.{AreMemorySlots}
use Rattle.cm_element.proofs.Columns.{apart_at, row_within}
use Rattle.cm_element.proofs.Spreading.{same_stride, length-spread, slots_kept}
use Rattle.cm_element.proofs.Filling.{IsInSlots, memory_changed, memory_computed, retold}
use Rattle.cm_element.proofs.run.memory.MemoryRows.compute_memory.Goals as goal

pub compute_memory-requires-clause-rows : goal.compute_memory-requires-clause-rows
compute_memory-requires-clause-rows c =
    let rows = c.self.inside in
    let same : rows.stride ≡ c.args.stride =
    same_stride rows.words.items rows.slots.items rows.stride c.args.stride (rw c.self.view_is c.requires.words) in
    record {
      a = omega (arith, same, c.start.ensures.within, c.requires.count, ap length c.deref_mut.ensures.value);
      b = omega (arith, same, c.start-2.ensures.within, c.requires.count, ap length c.deref_mut.ensures.value);
      read = omega (arith, row_within c.args.nano.now.read 16 c.args.stride c.requires.places.read_below);
      cond = omega (arith, row_within c.args.nano.now.cond 16 c.args.stride c.requires.places.cond_below);
    }

pub compute_memory-requires-clause-b_apart : goal.compute_memory-requires-clause-b_apart
compute_memory-requires-clause-b_apart c =
    let rows = c.self.inside in
    let slots = c.own-self-inside.new.slots.items in
    let same : rows.stride ≡ c.args.stride =
    same_stride rows.words.items rows.slots.items rows.stride c.args.stride (rw c.self.view_is c.requires.words) in
    apart_at (get_or slots c.from-a.result 0) (get_or slots c.from-b.result 0) rows.stride c.args.count c.start.result
    c.start-2.result c.start.ensures.value c.start-2.ensures.value (omega (arith, same, c.requires.count))

-- where the rows are
in_slots : (c : goal.After-self-2-1) → IsInSlots c.args.nano.now c.own-self-inside.new.words.items
    c.own-self-inside.new.slots.items c.own-self-inside.new.words.cap c.own-self-inside.result c.self.inside.stride
    c.args.count c.args.at
    (record {
      a = c.start.result;
      b = c.start-2.result;
      read = c.args.at.read;
      write = c.args.at.write;
      cond = c.args.at.cond;
    })
in_slots c =
    let rows = c.self.inside in
    let slots = c.own-self-inside.new.slots.items in
    let same : rows.stride ≡ c.args.stride =
    same_stride rows.words.items rows.slots.items rows.stride c.args.stride (rw c.self.view_is c.requires.words) in
    let a : c.from-a.result ≡ c.args.nano.now.a = c.from-a.ensures ∙ c.get.ensures.value in
    let b : c.from-b.result ≡ c.args.nano.now.b = c.from-b.ensures ∙ c.get-2.ensures.value in
    record {
      are = c.own-self-inside.ensures.slots;
      places = rw same c.requires.places;
      few = omega (arith, same, c.requires.count);
      own = rw (← a) c.own-self-inside.ensures.own;
      a = c.start.ensures.value ∙ ap (λ (i : ℕ). get_or slots i 0 * rows.stride) a;
      b = c.start-2.ensures.value ∙ ap (λ (i : ℕ). get_or slots i 0 * rows.stride) b;
      read = refl;
      cond = refl;
    }

pub invariant_of-self : goal.invariant_of-self
invariant_of-self c =
    let rows = c.self.inside in
    let words = c.own-self-inside.new.words in
    let slots = c.own-self-inside.new.slots in
    let new : List ℕ = c.compute_memory.new.memory in
    let lent = c.deref_mut.ensures in
    let is = with_items_is words new (omega (arith, c.compute_memory.auto.memory, ap length lent.value, lent.len)) in
    let computed = rw lent.value at c.compute_memory.ensures.memory in
    let there = in_slots c in
    subst (λ (ms : List ℕ). AreMemorySlots ms words.cap slots.items c.own-self-inside.result rows.stride) (sym is)
    (slots_kept words.items slots.items _ c.own-self-inside.result rows.stride c.args.nano.now.a 0 c.args.count
    new _ there.are there.few there.places.a_below there.own
    (memory_changed _ _ _ _ _ _ _ _ _ _ _ _ _ _ _ there computed)
    (omega (arith, c.compute_memory.auto.memory, ap length lent.value)) (omega arith))

pub returns-clause-memory : goal.returns-clause-memory
returns-clause-memory c =
    let rows = c.self.inside in
    let words = c.own-self-inside.new.words in
    let slots = c.own-self-inside.new.slots in
    let new : List ℕ = c.compute_memory.new.memory in
    let nano : Nano = c.args.nano.now in
    let lent = c.deref_mut.ensures in
    let is = with_items_is words new (omega (arith, c.compute_memory.auto.memory, ap length lent.value, lent.len)) in
    let computed = rw lent.value at c.compute_memory.ensures.memory in
    retold (λ old now. IsComputed nano.mem_table false c.args.always nano.sense c.args.at c.args.at.a 0 c.args.count old
    c.args.flags.now old now)
    words.items slots.items (with_items words new).items new c.args.self.now rows.stride
    (c.own-self-inside.ensures.value ∙ c.self.view_is) is
    (memory_computed _ _ _ _ _ _ _ _ _ _ _ _ _ _ _ (in_slots c) computed)

pub returns-clause-words : goal.returns-clause-words
returns-clause-words c =
    let rows = c.self.inside in
    let same : rows.stride ≡ c.args.stride =
    same_stride rows.words.items rows.slots.items rows.stride c.args.stride (rw c.self.view_is c.requires.words) in
    length-spread _ _ rows.stride ∙ ap (λ (n : ℕ). 4096 * n) same ∙ sym c.requires.words
