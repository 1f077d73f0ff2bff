use Rattle.std.proofs.Common.{refl, arith}
use Rattle.cm_element.proofs.Spreading.{AreZeros, blank_slots, spread-blank}
use Rattle.cm_element.proofs.run.memory.MemoryRows.blank.Goals as goal

zeros : (c : goal.In-Ok) → AreZeros c.args.stride c.resize.new.self.items
zeros c = record {
  long = omega (arith, c.in_ok-resize.ensures.len, c.resize.new.self.ok.0);
  each = λ k h. c.in_ok-resize.ensures.by_index.1 k 0 refl (omega (arith, c.in_ok-words.ensures.len)) h;
}

pub invariant_of-result : goal.invariant_of-result
invariant_of-result c =
    blank_slots c.resize.new.self.items c.in-Ok.slots.items _ c.args.stride (zeros c)
    (c.in-Ok.ensures.items_if_clones_equal (λ y same. same))
    (omega (arith, c.in_ok-words.ensures.capacity, c.resize.ensures.capacity)) c.requires.few

pub returns : goal.returns
returns c = record { value = spread-blank c.resize.new.self.items c.in-Ok.slots.items c.args.stride (zeros c) }
