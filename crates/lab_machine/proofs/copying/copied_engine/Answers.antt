use Rattle.std.proofs.Common.{◌≡◌, ◌≢◌, ℕ, ◌<◌, ◌++◌, [], List, length, set, refl, sym, ap, ◌∙◌, arith}
use Rattle.std.proofs.Common.{ext_get_or, below_more}
use Rattle.std.proofs.lemmas.List.{length-set, get_or-set_other}
use Rattle.std.proofs.lemmas.Grind.{get_or-set_at}
use Rattle.cm_model.specs.declared.message.Message.{Message}
use Rattle.cm_model.specs.Array.{nth_or_nil}
use Rattle.cm_array.proofs.Laying.{none_stand}
use Rattle.lab_machine.proofs.copying.copied_engine.Goals as goal

pub loop-chip-init : goal.loop-chip-init
loop-chip-init g c = record {
  count = omega (arith, c.in_ok-engine.ensures.count, c.from.ensures, c.chip_count-chips.ensures.value);
  laid = λ k l. absurd (omega (arith, l));
  above = λ k l. none_stand c.from.result c.in_ok-engine.engine.buffers k c.in_ok-engine.ensures.value;
}

pub loop-chip-preserved : goal.loop-chip-preserved
loop-chip-preserved g c =
    let at = c.loop-chip.chip in
    let was : List (List Message) = c.loop-chip.engine.buffers in
    let ms : List Message = nth_or_nil was at ++ c.messages_of.result.now in
    let there : at < length was =
    omega (arith, c.loop-chip.invariant.count, c.chip_count-chips.ensures.value, c.loop-chip-test.true) in
    let same : c.from-in-loop-chip.result ≡ at = omega (arith, c.from-in-loop-chip.ensures) in
    let is : c.arrive_all.new.engine.buffers ≡ set was at ms = rw same at c.arrive_all.ensures.value in
    let here : nth_or_nil c.arrive_all.new.engine.buffers at ≡ nth_or_nil c.args.machine.now.machine.buffers at =
    ap (λ (lists : List (List Message)). nth_or_nil lists at) is ∙ get_or-set_at was at at ms [] refl there
    ∙ ap (λ (none : List Message). none ++ c.messages_of.result.now) (c.loop-chip.invariant.above at (omega arith))
    ∙ c.messages_of.ensures.value in
    let other : (k : ℕ) → k ≢ at → nth_or_nil c.arrive_all.new.engine.buffers k ≡ nth_or_nil was k =
    λ k no. ap (λ (lists : List (List Message)). nth_or_nil lists k) is ∙ get_or-set_other was at k ms [] no in
    record {
      count = ap length is ∙ length-set was at ms ∙ c.loop-chip.invariant.count;
      laid = below_more (λ k. nth_or_nil c.arrive_all.new.engine.buffers k ≡ nth_or_nil c.args.machine.now.machine.buffers k)
          at (λ k l. other k (omega arith) ∙ c.loop-chip.invariant.laid k l) here;
      above = λ k l. other k (omega arith) ∙ c.loop-chip.invariant.above k (omega arith);
    }

pub returns-clause-value : goal.returns-clause-value
returns-clause-value g c =
    c.gather.ensures.value
    ∙ ext_get_or [] c.loop-chip.engine.buffers c.args.machine.now.machine.buffers
    (c.loop-chip.invariant.count ∙ sym c.clock-clock.ensures.whole.buffer_count)
    (λ k l. c.loop-chip.invariant.laid k (omega (
      arith,
      l,
      c.loop-chip.invariant.count,
      c.chip_count-chips.ensures.value,
      c.loop-chip-test.false,
    )))
