use Rattle.std.proofs.Common.{◌≡◌, set, ap, ◌∙◌, arith}
use Rattle.cm_model.specs.Processor.{Processor}
use Rattle.cm_model.specs.Chip.{with_memory_bit}
use Rattle.cm_plain.proofs.Made.{processor_read}
use Rattle.cm_plain.proofs.machine.PlainChip.poke.Goals as goal

pub returns : goal.returns
unfolding with_memory_bit
returns c =
    let chip = c.self.inside.processors.items in
    let index_is : c.from.result ≡ c.args.proc = c.from.ensures ∙ c.get.ensures.value in
    let read = processor_read chip c.args.proc c.from.result c.index_mut.result.now index_is (omega arith)
    c.index_mut.ensures.value in
    record {
      value = rw (← c.self.view_is)
          (λ i. set chip (index_is i)
          ((c.poke.ensures.value ∙ ap (λ (v : Processor). record v { memory = set v.memory c.args.at c.args.bit })
          read) i));
    }
