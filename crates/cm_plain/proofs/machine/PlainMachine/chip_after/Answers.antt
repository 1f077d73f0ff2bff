use Rattle.std.proofs.Common.{ℕ, sym, ◌∙◌, ap, length, arith}
use Rattle.cm_model.specs.Each.{tabulate}
use Rattle.cm_model.specs.Instruction.{processor_after}
use Rattle.cm_model.specs.Array.{chip_at, incoming}
use Rattle.cm_model.specs.Chip.{chip_after, processor_at}
use Rattle.cm_model.proofs.Each.{length-tabulate}
use Rattle.cm_plain.proofs.Made.{tabulate-zero, pushed}
use Rattle.cm_plain.proofs.machine.PlainMachine.chip_after.Goals as goal

pub loop-number-init : goal.loop-number-init
loop-number-init g c = c.new-processors.ensures.items ∙ sym (tabulate-zero _)

pub loop-number-preserved : goal.loop-number-preserved
loop-number-preserved g c =
    let nano = c.args.nano.now in
    let chips = c.args.self.now in
    let chip = c.args.chip in
    let number_is = rw c.unwrap-proc.ensures at c.new.ensures.value in
    pushed c.loop-number.number _ c.loop-number.processors.items c.push.new.self.items c.in_ok-after.after
    c.loop-number.invariant c.in-Ok.ensures.items
    (c.in_ok-after.ensures.value
    ∙ (λ i. processor_after nano (c.incoming-incoming.ensures.value i) (c.processor.ensures.value i))
    ∙ ap (λ (p : ℕ). processor_after nano (incoming g.row.N nano chips chip p) (processor_at (chip_at chips chip) p))
    number_is)

pub invariant_of-result : goal.invariant_of-result
invariant_of-result g c = ap length c.loop-number.invariant ∙ length-tabulate 0 c.loop-number.number _ ∙ omega arith

pub returns : goal.returns
unfolding chip_after
returns g c = record {
  value = c.loop-number.invariant
      ∙ ap (λ (n : ℕ). tabulate 0 n
      (λ p. processor_after c.args.nano.now (incoming g.row.N c.args.nano.now c.args.self.now c.args.chip p)
      (processor_at (chip_at c.args.self.now c.args.chip) p))) (omega arith);
}
