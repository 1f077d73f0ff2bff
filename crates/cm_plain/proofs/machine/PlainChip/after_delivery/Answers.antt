use Rattle.std.proofs.Common.{ℕ, sym, ◌∙◌, ap, length, arith}
use Rattle.std.specs.List.{find}
use Rattle.cm_model.specs.Each.{tabulate}
use Rattle.cm_model.specs.Chip.{processor_at}
use Rattle.cm_model.specs.Letters.{is_for, processor_after_delivery, chip_after_delivery}
use Rattle.cm_model.proofs.Each.{length-tabulate}
use Rattle.cm_plain.proofs.Made.{tabulate-zero, pushed}
use Rattle.cm_plain.proofs.machine.PlainChip.after_delivery.Goals as goal

pub loop-number-init : goal.loop-number-init
loop-number-init c = c.new-processors.ensures.items ∙ sym (tabulate-zero _)

pub loop-number-preserved : goal.loop-number-preserved
loop-number-preserved c =
    let chip = c.args.self.now in
    let messages = c.args.messages.now in
    let number_is = rw c.unwrap-proc.ensures at c.new.ensures.value in
    pushed c.loop-number.number _ c.loop-number.processors.items c.push.new.self.items c.in_ok-after.after
    c.loop-number.invariant c.in-Ok.ensures.items
    (c.in_ok-after.ensures.value
    ∙ (λ i. processor_after_delivery (c.message_for-received.ensures.value i) (c.processor.ensures.value i))
    ∙ ap (λ (p : ℕ). processor_after_delivery (find (is_for p) messages) (processor_at chip p)) number_is)

pub invariant_of-result : goal.invariant_of-result
invariant_of-result c = ap length c.loop-number.invariant ∙ length-tabulate 0 c.loop-number.number _ ∙ omega arith

pub returns : goal.returns
unfolding chip_after_delivery
returns c = record {
  value = c.loop-number.invariant
      ∙ ap (λ (n : ℕ). tabulate 0 n
      (λ p. processor_after_delivery (find (is_for p) c.args.messages.now) (processor_at c.args.self.now p)))
      (omega arith);
}
