use Rattle.std.proofs.Common.{sym, ◌∙◌, ap, length, arith}
use Rattle.cm_model.proofs.Each.{length-tabulate}
use Rattle.cm_plain.proofs.Made.{tabulate-zero, pushed}
use Rattle.cm_plain.proofs.machine.PlainChip.blank.Goals as goal

pub loop-proc-init : goal.loop-proc-init
loop-proc-init c = c.new-processors.ensures.items ∙ sym (tabulate-zero _)

pub loop-proc-preserved : goal.loop-proc-preserved
loop-proc-preserved c =
    pushed c.loop-proc._proc _ c.loop-proc.processors.items c.push.new.self.items c.in_ok-processor.processor
    c.loop-proc.invariant c.in-Ok.ensures.items c.in_ok-processor.ensures.value

pub invariant_of-result : goal.invariant_of-result
invariant_of-result c = ap length c.loop-proc.invariant ∙ length-tabulate 0 c.loop-proc._proc _ ∙ omega arith
