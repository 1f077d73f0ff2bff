use Rattle.std.proofs.Common.{length, take_all, ap, ◌∙◌}
use Rattle.cm_model.specs.Chip.{blank_chip}
use Rattle.cm_model.proofs.Each.{length-tabulate}
use Rattle.cm_tools.proofs.OneChip.{run-begun, run-more, run-ended, one_more}
use Rattle.cm_tools.proofs.one_chip.run_chip.Goals as goal

pub loop-nano-init : goal.loop-nano-init
loop-nano-init c = record {
  ran = run-begun c.in_ok-run.run' c.args.nanos.now c.in_ok-run.ensures.value;
  count = ap length c.in_ok-run.ensures.value ∙ length-tabulate 0 1 (λ k. blank_chip);
}

pub loop-nano-preserved : goal.loop-nano-preserved
loop-nano-preserved c = record {
  ran = run-more c.loop-nano.run c.step.new.run c.args.nanos.now c.loop-nano.nano-index c.nano-item.result
      c.loop-nano-test.true c.nano-item.is c.loop-nano.invariant.ran c.step.ensures.value;
  count = one_more c.step.new.run c.loop-nano.run c.nano-item.result c.step.ensures.value;
}

pub returns-clause-value : goal.returns-clause-value
returns-clause-value c =
    run-ended c.loop-nano.run c.args.nanos.now c.loop-nano.nano-index
    (take_all c.loop-nano.nano-index c.args.nanos.now c.loop-nano-test.false) c.loop-nano.invariant.ran
