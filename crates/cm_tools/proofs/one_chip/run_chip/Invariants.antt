use Rattle.std.proofs.Common.{◌≡◌, length}
use Rattle.cm_tools.proofs.OneChip.{chips_after}
use Rattle.cm_tools.proofs.one_chip.run_chip.Given as goal

abbrev pub invariant-loop-nano : goal.invariant-loop-nano
invariant-loop-nano l = record {
  ran : l.run ≡ chips_after l.nanos l.nano-index;
  count : length l.run ≡ 1;
}
