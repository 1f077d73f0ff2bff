use Rattle.std.proofs.Common.{◌≡◌, ◌++◌}
use Rattle.cm_tools.specs.ChipText.{lines_below, memory_line}
use Rattle.cm_tools.proofs.texts.push_memory.Given as goal

abbrev pub invariant-loop-index : goal.invariant-loop-index
invariant-loop-index l = l.text.items ≡ l.initial.text.items ++ lines_below l.index (memory_line l.chip)
