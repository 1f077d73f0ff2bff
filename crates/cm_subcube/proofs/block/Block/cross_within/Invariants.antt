use Rattle.std.specs.List.{range_with_len}
use Rattle.std.proofs.Common.{map}
use Rattle.cm_model.specs.Steps.{Cross}
use Rattle.cm_subcube.specs.Blocks.{HasGone}
use Rattle.cm_subcube.proofs.block.Block.cross_within.Given as goal

abbrev pub invariant-loop-dim : goal.invariant-loop-dim
invariant-loop-dim l = HasGone (map Cross (range_with_len 0 l.dim)) l.fn.self l.self
