use Rattle.std.proofs.Common.{drop}
use Rattle.cm_subcube.specs.Blocks.{BlockView, CanGo, HasGone}
use Rattle.cm_subcube.proofs.Acting.{steps_to_go}
use Rattle.cm_subcube.proofs.block.Block.go.Given as goal

abbrev pub invariant-loop-act : goal.invariant-loop-act
invariant-loop-act l = record {
  room : CanGo (steps_to_go (drop l.act-index l.acts) l.self) l.self;
  gone : (new : BlockView) → HasGone (steps_to_go (drop l.act-index l.acts) l.self) l.self new
      → HasGone (steps_to_go l.acts l.fn.self) l.fn.self new;
}
