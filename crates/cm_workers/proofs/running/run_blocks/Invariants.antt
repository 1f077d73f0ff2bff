use Rattle.std.proofs.Common.{ℕ}
use Rattle.cm_model.specs.Machine.{Machine}
use Rattle.cm_workers.specs.Runs.{StandAt}
use Rattle.cm_workers.proofs.running.run_blocks.Given as goal

abbrev pub invariant-loop-number : goal.invariant-loop-number
invariant-loop-number g l =
    (room : ℕ) (machine : Machine)
    → StandAt l.fn.sizes.dims l.fn.sizes.k room machine l.fn.run.acts.now 0 l.fn.all.blocks.items l.fn.all.posts.items
    → StandAt l.fn.sizes.dims l.fn.sizes.k room machine l.fn.run.acts.now l.number l.all.blocks.items l.all.posts.items
