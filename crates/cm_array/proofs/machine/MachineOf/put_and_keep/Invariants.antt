use Rattle.std.proofs.Common.{length, map}
use Rattle.cm_array.proofs.Putting.{ArePut}
use Rattle.cm_array.proofs.machine.MachineOf.put_and_keep.Given as goal

abbrev pub invariant-loop-piece : goal.invariant-loop-piece
invariant-loop-piece g l =
    ArePut g.S.Sizes.n g.S.Sizes.cap (map (λ piece. (g.P.IntoPart.held piece).part) l.fn.pieces.items) (length l.yielded) l.at l.state
