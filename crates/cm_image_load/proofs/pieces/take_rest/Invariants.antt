use Rattle.std.proofs.Common.{◌≡◌, ◌+◌, ◌++◌, ℕ, List, false, length}
use Rattle.std.specs.Io.KnownBytes.{Consumes}
use Rattle.cm_image_load.proofs.pieces.take_rest.Given as goal

-- what came of the source stands behind the bytes of the front
abbrev pub invariant-loop-taken : goal.invariant-loop-taken
invariant-loop-taken g l = record {
  came : (came : List ℕ) × (l.taken.items ≡ l.front ++ came)
      × Consumes (g.I.Source.left l.fn.source) (g.I.Source.left l.source) came × (length came + l.left ≡ l.most);
  working : g.I.Source.has_failed l.source ≡ false;
}

abbrev pub decreases-loop-taken : goal.decreases-loop-taken
decreases-loop-taken g l = l.left
