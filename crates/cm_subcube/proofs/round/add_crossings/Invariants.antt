use Rattle.std.proofs.Common.{◌≡◌, ◌++◌, ◌-◌, map}
use Rattle.std.specs.List.{range_with_len}
use Rattle.cm_subcube.specs.Rounds.{crossing_at}
use Rattle.cm_subcube.proofs.round.add_crossings.Given as goal

abbrev pub invariant-loop-dim : goal.invariant-loop-dim
invariant-loop-dim l =
    l.rounds.items ≡ l.fn.rounds.items
    ++ map (crossing_at l.at) (range_with_len (l.dims - l.k) (l.dim - (l.dims - l.k)))
