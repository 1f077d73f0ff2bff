use Rattle.std.proofs.Common.{◌≡◌, take}
use Rattle.cm_subcube.specs.Rounds.{rounds_of}
use Rattle.cm_subcube.proofs.round.rounds.Given as goal

abbrev pub invariant-loop-at : goal.invariant-loop-at
invariant-loop-at l = l.rounds.items ≡ rounds_of l.dims l.k (take l.at l.acts)
