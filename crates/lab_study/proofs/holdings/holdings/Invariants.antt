use Rattle.std.proofs.Common.{◌≡◌, flat_map}
use Rattle.std.specs.List.{range_with_len}
use Rattle.lab_study.specs.Holdings.{held_at}
use Rattle.lab_study.proofs.holdings.holdings.Given as goal

-- what so many chips hold
abbrev pub invariant-loop-chip : goal.invariant-loop-chip
invariant-loop-chip l = l.all.items ≡ flat_map (held_at l.machine.machine) (range_with_len 0 l.chip)
