use Rattle.std.proofs.Common.{◌≡◌, flat_map}
use Rattle.std.specs.List.{range_with_len}
use Rattle.lab_study.specs.Traces.{traces_at, by_sender}
use Rattle.lab_study.proofs.ways.Ways.after.Given as goal

-- so many chips are gone through
abbrev pub invariant-loop-chip : goal.invariant-loop-chip
invariant-loop-chip l =
    l.next ≡ by_sender l.machine.n (flat_map (traces_at l.self l.machine.machine) (range_with_len 0 l.chip))
