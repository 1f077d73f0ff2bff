use Rattle.std.proofs.Common.{◌≡◌, ◌++◌, take}
use Rattle.std.specs.List.{flat_map}
use Rattle.lab_load.specs.Latencies.{took_cell}
use Rattle.lab_load.proofs.latencies.push_cells.Given as goal

-- those of so many loads
abbrev pub invariant-loop-load : goal.invariant-loop-load
invariant-loop-load l = l.text.items ≡ l.fn.text.items
    ++ flat_map (λ load. took_cell l.cycles load.counts.items) (take l.load-index l.loads)
