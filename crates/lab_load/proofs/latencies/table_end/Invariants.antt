use Rattle.std.proofs.Common.{◌≡◌, fold, length, max, take}
use Rattle.lab_load.proofs.latencies.table_end.Given as goal

-- of so many loads
abbrev pub invariant-loop-load : goal.invariant-loop-load
invariant-loop-load l = l.most ≡ fold (λ most load. max most (length load.counts.items)) 0 (take l.load-index l.loads)
