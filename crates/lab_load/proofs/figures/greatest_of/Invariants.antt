use Rattle.std.proofs.Common.{◌≡◌, take, fold, max}
use Rattle.lab_load.proofs.figures.greatest_of.Given as goal

-- that of so many
abbrev pub invariant-loop-latency : goal.invariant-loop-latency
invariant-loop-latency l = l.greatest ≡ fold max 0 (take l.latency-index l.latencies)
